-- How the writer puts its answer together: acceptance decides alone where it refuses, else the room in the buffer does.
use denote.Param.Laws.{field_told}
use denote.Struct.Field.{u32-field}
use denote.Struct.Laws.{u32-laws}
use Prim.Native.Nat.{ℕ, ◌+◌, ◌*◌, ◌≤◌, ◌<◌}
use mathlib.Core.Path.{◌≡◌, refl, sym, ap, subst, ◌∙◌}
use mathlib.Core.List.{List, [], ◌∷◌, ◌++◌, map, append_assoc}
use native.Mathlib.Omega.{arith}
use borrow.Author.Tests.{lt-ltb, le-ltb}
use lib.ListN.{length, take, drop}
use mir.Val.{of_list, WTs}
use Rattle.sums.specs.Lists.{All}
use Rattle.order.specs.Order.{Order}
use Rattle.order.specs.Refusals.{
  limits,
  TableRow,
  Verdict,
  accepted,
  refused,
  judge,
  Answer,
  answer,
  refusal,
  answer_by,
  order_rows,
  room_row,
}
use Rattle.order.proofs.RefusalLaws.{judge-refused-append, judge-accepted-append}
use Rattle.order.proofs.StructLaws.{job-count, processor-count, few-jobs, few-processors}
use Rattle.order.specs.Table.{Acceptance, order_of, refusal_told, acceptance_told}
use Rattle.order.proofs.TableLaws.{refused-told}
use Rattle.order.specs.declared.Order.{Order as OrderTable}
use Rattle.order.specs.declared.Refusal.{Refusal}
use Rattle.std.specs.Prelude.{Ok, Err}
use Rattle.order_file.specs.File.{
  processor_bytes,
  job_bytes,
  trailer_bytes,
  file_of,
  file_length,
  write_rows,
  written_by,
  ReadBackBy,
  job_width,
  trailer_width,
}
use Rattle.order_file.specs.FileLaws.{length-processor_bytes, length-job_bytes}
use Rattle.order_file.proofs.RoundTrip.{Bounded, read_back}
use Rattle.order_file.proofs.Stores.{Front, front-more}

-- what the writer answers and leaves in the buffer, by the verdict, and that it is read back
abbrev pub WrittenBy : Verdict → Order → List ℕ → Answer ℕ → List ℕ → Type 0
WrittenBy v o buffer told after =
    (told ≡ answer_by v (file_length o)) × ((after ≡ written_by v o buffer) × ReadBackBy v o after)

-- the elements of an array of u32
pub array-small : (xs : List ℕ) → WTs (of_list (map (λ x. (field_told u32-field u32-laws).val x) xs)) → All (λ x. x < 4294967296) xs
array-small [] h = tt
array-small (x ∷ xs) h = (h.0.fits, array-small xs h.1)

module _ (t : OrderTable) (a : Acceptance) (e : acceptance_told a ≡ judge (order_rows limits (order_of t))) where
  good : a ≡ Ok tt → judge (order_rows limits (order_of t)) ≡ accepted
  good is = sym e ∙ ap acceptance_told is

  pub counts-few : a ≡ Ok tt → (t.processors ≤ 16) × (t.jobs ≤ 48)
  counts-few is = (few-processors t (good is), few-jobs t (good is))

  module _ (buffer : List ℕ) where
    abbrev room : List TableRow
    room = room_row (length buffer) (file_length (order_of t)) ∷ []

    abbrev verdict : Verdict
    verdict = judge (write_rows (order_of t) (length buffer))

    pub refused-written : (r : Refusal) → a ≡ Err r →
        WrittenBy verdict (order_of t) buffer (answer_by (refusal_told r) 0) buffer
    unfolding write_rows
    refused-written r is =
        let told = refused-told r in
        let v : judge (order_rows limits (order_of t)) ≡ refused told.0 told.1 = sym e ∙ ap acceptance_told is ∙ told.2 in
        let w = judge-refused-append (order_rows limits (order_of t)) room told.0 told.1 v in
        rw (told.2, w) (refl, (refl, tt))

    module _ (is : a ≡ Ok tt) where
      room-decides : judge (write_rows (order_of t) (length buffer)) ≡ judge room
      unfolding write_rows
      room-decides = judge-accepted-append (order_rows limits (order_of t)) room (good is)

      pub too_short : length buffer < 4 * t.processors + job_width * t.jobs + trailer_width →
          WrittenBy verdict (order_of t) buffer (refusal 9 0) buffer
      unfolding judge
      too_short h =
          rw (room-decides, lt-ltb (length buffer) (file_length (order_of t)) (omega (arith, processor-count t, job-count t)))
          (refl, (refl, tt))

      -- the three parts, stored one after the other, are the file
      module _ (o₁ o₂ o₃ : List ℕ) (enough : 4 * t.processors + job_width * t.jobs + trailer_width ≤ length buffer)
          (e₁ : o₁ ≡ processor_bytes (order_of t).memories ++ drop (4 * t.processors) buffer)
          (e₂ : o₂ ≡ take (4 * t.processors) o₁ ++ (job_bytes (order_of t).jobs ++ drop (4 * t.processors + job_width * t.jobs) o₁))
          (e₃ : o₃ ≡ take (4 * t.processors + job_width * t.jobs) o₂
          ++ (trailer_bytes t.processors t.jobs ++ drop (4 * t.processors + job_width * t.jobs + trailer_width) o₂))
          (small : Bounded (order_of t)) where
        processors-stored : Front buffer (4 * t.processors) (processor_bytes (order_of t).memories) o₁
        processors-stored =
            record {
              is = e₁;
              size = length-processor_bytes (order_of t).memories ∙ ap (λ (n : ℕ). 4 * n) (processor-count t);
              inside = omega arith;
            }

        abbrev processors : List ℕ
        processors = processor_bytes (order_of t).memories

        abbrev jobs : List ℕ
        jobs = job_bytes (order_of t).jobs

        jobs-stored : Front buffer (4 * t.processors + job_width * t.jobs) (processors ++ jobs) o₂
        jobs-stored =
            front-more buffer _ _ o₁ processors-stored (job_width * t.jobs) jobs o₂
            (length-job_bytes (order_of t).jobs ∙ ap (λ (n : ℕ). job_width * n) (job-count t)) (omega arith) e₂

        all-stored : o₃ ≡ file_of (order_of t) ++ drop (file_length (order_of t)) buffer
        unfolding file_of
        all-stored =
            rw (processor-count t, job-count t)
            ((front-more buffer _ _ o₂ jobs-stored trailer_width (trailer_bytes t.processors t.jobs) o₃ refl enough e₃).is
            ∙ ap (λ (l : List ℕ). l ++ drop (4 * t.processors + job_width * t.jobs + trailer_width) buffer)
            (append_assoc processors jobs (trailer_bytes t.processors t.jobs)))

        accepts : verdict ≡ accepted
        unfolding judge
        accepts =
            room-decides
            ∙ rw (le-ltb (length buffer) (file_length (order_of t)) (omega (arith, processor-count t, job-count t)))

        written : o₃ ≡ written_by verdict (order_of t) buffer
        written = rw accepts all-stored

        pub file-written : WrittenBy verdict (order_of t) buffer (answer (4 * t.processors + job_width * t.jobs + trailer_width)) o₃
        file-written = (
          rw accepts (ap answer (omega (arith, processor-count t, job-count t))),
          (written, subst (ReadBackBy verdict (order_of t)) (sym written) (read_back (order_of t) buffer small)),
        )
