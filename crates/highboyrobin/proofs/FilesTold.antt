-- How hbr_write comes to its verdict: the answer's room, whole jobs, then the writer; lists that are too long for the writer's
-- struct are refused as its table refuses them.
use Rattle.std.specs.Prelude.{Result, Ok, Err}
use Prim.Native.Nat.{ℕ, ◌+◌, ◌*◌, ◌/◌, ◌%◌, ◌≤◌, ◌<◌}
use mathlib.Core.Path.{◌≡◌, refl, sym, ap, ◌∙◌, subst}
use mathlib.Core.Logic.{◌≢◌}
use mathlib.Core.List.{List, [], ◌∷◌, ◌++◌}
use native.Mathlib.Omega.{arith}
use borrow.Author.Tests.{lt-ltb, le-ltb, eq-eqb, ne_eqb}
use lib.IntN.{ℤ, pos}
use lib.ListN.{length}
use Rattle.sums.specs.Places.{length-tabulate}
use Rattle.order.specs.Order.{Order, processor_count, job_count}
use Rattle.order.specs.Refusals.{limits, Verdict, accepted, refused, judge, answer_by, left_by, room_row, count_rows, order_rows}
use Rattle.order.proofs.RefusalLaws.{judge-accepted, counts-in-limits}
use Rattle.order.specs.Table.{refusal_told}
use Rattle.order.specs.declared.Refusal.{Refusal}
use Rattle.order_file.specs.File.{file_length, write_rows, written_by, ReadBackBy}
use Rattle.order_file.specs.Told.{written_told}
use Rattle.highboyrobin.specs.Results.{result_of}
use Rattle.highboyrobin.specs.Calls.{order_from, write_call}
use Rattle.order.proofs.TableLaws.{refused-told, verdict-refused, verdict-accepted}

-- result, file, that it is read back, and answer, by the verdict
module _ (v : Verdict) (o : Order) (file : List ℕ) (entry : List ℤ) where
  abbrev pub WriteEnded : ℕ → List ℕ → List ℤ → Type 0
  WriteEnded result file' exit =
      (result ≡ result_of v)
      × ((file' ≡ written_by v o file) × (ReadBackBy v o file' × (exit ≡ left_by v (pos (file_length o) ∷ []) entry)))

  pub write-refused : (number job : ℕ) → v ≡ refused number job → (file' : List ℕ) → file' ≡ file →
      WriteEnded (number + 256 * job) file' entry
  write-refused number job e file' k = rw e (refl, (k, (tt, refl)))

  pub write-told : (why : Refusal) → v ≡ refusal_told why → (result : ℕ) → result ≡ result_of (refusal_told why) →
      (file' : List ℕ) → file' ≡ file → WriteEnded result file' entry
  write-told why e result r file' k =
      let t = refused-told why in
      subst (λ (n : ℕ). WriteEnded n file' entry) (sym (r ∙ ap result_of t.2)) (write-refused t.0 t.1 (e ∙ t.2) file' k)

-- the rows before the writer's
module _ (memories jobs : List ℕ) (lent answer : ℕ) where
  abbrev v : Verdict
  v = judge (write_call memories jobs lent answer)

  module _ (room : 1 ≤ answer) where
    module _ (whole-jobs : length jobs % 4 ≡ 0) where
      pub writer-decides : v ≡ judge (write_rows (order_from memories jobs) lent)
      unfolding judge write_call
      writer-decides = rw (le-ltb answer 1 room, eq-eqb (length jobs % 4) 0 whole-jobs)

      pub many-processors : 16 < length memories → v ≡ refused 2 0
      unfolding judge write_rows order_from
      many-processors h = writer-decides ∙ rw (ne_eqb (length memories) 0 (omega arith), lt-ltb 16 (length memories) h)

      pub no-processor : length memories ≡ 0 → v ≡ refused 1 0
      unfolding judge write_rows order_from
      no-processor h = writer-decides ∙ rw (eq-eqb (length memories) 0 h)

      pub many-jobs : length memories ≢ 0 → length memories ≤ 16 → 192 < length jobs → v ≡ refused 4 0
      unfolding judge write_rows order_from
      many-jobs some few h =
          writer-decides
          ∙ rw (
            ne_eqb (length memories) 0 some,
            le-ltb 16 (length memories) few,
            length-tabulate (length jobs / 4) _,
            ne_eqb (length jobs / 4) 0 (omega arith),
            lt-ltb 48 (length jobs / 4) (omega arith),
          )

-- what the writer's answer says, of the struct's order and of the lists'
abbrev pub WriteTold : Order → List ℕ → List ℕ → Result ℕ Refusal → Type 0
WriteTold o file file' w =
    (written_told w ≡ answer_by (judge (write_rows o (length file))) (file_length o))
    × ((file' ≡ written_by (judge (write_rows o (length file))) o file) × ReadBackBy (judge (write_rows o (length file))) o file')

pub write-moved : (o o' : Order) (file file' : List ℕ) (w : Result ℕ Refusal) → o ≡ o' → WriteTold o file file' w →
    WriteTold o' file file' w
write-moved o o' file file' w e t = subst (λ (x : Order). WriteTold x file file' w) e t

module _ (o : Order) (file file' : List ℕ) where
  abbrev told : Verdict
  told = judge (write_rows o (length file))

  pub writer-refused : (why : Refusal) → WriteTold o file file' (Err why) → (told ≡ refusal_told why) × (file' ≡ file)
  writer-refused why t =
      let x = verdict-refused told why 0 (file_length o) t.0 in
      let r = refused-told why in
      (x, t.1.0 ∙ ap (λ (v : Verdict). written_by v o file) (x ∙ r.2))

  pub writer-wrote : (n : ℕ) → WriteTold o file file' (Ok n) →
      (told ≡ accepted) × (n ≡ file_length o) × (file' ≡ written_by told o file) × ReadBackBy told o file'
  writer-wrote n t =
      let x = verdict-accepted told n (file_length o) t.0 in
      (x.0, x.1, t.1.0, t.1.1)

-- a file that is written is short: its order is accepted
pub file-few : (o : Order) (n : ℕ) → judge (write_rows o n) ≡ accepted → file_length o ≤ 844
unfolding write_rows
file-few o n a =
    let h = (judge-accepted (order_rows limits o ++ (room_row n (file_length o) ∷ []))).0 a in
    let c = counts-in-limits (processor_count o) (job_count o)
    ((judge-accepted (count_rows limits (processor_count o) (job_count o))).1 (h.0, (h.1.0, (h.1.1.0, (h.1.1.1.0, tt))))) in
    omega (arith, c.1, c.3)
