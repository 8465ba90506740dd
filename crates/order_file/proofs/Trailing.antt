-- The reader's trailer: where the lists lie, and that they lie in the file.
use Prim.Native.Nat.{ℕ, ◌+◌, ◌*◌, ◌≤◌}
use mathlib.Core.Path.{◌≡◌, refl, sym, ◌∙◌}
use mathlib.Core.Bool.{Bool, true, false}
use mathlib.Core.List.{List}
use mathlib.Core.Logic.{inl, inr}
use native.Mathlib.Omega.{arith}
use lib.ListN.{length}
use Rattle.order.specs.Refusals.{shortest_file, longest_file}
use Rattle.order_file.specs.File.{processor_place, job_place, processors_of, jobs_of, lists_agree, good_file, job_width, trailer_width}
use Rattle.order_file.proofs.RoundTrip.{Agrees, lists_agree-iff, good_file-iff}
use Rattle.order_file.specs.Inside.{trailer_of, trailer_by, Placed}
use Rattle.order_file.specs.declared.Lists.{Lists}
use Rattle.std.specs.Prelude.{Some, None}

true≢false : true ≡ false → ⊥
true≢false e = let z : ◌≡◌ {A = ℕ} 0 1 = cc in omega arith

module _ (f : List ℕ) where
  abbrev lists : Lists
  lists = record { processors_at = processor_place f; jobs_at = job_place f; processors = processors_of f; jobs = jobs_of f }

  pub bad : (Agrees f → ⊥) → None ≡ trailer_of f
  unfolding trailer_of
  bad h = go (good_file f) refl
    where
      go : (t : Bool) → good_file f ≡ t → None ≡ trailer_by t lists
      go true e = absurd (h ((good_file-iff f).0 e))
      go false e = refl

  -- the numbers that were read are those of the trailer
  module _ (pa ja p j : ℕ)
      (epa : pa ≡ processor_place f) (eja : ja ≡ job_place f) (ep : p ≡ processors_of f) (ej : j ≡ jobs_of f) where
    pub other_length : (4 * p + job_width * j + trailer_width ≡ length f → ⊥) → None ≡ trailer_of f
    other_length h = bad (λ a. h (omega (arith, a.exact-length)))

    agree-read : lists_agree p j pa ja ≡ lists_agree (processors_of f) (jobs_of f) (processor_place f) (job_place f)
    agree-read = rw (epa, eja, ep, ej)

    pub other-places : lists_agree p j pa ja ≡ false → None ≡ trailer_of f
    other-places h =
        bad (λ a.
        let e = (lists_agree-iff (processors_of f) (jobs_of f) (processor_place f) (job_place f)).1 a.placed in
        true≢false (sym e ∙ sym agree-read ∙ h))

    module _ (long : shortest_file ≤ length f) (short : length f ≤ longest_file) (exact : 4 * p + job_width * j + trailer_width ≡ length f)
        (h : lists_agree p j pa ja ≡ true) where
      agrees : Agrees f
      agrees =
          record {
            long-enough = long;
            short-enough = short;
            exact-length = omega arith;
            placed = (lists_agree-iff (processors_of f) (jobs_of f) (processor_place f) (job_place f)).0 (sym agree-read ∙ h);
          }

      placed : Placed f pa ja p j
      placed =
          let inside : (pa + 4 * p ≤ length f) × (ja + job_width * j ≤ length f) =
          elim ((lists_agree-iff p j pa ja).0 h) [ inl x ↦ omega arith | inr x ↦ omega arith ] in
          record {
            short = short;
            processors-in = inside.0;
            jobs-in = inside.1;
            processors-at = epa;
            jobs-at = eja;
            processors-are = ep;
            jobs-are = ej;
          }

      pub good :
          (Some (record { processors_at = pa; jobs_at = ja; processors = p; jobs = j }) ≡ trailer_of f) × Placed f pa ja p j
      unfolding trailer_of
      good = (rw ((good_file-iff f).1 agrees) (rw (epa, eja, ep, ej)), placed)
