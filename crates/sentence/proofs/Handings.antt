-- A reason that is handed in, by its kind.
use Rattle.std.specs.Prelude.{Option, None, Some}
use Prim.Native.Nat.{ℕ, ◌≤◌, ◌<◌}
use mathlib.Core.Path.{◌≡◌, refl, sym, ap, ◌∙◌}
use mathlib.Core.Bool.{Bool, true, false, cond, ◌&&◌}
use mathlib.Core.List.{List, []}
use borrow.Author.Tests.{le-leb, lt-leb}
use lib.Dec.{eqb}
use lib.IntN.{ℤ}
use lib.ListN.{length, take, drop}
use Rattle.order.specs.Order.{Order, job_of}
use Rattle.profile.specs.Reason.{over_end, stairs}
use Rattle.profile.specs.Search.{nothing, found}
use Rattle.reason.specs.declared.Reason.{Reason}
use Rattle.reason.specs.declared.Reason.TheVariants.{Job, Stairs}
use Rattle.reason.specs.declared.Why.{Why}
use Rattle.sentence.specs.Handed.{all_zero, handed, handed_by}
use Rattle.sentence.specs.Inside.{job_composed}
use Rattle.sentence.specs.Line.{composed}
use Rattle.sentence.specs.LineLaws.{composed-nothing}

module _ (o : Order) (bound : ℤ) (why : Why) where
  pub met-none : why.reason ≡ None → composed o bound (handed o why) ≡ []
  met-none e = ap (λ (t : Option Reason). composed o bound (handed_by o t why.dues)) e ∙ composed-nothing o bound

  module _ (r : Reason) (e : why.reason ≡ Some r) (b : Bool) where
    -- a job
    module _ (j time : ℕ) (f : r ≡ Job j time) (z : b ≡ all_zero why.dues) where
      job-told : handed o why ≡ handed_by o (Some (Job j time)) why.dues
      job-told = ap (λ (t : Option Reason). handed_by o t why.dues) e ∙ ap (λ (s : Reason). handed_by o (Some s) why.dues) f

      both : (a c : Bool) → c ≡ true → (a && c) ≡ a
      both true c e = e
      both false c e = refl

      neither : (a c : Bool) → c ≡ false → (a && c) ≡ false
      neither true c e = e
      neither false c e = refl

      pub job-beside : b ≡ false → composed o bound (handed o why) ≡ []
      job-beside h =
          ap (composed o bound) job-told
          ∙ (ap (λ (c : Bool). composed o bound (cond c (found (over_end j)) nothing))
          (neither (eqb time (job_of o j).time) (all_zero why.dues) (sym z ∙ h)) ∙ composed-nothing o bound)

      pub job-handed : b ≡ true → job_composed o bound j time ≡ composed o bound (handed o why)
      job-handed h =
          sym (ap (composed o bound) job-told
          ∙ ap (λ (c : Bool). composed o bound (cond c (found (over_end j)) nothing))
          (both (eqb time (job_of o j).time) (all_zero why.dues) (sym z ∙ h)))

  -- a staircase
  pub stairs-told : (r : Reason) → why.reason ≡ Some r → (k : ℕ) → r ≡ Stairs k →
      composed o bound (handed_by o (Some (Stairs k)) why.dues) ≡ composed o bound (handed o why)
  stairs-told r e k f =
      sym (ap (λ (t : Option Reason). composed o bound (handed_by o t why.dues)) e
      ∙ ap (λ (s : Reason). composed o bound (handed_by o (Some s) why.dues)) f)

-- a staircase of k classes
module _ (o : Order) (bound : ℤ) (dues : List ℤ) (k : ℕ) where
  pub stairs-beyond : length dues < k → composed o bound (handed_by o (Some (Stairs k)) dues) ≡ []
  stairs-beyond h =
      ap (λ (c : Bool). composed o bound (cond (c && all_zero (drop k dues)) (found (stairs (take k dues))) nothing))
      (lt-leb k (length dues) h) ∙ composed-nothing o bound

  module _ (few : k ≤ length dues) (b : Bool) (z : b ≡ all_zero (drop k dues)) where
    within : handed_by o (Some (Stairs k)) dues ≡ cond b (found (stairs (take k dues))) nothing
    within =
        ap (λ (c : Bool). cond (c && all_zero (drop k dues)) (found (stairs (take k dues))) nothing) (le-leb k (length dues) few)
        ∙ ap (λ (c : Bool). cond c (found (stairs (take k dues))) nothing) (sym z)

    pub stairs-beside : b ≡ false → composed o bound (handed_by o (Some (Stairs k)) dues) ≡ []
    stairs-beside h =
        ap (composed o bound) (within ∙ ap (λ (c : Bool). cond c (found (stairs (take k dues))) nothing) (h))
        ∙ composed-nothing o bound

    pub stairs-handed : b ≡ true →
        composed o bound (found (stairs (take k dues))) ≡ composed o bound (handed_by o (Some (Stairs k)) dues)
    stairs-handed h =
        sym (ap (composed o bound) (within ∙ ap (λ (c : Bool). cond c (found (stairs (take k dues))) nothing) (h)))
