-- What a trailer that was read says of its file: whether it is good, where its lists lie, and how many there are of each.
use Rattle.std.specs.Prelude.{ℕ, ◌≡◌, refl, Bool, true, false, List}
use Rattle.std.proofs.Math.Path.{sym}
use Rattle.std.proofs.Common.{◌∙◌}
use Rattle.sums.specs.Places.{length-tabulate}
use Rattle.order.specs.Order.{processor_count, job_count}
use Rattle.order_file.specs.File.{processors_of, jobs_of, good_file, order_in}
use Rattle.order_file.specs.Inside.{trailer_of, trailer_by, Within, Placed}
use Rattle.order_file.specs.declared.Lists.{Lists}
use Rattle.std.specs.Prelude.{Option, Some, None}

good_of : (t : Bool) (l m : Lists) → trailer_by t l ≡ Some m → t ≡ true
good_of true l m e = refl
good_of false l m e = cc

bad-of : (t : Bool) (l : Lists) → trailer_by t l ≡ None → t ≡ false
bad-of true l e = cc
bad-of false l e = refl

module _ (f : List ℕ) (t : Option Lists) (is : t ≡ trailer_of f) where
  pub trailer-bad : t ≡ None → good_file f ≡ false
  unfolding trailer_of
  trailer-bad bad = bad-of (good_file f) _ (sym is ∙ bad)

  pub trailer-good : (l : Lists) → t ≡ Some l → good_file f ≡ true
  unfolding trailer_of
  trailer-good l good = good_of (good_file f) _ l (sym is ∙ good)

-- the lists that a trailer gives are the file's
pub lists-placed : (f : List ℕ) (t : Option Lists) (l : Lists) → Within f t → t ≡ Some l →
    Placed f l.processors_at l.jobs_at l.processors l.jobs
lists-placed f t l w good = rw good at w

module _ (f : List ℕ) (l : Lists) (p : Placed f l.processors_at l.jobs_at l.processors l.jobs) where
  pub processors-are : processor_count (order_in f) ≡ l.processors
  unfolding order_in
  processors-are = length-tabulate (processors_of f) _ ∙ sym p.processors-are

  pub jobs-are : job_count (order_in f) ≡ l.jobs
  unfolding order_in
  jobs-are = length-tabulate (jobs_of f) _ ∙ sym p.jobs-are
