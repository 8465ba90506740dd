-- Jobs by falling need stand by class, and what the classes up to k hold is a sum over the jobs in this order; no classes
-- have more processors than there are.
use Rattle.std.specs.Prelude.{ℕ, zero, suc, ◌≤◌, ◌≡◌, refl, Bool, leb, eqb, length}
use Rattle.std.proofs.Common.{sym, ap, ◌∙◌, arith, eq-eqb, ne_eqb}
use Rattle.sums.specs.Sum.{sum, sum-ge, sum-only}
use Rattle.sums.specs.Lists.{Pairwise, total, only}
use Rattle.sums.specs.Members.{in-All}
use Rattle.sums.specs.Totals.{only-le, total-le, total-ones, total-tabulate}
use Rattle.sums.specs.Pairs.{Pairwise-map}
use Rattle.order.specs.Order.{Order, job_count, processor_count, Numbers, job_of}
use Rattle.order.specs.Sorted.{job_order}
use Rattle.order.specs.Class.{classes, class_for, class_of, processors_to}
use Rattle.order.proofs.ClassLaws.{class-antitone, class-at-most, processors_to-is}
use Rattle.order.specs.OrderingLaws.{jobs-ordered}
use Rattle.wrap.specs.Stretches.{held_up_to}

-- the class of the job with a number
abbrev pub class_by : Order → ℕ → ℕ
class_by o j = class_of o (job_of o j)

-- there are no later classes than the last
pub class-by-at-most : (o : Order) (j : ℕ) → class_by o j ≤ length (classes o)
unfolding class_of
class-by-at-most o j = class-at-most o (job_of o j).need

-- the minutes of the jobs of the classes up to k, in the jobs' order
pub held-in-order : (o : Order) (a : ℕ → ℕ → ℕ) (k s : ℕ) →
    held_up_to o a k s ≡ total (job_order o) (λ j. only (leb (class_by o j) k) (a j s))
unfolding held_up_to
held-in-order o a k s =
    sym ((jobs-ordered o).sums (λ j. only (leb (class_by o j) k) (a j s))
    ∙ total-tabulate (job_count o) suc (λ j. only (leb (class_by o j) k) (a j s)))

-- jobs by falling need stand by class
pub classes-in-order : (o : Order) → Pairwise (λ i j. class_by o i ≤ class_by o j) (job_order o)
unfolding class_of
classes-in-order o =
    Pairwise-map _ _ (job_order o) (λ i j h. class-antitone o (job_of o j).need (job_of o i).need h) (jobs-ordered o).falls

-- no classes have more processors than there are
pub processors_to-at-most : (o : Order) (k : ℕ) → processors_to o k ≤ processor_count o
processors_to-at-most o k =
    omega (
      arith,
      processors_to-is o k,
      total-ones o.memories,
      total-le o.memories (λ m. only (leb (class_for o m) k) 1) (λ m. 1)
          (in-All _ o.memories (λ m i. only-le (leb (class_for o m) k) 1)),
    )

-- a number's own term alone counts
pub sum_number : (n j : ℕ) (f : ℕ → ℕ) → Numbers n j → sum n (λ i. only (eqb (suc i) j) (f (suc i))) ≡ f j
sum_number n zero f b = absurd (omega arith)
sum_number n (suc j) f b =
    omega (
      arith,
      ap (λ (t : Bool). only t (f (suc j))) (eq-eqb (suc j) (suc j) refl),
      sum-ge n j (λ i. only (eqb (suc i) (suc j)) (f (suc i))) b.1,
      sum-only n j (λ i. only (eqb (suc i) (suc j)) (f (suc i)))
          (λ i ne. ap (λ (t : Bool). only t (f (suc i))) (ne_eqb (suc i) (suc j) (λ e. ne (omega arith)))),
    )
