-- Laws of the formula's parts: the heaviest profile, and what a reach is that is not below the least.
use Rattle.std.specs.Prelude.{ℕ, suc, ◌+◌, ◌*◌, ◌≤◌, ◌<◌, List, ℤ, length}
use native.Mathlib.Omega.{arith}
use Rattle.sums.specs.Lists.{All, In}
use Rattle.sums.specs.Members.{in-All}
use Rattle.sums.specs.Most.{ceiling, largest-le, le-largest, most-le, most-ge, ceiling-le, le-ceiling}
use Rattle.order.specs.Order.{Job, Order}
use Rattle.order.specs.Sorted.{due_times}
use Rattle.order.specs.Class.{classes, processors_to}
use Rattle.order.proofs.ClassLaws.{processors_to-some}
use Rattle.order.specs.Lead.{lead}
use Rattle.profile.specs.Search.{choices}
use Rattle.profile.specs.Least.{weight_from, heaviest, least_reach}

module _ (o : Order) (top : ℤ) where
  -- the heaviest profile of k classes weighs at most r exactly if each does
  heaviest-le : (k r : ℕ) → ((es : List ℤ) → In es (choices k (due_times o)) → weight_from top o 1 es ≤ r) → heaviest top o k ≤ r
  unfolding heaviest
  heaviest-le k r h = largest-le (weight_from top o 1) (choices k (due_times o)) r (in-All _ (choices k (due_times o)) h)

  le-heaviest : (k : ℕ) (es : List ℤ) → In es (choices k (due_times o)) → weight_from top o 1 es ≤ heaviest top o k
  unfolding heaviest
  le-heaviest k es i = le-largest (weight_from top o 1) (choices k (due_times o)) es i

  -- the least reach is at most r exactly if each time and lead are, and no profile weighs more than the processors of its classes times r
  pub reach-le : (r : ℕ) → All (λ (job : Job). job.time + lead top job.due ≤ r) o.jobs →
      ((k : ℕ) → k < length (classes o) → (es : List ℤ) → In es (choices (suc k) (due_times o)) →
      weight_from top o 1 es ≤ processors_to o (suc k) * r) →
      least_reach top o ≤ r
  unfolding least_reach
  reach-le r times weights =
      omega (
        arith,
        largest-le (λ (job : Job). job.time + lead top job.due) o.jobs r times,
        most-le (length (classes o)) r (λ k. ceiling (heaviest top o (suc k)) (processors_to o (suc k))) (λ k l.
            ceiling-le (heaviest top o (suc k)) (processors_to o (suc k)) r (processors_to-some o k l)
            (heaviest-le (suc k) (processors_to o (suc k) * r) (weights k l))),
      )

  module _ (r : ℕ) (h : least_reach top o ≤ r) where
    pub times-reached : All (λ (job : Job). job.time + lead top job.due ≤ r) o.jobs
    unfolding least_reach
    times-reached =
        in-All _ o.jobs (λ (job : Job) i.
        omega (arith, le-largest (λ (job : Job). job.time + lead top job.due) o.jobs job i))

    pub weights-reached : (k : ℕ) → k < length (classes o) → (es : List ℤ) → In es (choices (suc k) (due_times o)) →
        weight_from top o 1 es ≤ processors_to o (suc k) * r
    unfolding least_reach
    weights-reached k l es i =
        omega (
          arith,
          le-heaviest (suc k) es i,
          le-ceiling (heaviest top o (suc k)) (processors_to o (suc k)) r (processors_to-some o k l)
              (omega (arith, most-ge (length (classes o)) k (λ k. ceiling (heaviest top o (suc k)) (processors_to o (suc k))) l)),
        )
