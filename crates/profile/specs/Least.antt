-- The least lateness as a formula. With `top` a minute that no due time exceeds, a profile of k classes is overfull exactly if its
-- weight, which does not mention the bound, exceeds the processors of its classes times the reach.
use Rattle.std.specs.Prelude.{ℕ, suc, ◌+◌, ◌-◌, ◌*◌, max, List, [], ◌∷◌, eqb, ℤ, length}
use Rattle.sums.specs.Lists.{total, only}
use Rattle.sums.specs.Most.{largest, most, ceiling}
use Rattle.order.specs.Order.{Job, Order}
use Rattle.order.specs.Class.{classes, class_of, processors_in, processors_to}
use Rattle.order.specs.Sorted.{due_times}
use Rattle.order.specs.Lead.{lead, bound_at, last_due}
use Rattle.profile.specs.Search.{choices}

-- what a job owes at a lead
abbrev pub owed_at : ℤ → ℕ → Job → ℕ
owed_at top g job = job.time - (g - lead top job.due)

-- what class k weighs at a lead: the minutes owed by its jobs, and its processors times the lead
unfoldable pub weight_at : ℤ → Order → ℕ → ℕ → ℕ
weight_at top o k g = total o.jobs (λ (job : Job). only (eqb (class_of o job) k) (owed_at top g job)) + processors_in o k * g

-- what a profile weighs, from class k on
unfoldable pub weight_from : ℤ → Order → ℕ → List ℤ → ℕ
weight_from top o k [] = 0
weight_from top o k (due ∷ dues) = weight_at top o k (lead top due) + weight_from top o (suc k) dues

-- the heaviest profile of k classes
unfoldable pub heaviest : ℤ → Order → ℕ → ℕ
heaviest top o k = largest (weight_from top o 1) (choices k (due_times o))

-- the least reach at which every job has its time by its end and no profile is overfull
unfoldable pub least_reach : ℤ → Order → ℕ
least_reach top o =
    max (largest (λ (job : Job). job.time + lead top job.due) o.jobs)
    (most (length (classes o)) (λ k. ceiling (heaviest top o (suc k)) (processors_to o (suc k))))

-- its bound, whatever `top` is; that of an accepted order
abbrev pub least_from : ℤ → Order → ℤ
least_from top o = bound_at top (least_reach top o)

unfoldable pub least_lateness : Order → ℤ
least_lateness o = least_from last_due o
