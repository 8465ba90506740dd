-- Times as natural numbers. With `top` a minute that no due time exceeds, a due time is told by its lead, how long it lies before
-- `top`, and a bound by its reach, the end of a job due at `top`, cut off at minute 0. A job's end is the reach less its lead.
use Rattle.std.specs.Prelude.{ℕ, ◌≤◌, ℤ, pos, ◌-ℤ◌, ◌≤ℤ◌}
use Rattle.sums.specs.Lists.{All}
use Rattle.order.specs.Order.{Job, Order, processor_count, job_count, Numbers, memory_of, Fits, end_at}
use Rattle.order.specs.Deadline.{cut}

abbrev pub lead : ℤ → ℤ → ℕ
lead top due = cut (top -ℤ due)

abbrev pub reach_at : ℤ → ℤ → ℕ
reach_at top bound = cut (end_at bound top)

-- the due time of a lead
abbrev pub due_at : ℤ → ℕ → ℤ
due_at top lead = top -ℤ pos lead

-- the bound of a reach
abbrev pub bound_at : ℤ → ℕ → ℤ
bound_at top reach = pos reach -ℤ end_at (pos 0) top

-- the latest due time in range
abbrev pub last_due : ℤ
last_due = pos 1000000

-- the largest reach of a bound in range
abbrev pub most_reach : ℕ
most_reach = 11000001

-- what the mathematics asks of an order: some job, and each job takes a minute or more, is due by `top` and fits a processor
pub record Workable (top : ℤ) (o : Order) : Type 0 where
  pub some-job : 1 ≤ job_count o
  pub times : All (λ (job : Job). 1 ≤ job.time) o.jobs
  pub dues : All (λ (job : Job). job.due ≤ℤ top) o.jobs
  pub fit : All (λ (job : Job). (i : ℕ) × Numbers (processor_count o) i × Fits job (memory_of o i)) o.jobs
