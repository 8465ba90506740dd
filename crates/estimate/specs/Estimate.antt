-- Document 02, §9: "Before a session is read its working time is an estimate: a low and a high." The orders with times between, the
-- path on which the times go from low to high, the first order on it with a given least lateness, and the refusals.
use Rattle.std.specs.Prelude.{ℕ, zero, suc, ◌-◌, ◌≤◌, cond, not, ◌&&◌, List, [], ◌∷◌, ◌++◌, map, ltb, ℤ, length}
use Rattle.sums.specs.Lists.{total, tabulate}
use Rattle.order.specs.Order.{Job, Order}
use Rattle.order.specs.Refusals.{
  Limits,
  TableRow,
  first,
  time_in_range,
  due_in_range,
  maker_in_range,
  fits_some,
  row,
  count_rows,
}
use Rattle.profile.specs.Least.{least_lateness}
use Rattle.profile.specs.Search.{Found, nothing, found, first_such}
use Rattle.profile.specs.Standing.{same_z}

-- a job as an order has it, with a low and a high in place of its time
pub record EstimatedJob : Type 0 where
  pub low : ℕ
  pub high : ℕ
  pub due : ℤ
  pub need : ℕ
  pub maker : ℕ

-- an order whose times are known only between two numbers
pub record Estimate : Type 0 where
  pub memories : List ℕ
  pub jobs : List EstimatedJob

-- the order with these times: processors, due times, needs and makers are the estimate's
abbrev pub job_with : EstimatedJob → ℕ → Job
job_with job time = record { time = time; due = job.due; need = job.need; maker = job.maker }

abbrev pub jobs_with : List EstimatedJob → List ℕ → List Job
jobs_with [] times = []
jobs_with (job ∷ jobs) [] = []
jobs_with (job ∷ jobs) (time ∷ times) = job_with job time ∷ jobs_with jobs times

abbrev pub order_with : Estimate → List ℕ → Order
order_with e times = record { memories = e.memories; jobs = jobs_with e.jobs times }

-- "times between": one to a job, from its low to its high, both included
abbrev pub Between : List EstimatedJob → List ℕ → Type 0
Between [] [] = Unit {0}
Between [] (time ∷ times) = ⊥
Between (job ∷ jobs) [] = ⊥
Between (job ∷ jobs) (time ∷ times) = ((job.low ≤ time) × (time ≤ job.high)) × Between jobs times

-- "at all lows and at all highs"
abbrev pub lows : Estimate → List ℕ
lows e = map (λ (job : EstimatedJob). job.low) e.jobs

abbrev pub highs : Estimate → List ℕ
highs e = map (λ (job : EstimatedJob). job.high) e.jobs

abbrev pub least_at_lows : Estimate → ℤ
least_at_lows e = least_lateness (order_with e (lows e))

abbrev pub least_at_highs : Estimate → ℤ
least_at_highs e = least_lateness (order_with e (highs e))

-- "minute by minute": of the jobs below their highs the first goes one minute up
unfoldable pub next_times : List EstimatedJob → List ℕ → List ℕ
next_times [] times = times
next_times (job ∷ jobs) [] = []
next_times (job ∷ jobs) (time ∷ times) = cond (ltb time job.high) (suc time ∷ times) (time ∷ next_times jobs times)

-- "job 1, then job 2 and so on, goes minute by minute from low to high": the times after k minutes, and how many minutes there are
unfoldable pub path_at : Estimate → ℕ → List ℕ
path_at e zero = lows e
path_at e (suc k) = next_times e.jobs (path_at e k)

abbrev pub path_length : Estimate → ℕ
path_length e = total e.jobs (λ (job : EstimatedJob). job.high - job.low)

-- "the first met": the times of the first order on the path whose least lateness is the number
unfoldable pub first_met : Estimate → ℤ → Found (List ℕ)
first_met e number =
    first_such (λ (times : List ℕ). same_z (least_lateness (order_with e times)) number)
    (tabulate (suc (path_length e)) (path_at e))

-- the order with these times, if there are any
abbrev pub order_found : Estimate → Found (List ℕ) → Found Order
order_found e nothing = nothing
order_found e (found times) = found (order_with e times)

abbrev pub order_met : Estimate → ℤ → Found Order
order_met e number = order_found e (first_met e number)

-- the rows of the refusal table: 5 for a low or a high out of range, 6, 13, 19 for "a low above its high", 7; each carries the first
-- job for which its condition holds
abbrev pub estimated_rows : Estimate → List TableRow
estimated_rows e =
    row 5 (first (λ (job : EstimatedJob). not (time_in_range job.low && time_in_range job.high)) e.jobs)
    ∷ row 6 (first (λ (job : EstimatedJob). not (due_in_range job.due)) e.jobs)
    ∷ row 13 (first (λ (job : EstimatedJob). not (maker_in_range job.maker)) e.jobs)
    ∷ row 19 (first (λ (job : EstimatedJob). ltb job.high job.low) e.jobs)
    ∷ row 7 (first (λ (job : EstimatedJob). not (fits_some job.need e.memories)) e.jobs)
    ∷ []

-- before them rows 1 to 4, on the counts
unfoldable pub estimate_rows : Limits → Estimate → List TableRow
estimate_rows most e = count_rows most (length e.memories) (length e.jobs) ++ estimated_rows e
