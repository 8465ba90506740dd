-- What the code's values stand for: the estimate of its struct, the two numbers or the refusal, the order met, none or the refusal.
use Rattle.std.specs.Prelude.{ℕ, List, ℤ, pos, get_or, Option, Some, None, Result, Ok, Err}
use Rattle.sums.specs.Lists.{tabulate}
use Rattle.order.specs.Order.{Job, Order, no_job, job_count}
use Rattle.order.specs.Refusals.{Answer, answer, answer_by}
use Rattle.order.specs.Table.{job_at, order_of, padded, refusal_told}
use Rattle.order.specs.declared.Order.{Order as OrderTable}
use Rattle.order.specs.declared.Refusal.{Refusal}
use Rattle.profile.specs.Search.{Found, nothing, found}
use Rattle.estimate.specs.Estimate.{EstimatedJob, Estimate}
use Rattle.estimate.specs.declared.Estimate.{Estimate as EstimateTable}
use Rattle.estimate.specs.declared.Leasts.{Leasts}

-- a job with its high: its time is the low
abbrev pub estimated_job : Job → ℕ → EstimatedJob
estimated_job job high = record { low = job.time; high = high; due = job.due; need = job.need; maker = job.maker }

-- an order whose times are the lows, and the highs one to a job, 0 where there is none
abbrev pub estimated : Order → List ℕ → Estimate
estimated o highs = record {
  memories = o.memories;
  jobs = tabulate (job_count o) (λ j. estimated_job (get_or o.jobs j no_job) (get_or highs j 0));
}

-- the estimate of a struct
abbrev pub job_between : EstimateTable → ℕ → EstimatedJob
job_between t j = estimated_job (job_at t.order j) (get_or t.highs j 0)

abbrev pub estimate_of : EstimateTable → Estimate
estimate_of t = record {
  memories = (order_of t.order).memories;
  jobs = tabulate t.order.jobs (job_between t);
}

-- the least lateness at all lows and at all highs, or the refusal
abbrev pub leasts_told : Result Leasts Refusal → Answer (ℤ × ℤ)
leasts_told (Ok leasts) = answer (leasts.low, leasts.high)
leasts_told (Err why) = answer_by (refusal_told why) (pos 0, pos 0)

-- the order met, none, or the refusal
abbrev pub met_told : Result (Option OrderTable) Refusal → Answer (Found Order)
met_told (Ok (Some order)) = answer (found (order_of order))
met_told (Ok None) = answer nothing
met_told (Err why) = answer_by (refusal_told why) nothing

-- a struct with other times: 0 beyond them
abbrev pub with_times : OrderTable → List ℕ → OrderTable
with_times t times = record {
  processors = t.processors;
  memories = t.memories;
  jobs = t.jobs;
  times = padded 48 times;
  dues = t.dues;
  needs = t.needs;
  makers = t.makers;
}

-- the order that is handed out: the one handed in with the times met; none where there are none
abbrev pub handed_out : OrderTable → Found (List ℕ) → Option OrderTable
handed_out t (found times) = Some (with_times t times)
handed_out t nothing = None
