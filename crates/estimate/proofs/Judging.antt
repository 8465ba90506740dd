-- The first bad job of an estimate's order is that of the estimate, and its counts are those of the struct.
use Rattle.std.specs.Prelude.{◌≡◌, refl, not, ◌++◌, get_or}
use Rattle.sums.specs.Places.{length-tabulate}
use Rattle.order.specs.Order.{Job}
use Rattle.order.specs.Refusals.{limits, count_rows, first, due_in_range, maker_in_range, fits_some}
use Rattle.order.proofs.FindingLaws.{first-agree}
use Rattle.order.specs.Table.{order_of, job_at}
use Rattle.estimate.specs.Estimate.{EstimatedJob, estimated_rows, estimate_rows}
use Rattle.estimate.specs.Told.{job_between, estimate_of}
use Rattle.estimate.specs.declared.Estimate.{Estimate as EstimateTable}

module _ (t : EstimateTable) where
  pub due_same : first (λ (job : Job). not (due_in_range job.due)) (order_of t.order).jobs
      ≡ first (λ (job : EstimatedJob). not (due_in_range job.due)) (estimate_of t).jobs
  due_same = first-agree _ _ t.order.jobs (job_at t.order) (job_between t) (λ i. refl)

  pub maker_same : first (λ (job : Job). not (maker_in_range job.maker)) (order_of t.order).jobs
      ≡ first (λ (job : EstimatedJob). not (maker_in_range job.maker)) (estimate_of t).jobs
  maker_same = first-agree _ _ t.order.jobs (job_at t.order) (job_between t) (λ i. refl)

  pub need_same : first (λ (job : Job). not (fits_some job.need (order_of t.order).memories)) (order_of t.order).jobs
      ≡ first (λ (job : EstimatedJob). not (fits_some job.need (estimate_of t).memories)) (estimate_of t).jobs
  need_same = first-agree _ _ t.order.jobs (job_at t.order) (job_between t) (λ i. refl)

  pub rows_are : estimate_rows limits (estimate_of t) ≡ count_rows limits t.order.processors t.order.jobs ++ estimated_rows (estimate_of t)
  unfolding estimate_rows
  rows_are =
      rw (length-tabulate t.order.processors (λ i. get_or t.order.memories i 0), length-tabulate t.order.jobs (job_between t))
