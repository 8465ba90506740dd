-- Document 01: "`to` is at most the job's end" and "the lengths of a job's rows add up to its time exactly". So where any
-- plan is right, in any parts of a minute, no job's time exceeds its end.
use Rattle.std.specs.Prelude.{ℕ, ◌*◌, ◌≤◌, ◌<◌, ◌≡◌, List, eqb, ℤ}
use Rattle.std.proofs.Common.{ap, arith, eqb-true}
use Rattle.std.proofs.Math.Nat.{le_of_mul-le-mul_left}
use Rattle.sums.specs.Lists.{All, total, only}
use Rattle.sums.specs.Totals.{only-cong, total-cong}
use Rattle.sums.specs.Members.{All-map, All-both, All-nth}
use Rattle.order.specs.Order.{Job, Order, job_count, Numbers, job_of, end_of, no_job}
use Rattle.order.specs.Deadline.{deadline_of}
use Rattle.order.specs.Lead.{Workable}
use Rattle.plan.specs.Plan.{Row, Forward, lengths_of, RightInParts}
use Rattle.plan.proofs.RuleLaws.{forwards}
use Rattle.profile.specs.Reason.{InTime}
use Rattle.order.specs.Ends.{≤-of-cut, ≤-mul-cut}
use Rattle.feasible.specs.Packing.{clip, packing-key}

module _ {p : ℕ} {o : Order} {bound : ℤ} {rows : List Row} (right : RightInParts p o bound rows) where
  pub all-forward : All Forward rows
  all-forward = forwards o rows right.well-formed

  -- a row goes forward and ends by its job's deadline
  pub by-deadline : All (λ (r : Row). (r.from < r.to) × (r.to ≤ p * deadline_of bound (job_of o r.job))) rows
  unfolding deadline_of
  by-deadline =
      All-map _ _ rows
      (λ (r : Row) h. (h.0, ≤-mul-cut r.to p (end_of bound (job_of o r.job)) (omega (arith, h.0)) h.1))
      (All-both _ _ rows all-forward right.by_end)

  -- the whole of a job's rows lies before its deadline
  rows_inside : (j : ℕ) →
      lengths_of j rows ≡ total rows (λ (r : Row). only (eqb r.job j) (clip 0 (p * deadline_of bound (job_of o j)) r))
  rows_inside j =
      total-cong rows _ _ (All-map _ _ rows
      (λ (r : Row) h. only-cong (eqb r.job j) _ _ (λ e.
      omega (arith, h, ap (λ (i : ℕ). p * deadline_of bound (job_of o i)) (eqb-true r.job j e))))
      by-deadline)

  -- a job's time is at most its deadline
  pub time-in-deadline : 1 ≤ p → (j : ℕ) → Numbers (job_count o) j → (job_of o j).time ≤ deadline_of bound (job_of o j)
  time-in-deadline parts j b =
      le_of_mul-le-mul_left {k = p}
      (omega (
        arith,
        rows_inside j,
        right.whole j b,
        packing-key (λ r. r.job) j rows right.jobs-apart all-forward 0 (p * deadline_of bound (job_of o j)),
      ))
      parts

-- where some plan is right, in any parts, no job's time exceeds its end
pub plan-in-time : {top : ℤ} {o : Order} {bound : ℤ} {p : ℕ} {rows : List Row} → Workable top o → 1 ≤ p →
    RightInParts p o bound rows → (j : ℕ) → Numbers (job_count o) j → InTime bound (job_of o j)
unfolding deadline_of
plan-in-time {top} {o} {bound} work parts right j b =
    ≤-of-cut (job_of o j).time (end_of bound (job_of o j))
    (All-nth (λ (job : Job). 1 ≤ job.time) o.jobs no_job work.times j b.0 b.1) (time-in-deadline right parts j b)
