-- The soundness half of Lai and Sahni's theorem, over document 01's own definitions: where any plan is right, in any number
-- of parts to the minute, there is no reason against the bound.
use Rattle.std.specs.Prelude.{ℕ, ◌≤◌, List, ℤ, length}
use Rattle.std.specs.Int.Signed.{clash_ℤ}
use Rattle.order.specs.Order.{Order, job_count, Numbers, job_of}
use Rattle.order.specs.Class.{classes}
use Rattle.order.specs.Lead.{Workable}
use Rattle.plan.specs.Plan.{Row, RightInParts}
use Rattle.profile.specs.Profile.{Overfull}
use Rattle.profile.specs.Reason.{Reason, over_end, stairs, InTime, IsReason}
use Rattle.amounts.specs.Profile.{feasible-no-profile}
use Rattle.wrap.specs.Flows.{jobs_for, jobs-on-marks}
use Rattle.feasible.specs.InTime.{plan-in-time}
use Rattle.feasible.specs.Matches.{jobs-match}
use Rattle.feasible.specs.PlanAmounts.{plan-amounts}
use Rattle.feasible.specs.Overfull.{overfull-profile}

-- For every order that the mathematics takes (every accepted one), every whole number, every p from 1 on and every finite list of
-- rows: a right plan leaves no job over its end and no overfull staircase.
pub sound : {top : ℤ} (o : Order) → Workable top o → (bound : ℤ) (p : ℕ) → 1 ≤ p → (rows : List Row) → RightInParts p o bound rows →
    ((j : ℕ) → Numbers (job_count o) j → InTime bound (job_of o j)) × ((dues : List ℤ) → ¬ Overfull o bound dues)
sound o work bound p parts rows right =
    let in-time = plan-in-time work parts right in (
      in-time,
      λ dues full.
          feasible-no-profile (jobs_for o bound) (jobs-on-marks o bound work in-time) (length (classes o))
          (plan-amounts o bound parts right)
          (overfull-profile o bound in-time (jobs_for o bound) (jobs-match o bound) dues full),
    )

-- Where some plan in parts is right, nothing is a reason.
pub no-reason-where-met : {top : ℤ} (o : Order) → Workable top o → (bound : ℤ) (p : ℕ) → 1 ≤ p → (rows : List Row) →
    RightInParts p o bound rows → (reason : Reason) → ¬ IsReason o bound reason
no-reason-where-met o work bound p parts rows right (over_end j) r =
    clash_ℤ r.over ((sound o work bound p parts rows right).0 j r.a-job)
no-reason-where-met o work bound p parts rows right (stairs dues) r =
    (sound o work bound p parts rows right).1 dues r.stairs.overfull
