-- The completeness half of Lai and Sahni's theorem: where there is no reason against a whole number, some right plan meets it.
-- No profile is overfull, so no cut violates, so feasible amounts exist, and their layout is a right plan.
use Rattle.std.specs.Prelude.{ℕ, List, ℤ, length}
use Rattle.std.proofs.Common.{arith}
use Rattle.order.specs.Order.{Order}
use Rattle.order.specs.Class.{classes}
use Rattle.order.specs.Lead.{Workable}
use Rattle.plan.specs.Plan.{Row, Meets}
use Rattle.profile.proofs.ReasonLaws.{NoReason}
use Rattle.amounts.specs.Profile.{no-profile-feasible}
use Rattle.wrap.specs.Stretches.{FeasibleFor}
use Rattle.wrap.specs.Layout.{layout}
use Rattle.wrap.proofs.LayoutRight.{layout-right}
use Rattle.wrap.specs.Flows.{jobs_for, by_number, flow-feasible, jobs-met, jobs-in-time, jobs-on-marks, jobs-high}
use Rattle.feasible.specs.Matches.{jobs-match}
use Rattle.feasible.specs.Overfull.{profile-overfull}

-- where there is no reason, feasible amounts exist
pub amounts-exist : {top : ℤ} (o : Order) → Workable top o → (bound : ℤ) → NoReason o bound → (a : ℕ → ℕ → ℕ) × FeasibleFor o bound a
amounts-exist o work bound none =
    let found =
    no-profile-feasible (jobs_for o bound) (jobs-on-marks o bound work none.0) (length (classes o))
    (jobs-in-time o bound work none.0) (jobs-met o bound) (λ j l. jobs-high o j)
    (λ profile.
    let full = profile-overfull o bound none.0 (jobs_for o bound) (jobs-match o bound) (omega arith) profile in
    none.1 full.0 full.1)
    in
    (by_number found.0, flow-feasible o bound found.1)

-- For every such order and every whole number with no reason, some right plan meets it.
pub complete : {top : ℤ} (o : Order) → Workable top o → (bound : ℤ) → NoReason o bound → (rows : List Row) × Meets o bound rows
complete o work bound none =
    let a = amounts-exist o work bound none in
    (layout o bound a.0, layout-right o bound a.0 a.1)
