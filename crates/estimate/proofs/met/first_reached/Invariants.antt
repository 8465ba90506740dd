use Prim.Native.Nat.{ℕ, ◌-◌, ◌≤◌, ◌<◌}
use mathlib.Core.Path.{◌≡◌}
use lib.Signed.{◌≤ℤ◌, ◌<ℤ◌}
use Rattle.order.specs.Refusals.{limits, accepted, judge}
use Rattle.estimate.specs.Estimate.{estimate_rows}
use Rattle.estimate.specs.Request.{least_along}
use Rattle.estimate.specs.Told.{estimate_of}
use Rattle.estimate.proofs.met.first_reached.Given as goal

abbrev pub invariant-loop-low : goal.invariant-loop-low
invariant-loop-low l =
    (judge (estimate_rows limits (estimate_of l.estimate)) ≡ accepted)
    × (l.low ≤ l.high)
    × (l.high ≤ l.last)
    × (l.last ≤ 4799952)
    × (l.number ≤ℤ least_along (estimate_of l.estimate) l.high)
    × ((i : ℕ) → i < l.low → least_along (estimate_of l.estimate) i <ℤ l.number)

abbrev pub decreases-loop-low : goal.decreases-loop-low
decreases-loop-low l = l.high - l.low
