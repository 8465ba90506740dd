use mathlib.Core.Path.{◌≡◌, sym, subst}
use native.Mathlib.Omega.{arith}
use lib.IntN.{ℤ}
use lib.Signed.{◌≤ℤ◌, ◌<ℤ◌}
use mir.Syntax.{w32}
use mir.ValLaws.{to_z-of_z}
use Rattle.order.specs.Whole.{≤ℤ-<ℤ-trans}
use Rattle.estimate.specs.Request.{least_along, along-rises}
use Rattle.estimate.specs.Told.{estimate_of}
use Rattle.estimate.proofs.Answers.{along-below, along-reached}
use Rattle.estimate.proofs.met.first_reached.Goals as goal

pub loop-low-init : goal.loop-low-init
loop-low-init c = (
  c.requires.estimate_value,
  omega arith,
  omega arith,
  c.requires.last_bound.0,
  subst (λ (z : ℤ). z ≤ℤ least_along (estimate_of c.args.estimate) c.args.last)
      (sym (to_z-of_z w32 c.args.number c.ranges.number))
      c.requires.last_bound.1,
  λ i l. absurd (omega arith),
)

pub least_after-requires : goal.least_after-requires
least_after-requires c = c.loop-low.invariant.0

pub loop-low-preserved-then-least_after-number : goal.loop-low-preserved-then-least_after-number
loop-low-preserved-then-least_after-number c =
    let l = c.loop-low in
    let e = estimate_of c.args.estimate in
    let below = along-below e l.invariant.0 _ _ _ c.least_after.ensures c.if-least_after-number.true in (
      l.invariant.0,
      omega arith,
      omega arith,
      l.invariant.3,
      l.invariant.4,
      λ i b. ≤ℤ-<ℤ-trans _ _ _ (along-rises e l.invariant.0 i _ (omega arith)) below,
    )

pub loop-low-preserved : goal.loop-low-preserved
loop-low-preserved c =
    let l = c.loop-low in
    let e = estimate_of c.args.estimate in (
      l.invariant.0,
      omega arith,
      omega arith,
      l.invariant.3,
      along-reached e l.invariant.0 _ _ _ c.least_after.ensures c.if-least_after-number.false,
      l.invariant.5,
    )

pub returns : goal.returns
returns c =
    let l = c.loop-low in
    let back = to_z-of_z w32 c.args.number c.ranges.number in
    let e : l.low ≡ l.high = omega arith in (
      l.invariant.2,
      subst (λ (z : ℤ). z ≤ℤ least_along (estimate_of c.args.estimate) l.high) back l.invariant.4,
      λ i b. subst (λ (z : ℤ). least_along (estimate_of c.args.estimate) i <ℤ z) back (l.invariant.5 i (omega arith)),
    )
