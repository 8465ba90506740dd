use mathlib.Core.Path.{◌∙◌}
use native.Mathlib.Omega.{arith}
use Prim.Native.Nat.{suc}
use Rattle.amounts.specs.End.{done-feasible, stuck-cut, gap-cut}
use Rattle.engine.proofs.Steps.{run-high, run-gap, run-turn}
use Rattle.engine.proofs.filling.fill.Goals as goal
use Rattle.engine.proofs.filling.fill.Goals.{else-h-gt1-via-then-h-gt1+else-not-stands, else-h-gt1-via-else-h-gt1}

pub returns-then-given-h-clause-answer : goal.returns-then-given-h-clause-answer
returns-then-given-h-clause-answer c =
    let R = c.loop-j.invariant.0 in
    let P = c.in-Some.ensures in
    stuck-cut _ _ _ R.order R.state _ P.job c.if-given-h.true P.active

pub returns-then-given-h-clause-fill_run : goal.returns-then-given-h-clause-fill_run
returns-then-given-h-clause-fill_run c =
    let v = c.loop-j.invariant in
    run-high _ _ _ _ _ _ _ _ _ _ _ _ v.5.0 v.5.1 _ c.in-Some.ensures c.if-given-h.true

pub returns-then-not-stands-clause-answer : goal.returns-then-not-stands-clause-answer
returns-then-not-stands-clause-answer c =
    let R = c.loop-j.invariant.0 in
    let P = c.in-Some.ensures in
    gap-cut _ _ _ R.order R.state _ (omega arith) c.if-not-stands.ensures _ P.job (omega arith) P.active

pub returns-then-not-stands-clause-fill_run : goal.returns-then-not-stands-clause-fill_run
returns-then-not-stands-clause-fill_run c =
    let v = c.loop-j.invariant in
    run-gap _ _ _ _ _ _ _ _ _ _ _ _ v.5.0 v.5.1 _ c.in-Some.ensures (omega arith) c.if-not-stands.ensures

pub loop-j-preserved : goal.loop-j-preserved
loop-j-preserved c =
    let v = c.loop-j.invariant in
    let a = c.discharge.ensures in (
      a.ready_after,
      a.same_reference ∙ v.1,
      a.same_slack ∙ v.2,
      a.same_left ∙ v.3,
      a.same_height ∙ v.4,
      (
        suc v.5.0,
        run-turn _ _ _ _ _ _ _ _ _ _ _ _ v.5.0 v.5.1 _ c.in-Some.ensures _ c.if-given-h.false
            (λ h.
            elim c.else-h-gt1.branch [
              | else-h-gt1-via-then-h-gt1+else-not-stands t ↦ t.if-not-stands.ensures
              | else-h-gt1-via-else-h-gt1 t ↦ absurd (omega (arith, t.if-h-gt1.false))
            ])
            a.discharge_run,
      ),
    )

pub returns-clause-answer : goal.returns-clause-answer
returns-clause-answer c =
    let R = c.loop-j.invariant.0 in
    done-feasible _ _ _ R.order R.state c.in_default.ensures
