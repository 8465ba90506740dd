use mathlib.Core.Path.{◌∙◌}
use Rattle.engine.proofs.Steps.{going-push, going-rise, ready-rise}
use Rattle.engine.proofs.advance.discharge.Goals as goal

pub returns-in_default-clause-ready_after : goal.returns-in_default-clause-ready_after
returns-in_default-clause-ready_after c =
    ready-rise _ _ _ _ _ _ _ _ _ _ _ _ _ _ _ _ _ c.loop-filling.invariant.0 c.requires.j_lt_n.0 c.in_default.ensures

pub returns-in_default-clause-advanced : goal.returns-in_default-clause-advanced
returns-in_default-clause-advanced c =
    going-rise _ _ _ _ _ _ _ _ _ _ _ _ _ _ _ _ _ c.loop-filling.invariant.0 c.requires.j_lt_n.0 c.in_default.ensures

pub loop-filling-preserved : goal.loop-filling-preserved
loop-filling-preserved c =
    let p = c.push.ensures in (
      going-push _ _ _ _ _ _ _ _ _ _ _ _ _ _ _ _ _ c.loop-filling.invariant.0 _ _ _ _ _ _ c.loop-filling-test.true
          c.in-Some.ensures p.pushed p.ready_after p.displaced,
      p.same_reference ∙ c.loop-filling.invariant.1,
      p.same_slack ∙ c.loop-filling.invariant.2,
      p.same_left ∙ c.loop-filling.invariant.3,
      p.same_height ∙ c.loop-filling.invariant.4,
    )
