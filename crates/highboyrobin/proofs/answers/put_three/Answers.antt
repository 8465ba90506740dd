use mathlib.Core.Path.{◌∙◌}
use lib.ListN.{length-set}
use Rattle.order.specs.Machine.{machine-back}
use Rattle.highboyrobin.proofs.Stored.{three-stored}
use native.Mathlib.Omega.{arith}
use Rattle.highboyrobin.proofs.answers.put_three.Goals as goal

pub bounds-answer-1 : goal.bounds-answer-1
bounds-answer-1 c = rw (length-set _ 0 _) (omega (arith, c.requires))

pub returns : goal.returns
returns c =
    three-stored c.args.answer.now _ _ _ _ _ _
    (machine-back _ c.count_of.type_inv ∙ c.count_of.ensures)
    (machine-back _ c.count_of-2.type_inv ∙ c.count_of-2.ensures)
    (machine-back _ c.count_of-3.type_inv ∙ c.count_of-3.ensures) c.requires.3
