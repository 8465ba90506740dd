use mathlib.Core.Path.{◌∙◌}
use mir.ValLaws.{to_z-of_z}
use mir.Syntax.{w32}
use Rattle.order.specs.Machine.{machine-back}
use Rattle.highboyrobin.proofs.Stored.{two-stored}
use Rattle.highboyrobin.proofs.answers.put_least.Goals as goal

pub returns : goal.returns
returns c =
    two-stored c.args.answer.now _ _ _ _ (to_z-of_z w32 _ c.ranges.lateness)
    (machine-back _ c.count_of.type_inv ∙ c.count_of.ensures)
    c.requires.1
