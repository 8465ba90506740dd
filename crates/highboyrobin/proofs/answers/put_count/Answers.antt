use mathlib.Core.Path.{◌∙◌}
use Rattle.order.specs.Machine.{machine-back}
use Rattle.highboyrobin.proofs.Stored.{one-stored}
use Rattle.highboyrobin.proofs.answers.put_count.Goals as goal

pub returns : goal.returns
returns c = one-stored c.args.answer.now _ _ (machine-back _ c.count_of.type_inv ∙ c.count_of.ensures)
    c.requires.1
