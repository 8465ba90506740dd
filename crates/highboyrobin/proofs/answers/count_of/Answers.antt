use Rattle.order.specs.Machine.{machine-low}
use Rattle.highboyrobin.proofs.answers.count_of.Goals as goal

pub returns : goal.returns
returns c = machine-low _ c.requires
