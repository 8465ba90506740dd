use Rattle.text.specs.TextLaws.{decimal-size-max}
use Rattle.text.proofs.put.digits_of.Goals as goal

pub returns : goal.returns
returns c = decimal-size-max c.args.n c.max.result c.ilog10.result c.max.ensures c.ilog10.ensures.power_le c.ilog10.ensures.next_power_gt
