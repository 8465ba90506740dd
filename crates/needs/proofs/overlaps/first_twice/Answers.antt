use Rattle.needs.specs.SmallestLaws.{none-twice}
use Rattle.needs.proofs.overlaps.first_twice.Goals as goal

pub loop-i-init : goal.loop-i-init
loop-i-init c = none-twice c.args.table.now
