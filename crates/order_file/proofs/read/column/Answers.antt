-- `column`: at first every place is 0, then one place more is stored.
use Rattle.std.proofs.Common.{arith}
use Rattle.order_file.specs.PaddedLaws.{padded-none, padded-more}
use Rattle.order_file.proofs.read.column.Goals as goal

pub loop-i-init : goal.loop-i-init
loop-i-init g c = padded-none g.row.PLACES 0 _

pub loop-i-preserved : goal.loop-i-preserved
loop-i-preserved g c = padded-more g.row.PLACES _ 0 _ _ _ (omega arith) c.loop-i.invariant c.read4.ensures
