use Prim.Native.Nat.{◌/◌}
use mathlib.Core.Path.{ap}
use lib.Dec.{ltb}
use Rattle.planner.proofs.room.is_short.Goals as goal

pub returns : goal.returns
returns c = ap (ltb (c.args.lent / 4)) c.rows_of.ensures.0
