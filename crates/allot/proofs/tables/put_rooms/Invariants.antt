use Rattle.std.proofs.Common.{◌≡◌, suc, take}
use Rattle.sums.specs.Lists.{nth}
use Rattle.allot.specs.Tables.{Rows}
use Rattle.allot.specs.Flows.{room_on}
use Rattle.allot.proofs.tables.put_rooms.Given as goal

abbrev pub invariant-loop-s : goal.invariant-loop-s
invariant-loop-s l =
    (l.start ≡ nth l.marks l.s 0)
    × Rows l.room l.s (suc l.t.s) (room_on (take l.t.m l.t.by_memory) l.t.kinds l.marks l.opens l.closes)
