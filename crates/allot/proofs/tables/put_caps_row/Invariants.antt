use Rattle.std.proofs.Common.{◌≡◌}
use Rattle.sums.specs.Arrays.{RowOf}
use Rattle.sums.specs.Lists.{nth}
use Rattle.allot.specs.Flows.{cap_at}
use Rattle.allot.proofs.tables.put_caps_row.Given as goal

abbrev pub invariant-loop-s : goal.invariant-loop-s
invariant-loop-s l = (l.start ≡ nth l.marks l.s 0) × RowOf (cap_at l.marks l.ready l.until) l.s l.row
