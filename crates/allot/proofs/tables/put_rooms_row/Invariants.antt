use Rattle.std.proofs.Common.{◌*◌}
use Rattle.sums.specs.Arrays.{RowOf}
use Rattle.sums.specs.Sum.{sum}
use Rattle.allot.specs.Tables.{count_of}
use Rattle.allot.proofs.tables.put_rooms_row.Given as goal

abbrev pub invariant-loop-k : goal.invariant-loop-k
invariant-loop-k l = RowOf (λ k. sum k (count_of l.counts) * l.minutes) l.k l.row
