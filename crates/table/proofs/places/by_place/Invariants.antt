-- the values of the first k numbers stand in the array
use Rattle.std.proofs.Common.{◌≡◌, length}
use Rattle.sums.specs.Arrays.{RowOf}
use Rattle.sums.specs.Lists.{nth}
use Rattle.table.specs.Held.{beside}
use Rattle.table.proofs.places.by_place.Given as goal

abbrev pub invariant-loop-k : goal.invariant-loop-k
invariant-loop-k l = (length l.r ≡ 48) × RowOf (λ k. nth l.values (beside l.numbers k) 0) l.k l.r
