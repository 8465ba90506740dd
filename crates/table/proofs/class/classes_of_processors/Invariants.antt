-- the classes of the first i processors stand in the array
use Rattle.std.proofs.Common.{◌≡◌, length, get_or}
use Rattle.sums.specs.Arrays.{RowOf}
use Rattle.order.specs.Class.{class_for}
use Rattle.order.specs.Table.{order_of}
use Rattle.table.proofs.class.classes_of_processors.Given as goal

abbrev pub invariant-loop-i : goal.invariant-loop-i
invariant-loop-i l = (length l.r ≡ 16) × RowOf (λ i. class_for (order_of l.order) (get_or l.order.memories i 0)) l.i l.r
