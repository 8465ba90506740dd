use Rattle.std.proofs.Common.{get_or}
use Rattle.sums.specs.Arrays.{RowOf}
use Rattle.allot.proofs.tables.put_classes.Given as goal

abbrev pub invariant-loop-j : goal.invariant-loop-j
invariant-loop-j l = RowOf (λ i. get_or l.fn.classes i 0) l.j l.class
