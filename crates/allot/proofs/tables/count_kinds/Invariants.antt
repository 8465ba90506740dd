use Rattle.allot.proofs.Shares.{Counting}
use Rattle.allot.proofs.tables.count_kinds.Given as goal

abbrev pub invariant-loop-i : goal.invariant-loop-i
invariant-loop-i l = Counting l.kinds l.i-items l.counts l.i-index
