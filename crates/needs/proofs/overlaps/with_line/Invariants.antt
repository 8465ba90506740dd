use Rattle.needs.specs.Inside.{SmallestOf}
use Rattle.needs.specs.SmallestLaws.{twice_with}
use Rattle.needs.proofs.overlaps.with_line.Given as goal

abbrev pub invariant-loop-k : goal.invariant-loop-k
invariant-loop-k l = SmallestOf (twice_with l.table l.i l.k) l.x
