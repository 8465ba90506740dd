use Rattle.needs.specs.NeedTable.{met_twice}
use Rattle.needs.specs.Inside.{first_lines, SmallestOf}
use Rattle.needs.proofs.overlaps.first_twice.Given as goal

abbrev pub invariant-loop-i : goal.invariant-loop-i
invariant-loop-i l = SmallestOf (met_twice (first_lines l.table l.i)) l.x
