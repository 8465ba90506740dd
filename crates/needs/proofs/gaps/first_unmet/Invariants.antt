use Rattle.std.proofs.Common.{◌-◌}
use Rattle.needs.specs.SmallestLaws.{Climbed}
use Rattle.needs.proofs.gaps.first_unmet.Given as goal

abbrev pub invariant-loop-x : goal.invariant-loop-x
invariant-loop-x l = Climbed l.table l.n l.x

abbrev pub decreases-loop-x : goal.decreases-loop-x
decreases-loop-x l = 100001 - l.x
