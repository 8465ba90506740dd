use Rattle.std.proofs.Common.{◌-◌, get_or}
use Rattle.allot.specs.Tables.{Put}
use Rattle.timed.proofs.moments.put_minutes.Given as goal

abbrev pub invariant-loop-i : goal.invariant-loop-i
invariant-loop-i l = Put l.initial.out l.out l.at l.i (λ i. 11000001 - get_or l.minutes i 0)
