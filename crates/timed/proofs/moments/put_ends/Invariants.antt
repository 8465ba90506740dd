use Rattle.std.proofs.Common.{◌+◌, get_or}
use Rattle.allot.specs.Tables.{Put}
use Rattle.timed.proofs.moments.put_ends.Given as goal

abbrev pub invariant-loop-i : goal.invariant-loop-i
invariant-loop-i l = Put l.initial.out l.out l.at l.i (λ i. get_or l.fn.leads i 0 + l.shift)
