use Rattle.std.proofs.Common.{◌≡◌, ◌+◌, ◌-◌, ◌*◌, get_or}
use Rattle.sums.specs.Sum.{sum}
use Rattle.allot.proofs.tables.idle_minutes.Given as goal

abbrev pub invariant-loop-s : goal.invariant-loop-s
invariant-loop-s l = l.total ≡ sum l.s (λ s. get_or l.room (s * l.m + (l.m - 1)) 0)
