use Rattle.std.proofs.Common.{◌≡◌, ◌-◌}
use Rattle.sums.specs.Sum.{sum}
use Rattle.estimate.specs.Inside.{width_at, array_after}
use Rattle.estimate.proofs.path.times_after.Given as goal

abbrev pub invariant-loop-j : goal.invariant-loop-j
invariant-loop-j l =
    (l.left ≡ l.k - sum l.j (width_at l.lows l.highs)) × (l.out ≡ array_after l.lows l.highs l.j l.k)
