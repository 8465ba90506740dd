use Rattle.std.proofs.Common.{◌≡◌, ◌*◌, ◌≤◌}
use Rattle.sums.specs.Sum.{sum}
use Rattle.estimate.specs.Inside.{width_at}
use Rattle.estimate.proofs.path.minutes_between.Given as goal

abbrev pub invariant-loop-j : goal.invariant-loop-j
invariant-loop-j l = (l.minutes ≡ sum l.j (width_at l.lows l.highs)) × (l.minutes ≤ 100000 * l.j)
