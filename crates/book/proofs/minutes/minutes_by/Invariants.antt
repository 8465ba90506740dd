-- `minutes_by`: the invariant is that the minutes are those of the first j jobs.
use Prim.Native.Nat.{◌≤◌}
use mathlib.Core.Path.{◌≡◌}
use Rattle.sums.specs.Lists.{tabulate}
use Rattle.order.specs.Refusals.{most_makers}
use Rattle.book.proofs.Counting.{minutes_in}
use Rattle.book.proofs.minutes.minutes_by.Given as goal

abbrev pub invariant-loop-j : goal.invariant-loop-j
invariant-loop-j l = (l.j-end ≤ 48) × (l.minutes ≡ tabulate most_makers (minutes_in l.order l.j))
