-- the numbers of the first i groups stand in the column, and 0 behind them
use Rattle.std.proofs.Common.{◌+◌, ◌*◌, ◌≡◌, get_or}
use Rattle.order_file.specs.Inside.{padded_to}
use Rattle.highboyrobin.proofs.lists.column_of.Given as goal

abbrev pub invariant-loop-i : goal.invariant-loop-i
invariant-loop-i g l = l.column ≡ padded_to g.row.N l.i 0 (λ k. get_or l.list (l.group * k + l.place) 0)
