-- the places before i hold the numbers at `first` of the parts, the others 0
use Rattle.std.proofs.Common.{◌+◌, ◌*◌, ◌≡◌}
use Rattle.order_file.specs.Bytes.{number4}
use Rattle.order_file.specs.Inside.{padded_to}
use Rattle.order_file.proofs.read.column.Given as goal

abbrev pub invariant-loop-i : goal.invariant-loop-i
invariant-loop-i g l = l.out ≡ padded_to g.row.PLACES l.i 0 (λ k. number4 l.list (l.width * k + l.first))
