use Rattle.text.proofs.Digits.{Tail}
use Rattle.text.proofs.put.put_decimal.Given as goal

abbrev pub invariant-loop-place : goal.invariant-loop-place
invariant-loop-place l = Tail l.initial.out l.at l.n l.behind l.out l.place l.rest
