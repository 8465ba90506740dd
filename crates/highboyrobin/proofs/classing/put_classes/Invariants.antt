use Rattle.std.proofs.Common.{◌≡◌, ◌*◌, ◌++◌, get_or, drop}
use Rattle.highboyrobin.specs.ClassCalls.{pairs_to}
use Rattle.highboyrobin.proofs.classing.put_classes.Given as goal

abbrev pub invariant-loop-i : goal.invariant-loop-i
invariant-loop-i l = l.list ≡ pairs_to (λ i. get_or l.found.memories i 0) (λ i. get_or l.found.procs i 0) l.i ++ drop (2 * l.i) l.initial.list
