use Rattle.layout.proofs.Opening.{Opening}
use Rattle.layout.proofs.opened.open_processors.Given as goal

abbrev pub invariant-loop-i : goal.invariant-loop-i
invariant-loop-i l =
    Opening l.opens l.closes l.start l.end l.i-items l.i-index l.list l.count
