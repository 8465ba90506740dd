use Rattle.amounts.specs.State.{Barred}
use Rattle.engine.specs.View.{flow_in, fill_in}
use Rattle.engine.proofs.moves.find.Given as goal

abbrev pub invariant-loop-s : goal.invariant-loop-s
invariant-loop-s l = Barred (flow_in l.given) (fill_in l.given l.filling) l.j l.s
