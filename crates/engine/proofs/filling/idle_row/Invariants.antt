use Rattle.engine.specs.Start.{IdleRow}
use Rattle.engine.proofs.filling.idle_row.Given as goal

abbrev pub invariant-loop-s : goal.invariant-loop-s
invariant-loop-s l = IdleRow l.room l.initial.w l.w l.n l.q l.m l.s
