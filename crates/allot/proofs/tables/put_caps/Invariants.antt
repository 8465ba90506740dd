use Rattle.allot.specs.Tables.{Rows}
use Rattle.allot.specs.Flows.{cap_on}
use Rattle.allot.proofs.tables.put_caps.Given as goal

abbrev pub invariant-loop-j : goal.invariant-loop-j
invariant-loop-j l = Rows l.cap l.j l.q (cap_on l.marks l.ready l.until)
