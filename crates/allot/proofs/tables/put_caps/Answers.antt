use Rattle.std.proofs.Common.{arith}
use Rattle.engine.specs.View.{row-end}
use Rattle.allot.proofs.Writing.{rows_more}
use Rattle.allot.proofs.tables.put_caps.Goals as goal

pub loop-j-preserved : goal.loop-j-preserved
loop-j-preserved c =
    let l = c.loop-j in
    let a = c.args in
    let row = c.put_caps_row in
    rows_more l.cap l.j a.q (omega (arith, row-end l.j a.q a.n c.loop-j-test.true, c.requires.6, l.auto.cap)) row.auto.row row.ensures l.invariant
