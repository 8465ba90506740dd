use Rattle.registers.specs.HeldLaws.{number-none, number_past, number_at}
use mathlib.Core.Path.{sym}
use native.Mathlib.Omega.{arith}
use Rattle.registers.proofs.reading.row_number.Goals as goal

pub returns-then-row-eq0 : goal.returns-then-row-eq0
returns-then-row-eq0 c =
    sym (number-none c.args.rows.now c.args.which c.args.row c.if-row-eq0.true)

pub returns-then-row-gt-MOST_ROWS : goal.returns-then-row-gt-MOST_ROWS
returns-then-row-gt-MOST_ROWS c =
    sym (number_past c.args.rows.now c.args.which c.args.row c.if-row-gt-MOST_ROWS.true)

pub returns : goal.returns
returns c =
    sym (number_at c.args.rows.now c.args.which c.args.row (omega (arith, c.if-row-eq0.false))
    c.if-row-gt-MOST_ROWS.false c.requires.1)
