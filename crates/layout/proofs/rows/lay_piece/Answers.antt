-- One row more, and the place behind it.
use mathlib.Core.Path.{refl}
use mathlib.Core.List.{[]}
use borrow.Author.Tests.{lt-ltb, le-ltb}
use Rattle.layout.proofs.Writing.{laid-row}
use Rattle.layout.proofs.rows.lay_piece.Goals as goal

pub returns-then-to-stretch : goal.returns-then-to-stretch
returns-then-to-stretch c =
    let e = c.add_row.ensures in
    (rw (lt-ltb _ _ c.if-to-stretch.true) refl, laid-row _ [] _ _ c.requires.7 c.requires.6 e)

pub returns : goal.returns
returns c =
    let e = c.add_row.ensures in
    (rw (le-ltb _ _ c.if-to-stretch.false) refl, laid-row _ [] _ _ c.requires.7 c.requires.6 e)
