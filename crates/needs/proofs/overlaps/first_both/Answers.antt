use Rattle.std.proofs.Common.{rules}
use Rattle.needs.specs.NeedTable.{line_at}
use Rattle.needs.specs.SmallestLaws.{both-of}
use Rattle.needs.proofs.overlaps.first_both.Goals as goal
use Rattle.needs.proofs.overlaps.first_both.Goals.{then-meets_at, else-meets_at}

pub returns : goal.returns
returns c =
    let s = c.args in
    both-of (line_at s.table.now s.i) (line_at s.table.now s.k) _ c.if-meets_at.then_some _ c.max-x.ensures
    (elim c.if-meets_at.branch [ then-meets_at w ↦ search rules | else-meets_at w ↦ search rules ]) c.then_some.ensures
