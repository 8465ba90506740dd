use mathlib.Core.Path.{ap, ◌∙◌}
use lib.IntN.{ℤ}
use lib.ListN.{length}
use mir.Syntax.{w32}
use mir.ValLaws.{to_z-of_z}
use native.Mathlib.Omega.{arith}
use Rattle.order.specs.Table.{order_of}
use Rattle.text.specs.TextLaws.{put_first}
use Rattle.sentence.specs.Handed.{handed}
use Rattle.sentence.specs.Line.{composed}
use Rattle.sentence.proofs.Readings.{compared}
use Rattle.sentence.proofs.recover.has_line.Goals as goal

pub returns-then-n-ne0 : goal.returns-then-n-ne0
returns-then-n-ne0 c =
    let p = c.put_line-n.ensures.0 in
    let o = order_of c.args.order in
    let z = ap (λ (b : ℤ). composed o b (handed o c.args.why)) (to_z-of_z w32 c.args.bound c.ranges.bound) in
    compared o c.args.bound c.args.why _ _ c.eq.result c.eq.ensures (put_first p ∙ z)
    (λ e. c.if-n-ne0.true (omega (arith, p.next-is, ap length (put_first p), e)))
