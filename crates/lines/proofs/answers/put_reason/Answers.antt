use Rattle.std.specs.Prelude.{Some}
use mathlib.Core.Path.{ap, ◌∙◌}
use native.Mathlib.Omega.{arith}
use lib.IntN.{ℤ}
use lib.ListN.{length}
use mir.Syntax.{w32}
use mir.ValLaws.{to_z-of_z}
use Rattle.order.specs.Refusals.{bound_in_range}
use Rattle.order.specs.Table.{order_of}
use Rattle.sentence.specs.Handed.{handed}
use Rattle.sentence.specs.Line.{composed}
use Rattle.text.specs.TextLaws.{put_both, put_as, put_first}
use Rattle.lines.proofs.answers.put_reason.Goals as goal

pub put_line-n-requires : goal.put_line-n-requires
put_line-n-requires c =
    (c.requires.0, ap bound_in_range (to_z-of_z w32 c.args.bound c.ranges.bound) ∙ c.requires.1, omega arith)

pub slice_bounds-put_bytes-end : goal.slice_bounds-put_bytes-end
slice_bounds-put_bytes-end c =
    let p = c.put_line-n.ensures.0 in
    omega (arith, p.next-is, ap length (put_first p))

pub put_bytes-end-requires : goal.put_bytes-end-requires
put_bytes-end-requires c =
    let p = c.put_line-n.ensures in
    omega (arith, p.1, p.0.next-is, ap length (put_first p.0))

pub put_bytes-requires : goal.put_bytes-requires
put_bytes-requires c =
    let p = c.put_line-n.ensures in
    omega (arith, p.1, p.0.next-is, ap length (put_first p.0))

pub returns : goal.returns
returns c =
    let o = order_of c.args.order in
    let p1 = c.put_tight-behind.ensures in
    let line = c.put_line-n.ensures in
    let p2 = c.put_bytes-end.ensures in
    let p3 = c.put_bytes.ensures in
    let same = ap (λ (b : ℤ). composed o b (handed o (record { reason = Some c.args.reason; dues = c.args.dues })))
    (to_z-of_z w32 c.args.bound c.ranges.bound) in (
      put_both p1.0 (put_both (put_as (put_first line.0 ∙ same) p2) p3),
      omega (arith, p1.1, line.1, line.0.next-is, p2.next-is, p3.next-is, ap length (put_first line.0)),
    )
