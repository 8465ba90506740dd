use native.Mathlib.Omega.{arith}
use Rattle.lines.specs.Lines.{piece_line}
use Rattle.text.specs.TextLaws.{put_both}
use Rattle.lines.proofs.plans.put_row.Goals as goal

pub returns : goal.returns
unfolding piece_line
returns c =
    let p1 = c.put_bytes-a.ensures in
    let p2 = c.put_number-b.ensures.0 in
    let p3 = c.put_number-c.ensures.0 in
    let p4 = c.put_number-d.ensures.0 in
    let p5 = c.put_number-e.ensures.0 in
    let p6 = c.put_bytes.ensures in
    (put_both p1 (put_both p2 (put_both p3 (put_both p4 (put_both p5 p6)))), omega arith)
