use native.Mathlib.Omega.{arith}
use Rattle.lines.specs.Lines.{tight_line}
use Rattle.text.specs.TextLaws.{put_both}
use Rattle.lines.proofs.answers.put_job.Goals as goal

pub returns : goal.returns
unfolding tight_line
returns c =
    let p1 = c.put_bytes-a.ensures in
    let p2 = c.put_number-b.ensures.0 in
    let p3 = c.put_bytes.ensures in
    (put_both p1 (put_both p2 p3), omega arith)
