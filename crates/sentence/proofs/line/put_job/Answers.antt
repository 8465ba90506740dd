use mathlib.Core.Path.{ap}
use mir.Syntax.{w32}
use mir.ValLaws.{to_z-of_z}
use Rattle.text.specs.Text.{signed_number}
use Rattle.text.specs.TextLaws.{put_both, put_as}
use native.Mathlib.Omega.{arith}
use Rattle.sentence.proofs.line.put_job.Goals as goal

pub returns : goal.returns
returns c =
    let p1 = c.put_bytes-a.ensures in
    let p2 = c.put_number-b.ensures.0 in
    let p3 = c.put_bytes-c.ensures in
    let p4 = c.put_number-d.ensures.0 in
    let p5 = c.put_bytes-e.ensures in
    let p6 = put_as (ap signed_number (to_z-of_z w32 c.args.end c.ranges.end)) c.put_signed.ensures.0 in
    (put_both p1 (put_both p2 (put_both p3 (put_both p4 (put_both p5 p6)))), omega arith)
