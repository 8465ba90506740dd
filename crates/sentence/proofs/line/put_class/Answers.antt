use mathlib.Core.Path.{ap}
use mir.Syntax.{w32}
use mir.ValLaws.{to_z-of_z}
use Rattle.text.specs.Text.{signed_number}
use Rattle.text.specs.TextLaws.{put_both, put_as}
use native.Mathlib.Omega.{arith}
use Rattle.sentence.proofs.line.put_class.Goals as goal

pub returns : goal.returns
returns c =
    let p1 = c.put_bytes-a.ensures in
    let p2 = c.put_number-b.ensures.0 in
    let p3 = c.put_bytes-c.ensures in
    let p4 = put_as (ap signed_number (to_z-of_z w32 c.args.due c.ranges.due)) c.put_signed.ensures.0 in
    (put_both p1 (put_both p2 (put_both p3 p4)), omega arith)
