use mathlib.Core.Path.{ap}
use native.Mathlib.Omega.{arith}
use mir.Syntax.{w32}
use mir.ValLaws.{to_z-of_z}
use Rattle.text.specs.Text.{signed_number}
use Rattle.lines.specs.Lines.{least_line}
use Rattle.text.specs.TextLaws.{put_both, put_as}
use Rattle.lines.proofs.plans.put_least.Goals as goal

pub returns : goal.returns
unfolding least_line
returns c =
    let p1 = c.put_bytes-a.ensures in
    let p2 = put_as (ap signed_number (to_z-of_z w32 c.args.lateness c.ranges.lateness))
    c.put_signed-b.ensures.0 in
    let p3 = c.put_bytes.ensures in
    (put_both p1 (put_both p2 p3), omega arith)
