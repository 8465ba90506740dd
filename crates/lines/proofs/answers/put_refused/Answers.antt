use mathlib.Core.Path.{ap}
use native.Mathlib.Omega.{arith}
use Rattle.text.specs.Text.{number}
use Rattle.lines.specs.Lines.{refused_line}
use Rattle.text.specs.TextLaws.{put_both, put_as}
use Rattle.lines.proofs.answers.put_refused.Goals as goal

pub returns : goal.returns
unfolding refused_line
returns c =
    let p1 = c.put_bytes-a.ensures in
    let p2 = put_as (ap number
    c.number_of.ensures.0)
    c.put_number-b.ensures.0 in
    let p3 = put_as (ap number c.carried_of.ensures)
    c.put_number-c.ensures.0 in
    let p4 = c.put_bytes.ensures in
    (put_both p1 (put_both p2 (put_both p3 p4)), omega arith)
