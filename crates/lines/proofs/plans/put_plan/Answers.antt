use mathlib.Core.Path.{sym, ap}
use native.Mathlib.Omega.{arith}
use mir.Syntax.{w32}
use mir.ValLaws.{to_z-of_z}
use Rattle.sums.specs.Places.{length-tabulate}
use Rattle.plan.specs.Check.{row_at}
use Rattle.lines.specs.Lines.{least_line, end_line, plan_lines}
use Rattle.text.specs.TextLaws.{put_both, put_as}
use Rattle.lines.proofs.plans.put_plan.Goals as goal

pub returns : goal.returns
unfolding plan_lines
returns c =
    let p1 = put_as (ap least_line (to_z-of_z w32 c.args.lateness c.ranges.lateness))
    c.put_least-a.ensures.0 in
    let p2 = c.put_rows-b.ensures.0 in
    let p3 = put_as (ap end_line (sym (length-tabulate c.args.count (row_at c.args.rows.now))))
    c.put_end.ensures.0 in
    (put_both p1 (put_both p2 p3), omega arith)
