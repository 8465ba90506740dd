use mathlib.Core.Path.{sym}
use native.Mathlib.Omega.{arith}
use Rattle.plan.specs.Check.{row_at}
use Rattle.lines.specs.LineLaws.{pieces_none, pieces_more}
use Rattle.text.specs.TextLaws.{put-none, put_as, put_both}
use Rattle.lines.proofs.plans.put_rows.Goals as goal

pub loop-i-init : goal.loop-i-init
loop-i-init c = (omega arith, put_as (sym pieces_none) (put-none c.args.out.now c.args.at (omega arith)))

pub loop-i-preserved : goal.loop-i-preserved
loop-i-preserved c =
    let l = c.loop-i in
    let q = c.put_row_at-next.ensures in
    (omega arith, put_as (pieces_more l.i (row_at c.args.rows.now)) (put_both l.invariant.1 q.0))
