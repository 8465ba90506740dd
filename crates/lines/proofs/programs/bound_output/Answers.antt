use Rattle.std.specs.Prelude.{Err}
use mathlib.Core.Path.{refl, ap, ◌∙◌}
use native.Mathlib.Omega.{arith}
use mir.Syntax.{w32}
use mir.ValLaws.{to_z-of_z}
use Rattle.order.specs.Table.{order_of}
use Rattle.text.specs.TextLaws.{put_as}
use Rattle.lines.specs.Lines.{meets_line}
use Rattle.lines.specs.Programs.{rows_lent}
use Rattle.planner.specs.TenLaws.{ten-accepted, ten-in-range}
use Rattle.lines.proofs.Told.{blank, blank-size, met-text, tight-verdict, tight-text, unjudged-text, bound-moved}
use Rattle.lines.proofs.programs.bound_output.Goals as goal

pub put_reason-requires : goal.put_reason-requires
put_reason-requires c =
    let o = order_of c.args.order in
    let a = c.plan_at in
    let v = tight-verdict o _ blank _ a.result (a.ensures.planned_value, a.ensures.buffer_by) blank-size _ _
    (c.in-Err-TooTight.is ∙ ap Err c.in-Err-TooTight.field-0-is) in
    (ten-accepted o _ rows_lent v, ten-in-range o _ rows_lent v, omega arith)

pub returns-in-Ok : goal.returns-in-Ok
unfolding meets_line
returns-in-Ok c =
    let o = order_of c.args.order in
    let a = c.plan_at in
    let q = c.put_bytes.ensures in
    let t = met-text o _ blank _ a.result (a.ensures.planned_value, a.ensures.buffer_by) blank-size _
    c.in-Ok.is in (
      bound-moved o o _ c.args.bound _ _ _ refl (to_z-of_z w32 c.args.bound c.ranges.bound) (put_as t.0 q, t.1),
      omega (arith, q.next-is),
    )

pub returns-in-Err-TooTight : goal.returns-in-Err-TooTight
returns-in-Err-TooTight c =
    let o = order_of c.args.order in
    let a = c.plan_at in
    let q = c.put_reason.ensures in
    let t = tight-text o _ blank _ a.result (a.ensures.planned_value, a.ensures.buffer_by) blank-size _ _
    (c.in-Err-TooTight.is ∙ ap Err c.in-Err-TooTight.field-0-is) a.ensures.reason_told in (
      bound-moved o o _ c.args.bound _ _ _ refl (to_z-of_z w32 c.args.bound c.ranges.bound) (put_as t.0 q.0, t.1),
      q.1,
    )

pub returns-in-Err-Refused : goal.returns-in-Err-Refused
returns-in-Err-Refused c =
    let o = order_of c.args.order in
    let a = c.plan_at in
    let q = c.refused_output.ensures in
    let t = unjudged-text o _ blank _ a.result (a.ensures.planned_value, a.ensures.buffer_by) blank-size _
    (c.in-Err-Refused.is ∙ ap Err c.in-Err-Refused.field-0-is) in (
      bound-moved o o _ c.args.bound _ _ _ refl (to_z-of_z w32 c.args.bound c.ranges.bound) (put_as t.0 q.0, q.2 ∙ t.1),
      omega (arith, q.1),
    )
