use Rattle.highboyrobin.proofs.Answering.{plan-told}
use Rattle.highboyrobin.proofs.Screening.{for-refused, same-replies-at, PlanAt}
use Rattle.highboyrobin.specs.ScreenCallLaws.{plan-itself}
use Rattle.order.specs.declared.Caller.TheVariants.{Screen}
use Rattle.order_file.specs.File.{order_in}
use Rattle.planner.specs.AnswerLaws.{plan-begins}
use lib.ListN.{length}
use mathlib.Core.List.{[]}
use mathlib.Core.Path.{refl}
use mir.Syntax.{w32}
use mir.ValLaws.{to_z-of_z}
use Rattle.highboyrobin.proofs.screen_plan.hbr_screen_plan.Goals as goal

pub returns-in-Err : goal.returns-in-Err
returns-in-Err c =
    let k = c.accept_file_for in
    let t = plan-told _ _ _ _ _ _ c.in-Err.refusal
    (for-refused Screen c.args.file.now (length c.args.answer.now) 1 c.if-answer-lt1.false
    k.result k.ensures _
    c.in-Err.is _ _ (plan-begins (order_in c.args.file.now) c.args.bound (length c.args.rows.now)))
    _ c.result_of.ensures _ refl in
    record { value = t.0; plan_by = t.1 }

pub returns : goal.returns
returns c =
    let k = c.accept_file_for in
    let o = order_in c.args.file.now in
    let d = c.hbr_plan in
    let t = same-replies-at Screen c.args.file.now k.result k.ensures
    c.in_default.is
    (PlanAt o [] c.args.rows.now c.args.answer.now d.result _ _)
    (λ z. plan-itself c.args.file.now z (length c.args.rows.now) (length c.args.answer.now)) c.args.bound _
    (to_z-of_z w32 c.args.bound c.ranges.bound) (c.hbr_plan.ensures.value, c.hbr_plan.ensures.plan_by) in
    record { value = t.0; plan_by = t.1 }
