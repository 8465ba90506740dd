use Rattle.highboyrobin.proofs.Answering.{plan-told}
use Rattle.highboyrobin.proofs.Screening.{for-refused, same-replies-at, PlanAt}
use Rattle.highboyrobin.specs.ScreenCallLaws.{least-itself}
use Rattle.order.specs.declared.Caller.TheVariants.{Screen}
use Rattle.order_file.specs.File.{order_in}
use Rattle.planner.specs.AnswerLaws.{least-begins}
use Rattle.profile.specs.Least.{least_lateness}
use lib.ListN.{length}
use mathlib.Core.List.{[], ◌∷◌}
use mathlib.Core.Path.{refl}
use Rattle.highboyrobin.proofs.screen_least.hbr_screen_least.Goals as goal

pub returns-in-Err : goal.returns-in-Err
returns-in-Err c =
    let k = c.accept_file_for in
    let t = plan-told _ _ _ _ _ _ c.in-Err.refusal
    (for-refused Screen c.args.file.now (length c.args.answer.now) 2 c.if-answer-lt2.false
    k.result k.ensures _
    c.in-Err.is _ _ (least-begins (order_in c.args.file.now) (length c.args.rows.now)))
    _ c.result_of.ensures _ refl in
    record { value = t.0; plan_by = t.1 }

pub returns : goal.returns
returns c =
    let k = c.accept_file_for in
    let o = order_in c.args.file.now in
    let d = c.hbr_least in
    let t = same-replies-at Screen c.args.file.now k.result k.ensures
    c.in_default.is
    (PlanAt o (least_lateness o ∷ []) c.args.rows.now c.args.answer.now d.result _ _)
    (λ z. least-itself c.args.file.now (length c.args.rows.now) (length c.args.answer.now)) (least_lateness o) _ refl
    (c.hbr_least.ensures.value, c.hbr_least.ensures.plan_by) in
    record { value = t.0; plan_by = t.1 }
