use Rattle.highboyrobin.proofs.Answering.{ended-told}
use Rattle.highboyrobin.proofs.ChecksTold.{check-begins}
use Rattle.highboyrobin.proofs.Screening.{for-refused, same-replies-at, LeftAt}
use Rattle.highboyrobin.specs.Calls.{yes_or_no}
use Rattle.highboyrobin.specs.ScreenCallLaws.{check-itself}
use Rattle.order.specs.declared.Caller.TheVariants.{Screen}
use Rattle.order_file.specs.File.{order_in}
use Rattle.plan.specs.Check.{is_right}
use lib.ListN.{length}
use mir.Syntax.{w32}
use mir.ValLaws.{to_z-of_z}
use Rattle.highboyrobin.proofs.screen_check.hbr_screen_check.Goals as goal

pub returns-in-Err : goal.returns-in-Err
returns-in-Err c =
    let k = c.accept_file_for in
    let t = ended-told _ _ _ c.in-Err.refusal
    (for-refused Screen c.args.file.now (length c.args.answer.now) 1 c.if-answer-lt1.false
    k.result k.ensures _
    c.in-Err.is _ _ (check-begins (order_in c.args.file.now) c.args.bound (length c.args.rows.now)))
    _ c.result_of.ensures in
    record { value = t.0; answer_after = t.1 }

pub returns : goal.returns
returns c =
    let k = c.accept_file_for in
    let d = c.hbr_check in
    let t = same-replies-at Screen c.args.file.now k.result k.ensures c.in_default.is
    (LeftAt (λ z. yes_or_no (is_right (order_in c.args.file.now) z c.args.rows.now)) c.args.answer.now d.result _)
    (λ z. check-itself c.args.file.now z (length c.args.rows.now) (length c.args.answer.now)) c.args.bound _
    (to_z-of_z w32 c.args.bound c.ranges.bound) (c.hbr_check.ensures.value, c.hbr_check.ensures.answer_after) in
    record { value = t.0; answer_after = t.1 }
