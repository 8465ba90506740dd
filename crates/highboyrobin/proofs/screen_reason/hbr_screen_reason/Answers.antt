use Rattle.highboyrobin.proofs.Answering.{ended-told}
use Rattle.highboyrobin.proofs.Screening.{for-refused, same-replies-at, LeftAt}
use Rattle.highboyrobin.specs.Calls.{reason_numbers}
use Rattle.highboyrobin.specs.ScreenCallLaws.{reason-itself}
use Rattle.order.specs.declared.Caller.TheVariants.{Screen}
use Rattle.order_file.specs.File.{order_in}
use Rattle.profile.specs.Search.{reason_of}
use lib.ListN.{length}
use mathlib.Core.Path.{refl}
use mir.Syntax.{w32}
use mir.ValLaws.{to_z-of_z}
use Rattle.highboyrobin.proofs.screen_reason.hbr_screen_reason.Goals as goal

pub returns-in-Err : goal.returns-in-Err
returns-in-Err c =
    let k = c.accept_file_for in
    let t = ended-told _ _ _ c.in-Err.refusal
    (for-refused Screen c.args.file.now (length c.args.answer.now) 19 c.if-answer-lt19.false
    k.result k.ensures _
    c.in-Err.is _ _ refl)
    _ c.result_of.ensures in
    record { value = t.0; answer_after = t.1 }

pub returns : goal.returns
returns c =
    let k = c.accept_file_for in
    let d = c.hbr_reason in
    let t = same-replies-at Screen c.args.file.now k.result k.ensures c.in_default.is
    (LeftAt (λ z. reason_numbers (order_in c.args.file.now) (reason_of (order_in c.args.file.now) z)) c.args.answer.now
    d.result _)
    (λ z. reason-itself c.args.file.now z (length c.args.answer.now)) c.args.bound _
    (to_z-of_z w32 c.args.bound c.ranges.bound) (c.hbr_reason.ensures.value, c.hbr_reason.ensures.answer_after) in
    record { value = t.0; answer_after = t.1 }
