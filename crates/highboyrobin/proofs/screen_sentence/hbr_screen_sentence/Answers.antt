use Rattle.highboyrobin.proofs.Screening.{for-list-refused, same-replies-at, SentenceAt}
use Rattle.highboyrobin.proofs.SentenceTold.{sentence-told, compose-begins}
use Rattle.highboyrobin.specs.Calls.{why_from, line_from}
use Rattle.highboyrobin.specs.ScreenCallLaws.{sentence-itself}
use Rattle.order.specs.declared.Caller.TheVariants.{Screen}
use Rattle.order_file.specs.File.{order_in}
use lib.ListN.{length}
use mathlib.Core.Path.{refl}
use mir.Syntax.{w32}
use mir.ValLaws.{to_z-of_z}
use Rattle.highboyrobin.proofs.screen_sentence.hbr_screen_sentence.Goals as goal

pub returns-in-Err : goal.returns-in-Err
returns-in-Err c =
    let k = c.accept_file_for in
    let t = sentence-told _ _ _ _ c.in-Err.refusal
    (for-list-refused Screen c.args.file.now (length c.args.answer.now) 1 (length c.args.reason.now) 19
    c.if-answer-lt1.false c.if-reason-lt19.false
    k.result k.ensures _ c.in-Err.is _ _
    (compose-begins (order_in c.args.file.now) c.args.bound (why_from c.args.reason.now) (length c.args.line.now)))
    _ c.result_of.ensures _ refl in
    record { value = t.0; line_after = t.1.0; answer_after = t.1.1 }

pub returns : goal.returns
returns c =
    let k = c.accept_file_for in
    let d = c.hbr_sentence in
    let t = same-replies-at Screen c.args.file.now k.result k.ensures
    c.in_default.is
    (SentenceAt (λ z. line_from c.args.file.now z c.args.reason.now) c.args.line.now c.args.answer.now d.result _ _)
    (λ z. sentence-itself c.args.file.now z c.args.reason.now (length c.args.line.now) (length c.args.answer.now))
    c.args.bound _ (to_z-of_z w32 c.args.bound c.ranges.bound)
    (c.hbr_sentence.ensures.value, (c.hbr_sentence.ensures.line_after, c.hbr_sentence.ensures.answer_after)) in
    record { value = t.0; line_after = t.1.0; answer_after = t.1.1 }
