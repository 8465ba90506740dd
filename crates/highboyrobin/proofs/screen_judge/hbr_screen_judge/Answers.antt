use Rattle.highboyrobin.proofs.Answering.{ended-told}
use Rattle.highboyrobin.proofs.Screening.{for-refused, same-replies-at, LeftAt}
use Rattle.highboyrobin.specs.Calls.{sizes_of}
use Rattle.highboyrobin.specs.ScreenCallLaws.{judge-itself}
use Rattle.order.specs.Refusals.{limits, order_rows}
use Rattle.order.specs.declared.Caller.TheVariants.{Screen}
use Rattle.order_file.specs.File.{order_in}
use lib.IntN.{pos}
use lib.ListN.{length}
use mathlib.Core.List.{append-nil}
use mathlib.Core.Path.{refl, sym}
use Rattle.highboyrobin.proofs.screen_judge.hbr_screen_judge.Goals as goal

pub returns-in-Err : goal.returns-in-Err
returns-in-Err c =
    let k = c.accept_file_for in
    let t = ended-told _ _ _ c.in-Err.refusal
    (for-refused Screen c.args.file.now (length c.args.answer.now) 3 c.if-answer-lt3.false
    k.result k.ensures _
    c.in-Err.is _ _ (sym (append-nil (order_rows limits (order_in c.args.file.now)))))
    _ c.result_of.ensures in
    record { value = t.0; answer_after = t.1 }

pub returns : goal.returns
returns c =
    let k = c.accept_file_for in
    let d = c.hbr_judge in
    let t = same-replies-at Screen c.args.file.now k.result k.ensures c.in_default.is
    (LeftAt (λ z. sizes_of (order_in c.args.file.now)) c.args.answer.now d.result _)
    (λ z. judge-itself c.args.file.now (length c.args.answer.now)) (pos 0) _ refl (c.hbr_judge.ensures.value, c.hbr_judge.ensures.answer_after) in
    record { value = t.0; answer_after = t.1 }
