use mathlib.Core.Path.{sym, ap, ◌∙◌}
use mathlib.Core.List.{[], ◌++◌, append-nil}
use lib.ListN.{length, drop}
use Rattle.order.specs.Order.{Order}
use Rattle.order.specs.Refusals.{limits, order_rows}
use Rattle.order_file.specs.File.{order_in}
use Rattle.highboyrobin.specs.Calls.{sizes_of}
use Rattle.highboyrobin.proofs.Answering.{ended-told, ended-done}
use Rattle.order_file.specs.ReaderLaws.{order_is, order-accepted}
use Rattle.highboyrobin.proofs.Calling.{call-refused, call-read}
use Rattle.highboyrobin.proofs.judging.hbr_judge.Goals as goal

pub returns-in-Err : goal.returns-in-Err
returns-in-Err c =
    let s = c.args in
    let rows = order_rows limits (order_in s.file.now) in
    let t = ended-told _ _ _ c.in-Err.refusal
    (call-refused s.file.now (length s.answer.now) 3 c.read_order.result
    c.read_order.ensures.result_value c.if-answer-lt3.false
    rows [] (sym (append-nil rows)) _ c.in-Err.is)
    _ c.result_of.ensures in
    record { value = t.0; answer_after = t.1 }

pub returns : goal.returns
returns c =
    let s = c.args in
    let r = c.read_order.result in
    let e = c.read_order.ensures.result_value in
    let ok = c.in-Ok.is in
    let t = ended-done _ _ _ _
    (call-read s.file.now (length s.answer.now) 3 r e c.if-answer-lt3.false _ _ ok
    ∙ order-accepted s.file.now r e _ ok)
    (c.put_sizes.ensures ∙ ap (λ (o : Order). sizes_of o ++ drop 3 s.answer.now) (order_is s.file.now r e _ ok)) in
    record { value = t.0; answer_after = t.1 }
