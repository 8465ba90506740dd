use Rattle.std.specs.Prelude.{Ok, Err}
use mathlib.Core.Path.{refl, ◌∙◌}
use lib.ListN.{length}
use mir.ValLaws.{to_z-of_z}
use mir.Syntax.{w32}
use Rattle.order.specs.Table.{order_of}
use Rattle.order_file.specs.File.{order_in}
use Rattle.order_file.specs.ReaderLaws.{order_is}
use Rattle.highboyrobin.specs.Calls.{why_from}
use Rattle.highboyrobin.proofs.Calling.{list_read, list-refused}
use Rattle.highboyrobin.proofs.Carried.{carried-few, compose-carries}
use Rattle.highboyrobin.proofs.SentenceTold.{sentence-told, sentence-done, compose-begins, compose-moved, compose-refused, compose-wrote}
use Rattle.highboyrobin.proofs.sentencing.hbr_sentence.Goals as goal

pub returns-in-Err : goal.returns-in-Err
returns-in-Err c =
    let s = c.args in
    let f = s.file.now in
    let t = sentence-told _ _ _ _ c.in-Err.refusal
    (list-refused f (length s.answer.now) 1 (length s.reason.now) 19 c.if-answer-lt1.false c.if-reason-lt19.false
    c.read_order.result c.read_order.ensures.result_value _ _
    (compose-begins (order_in f) s.bound (why_from s.reason.now) (length s.line.now)) _ c.in-Err.is) _ c.result_of.ensures _ refl in
    record { value = t.0; line_after = t.1.0; answer_after = t.1.1 }

pub result_of-requires-in-Err-compose : goal.result_of-requires-in-Err-compose
result_of-requires-in-Err-compose c =
    let s = c.args in
    let f = s.file.now in
    let o = order_in f in
    let r = c.read_order.result in
    let e = c.read_order.ensures.result_value in
    let w = why_from s.reason.now in
    let k = c.in-Err-compose in
    let t = compose-moved (order_of c.in-Ok.order) o _ s.bound _ w s.line.now _ (Err k.refusal) (order_is f r e c.in-Ok.order c.in-Ok.is)
    (to_z-of_z w32 s.bound c.ranges.bound) c.why_from.ensures (k.ensures.result_value, (k.ensures.line_after, k.ensures.result_bound)) in
    let h = compose-refused o s.bound w s.line.now _ k.refusal t in
    carried-few _ _ h.0 (compose-carries o s.bound w (length s.line.now))

pub returns-in-Err-compose : goal.returns-in-Err-compose
returns-in-Err-compose c =
    let s = c.args in
    let f = s.file.now in
    let o = order_in f in
    let r = c.read_order.result in
    let e = c.read_order.ensures.result_value in
    let w = why_from s.reason.now in
    let k = c.in-Err-compose in
    let t = compose-moved (order_of c.in-Ok.order) o _ s.bound _ w s.line.now _ (Err k.refusal) (order_is f r e c.in-Ok.order c.in-Ok.is)
    (to_z-of_z w32 s.bound c.ranges.bound) c.why_from.ensures (k.ensures.result_value, (k.ensures.line_after, k.ensures.result_bound)) in
    let h = compose-refused o s.bound w s.line.now _ k.refusal t in
    let t = sentence-told _ _ _ _ k.refusal
    (list_read f (length s.answer.now) 1 (length s.reason.now) 19 c.if-answer-lt1.false c.if-reason-lt19.false
    r e _ c.in-Ok.order c.in-Ok.is ∙ h.0) _ c.result_of-in-Err-compose.ensures _ h.1 in
    record { value = t.0; line_after = t.1.0; answer_after = t.1.1 }

pub returns-in-Ok-compose : goal.returns-in-Ok-compose
returns-in-Ok-compose c =
    let s = c.args in
    let f = s.file.now in
    let o = order_in f in
    let r = c.read_order.result in
    let e = c.read_order.ensures.result_value in
    let w = why_from s.reason.now in
    let k = c.in-Ok-compose in
    let t = compose-moved (order_of c.in-Ok.order) o _ s.bound _ w s.line.now _ (Ok k.n) (order_is f r e c.in-Ok.order c.in-Ok.is)
    (to_z-of_z w32 s.bound c.ranges.bound) c.why_from.ensures (k.ensures.result_value, (k.ensures.line_after, k.ensures.result_bound)) in
    let h = compose-wrote o s.bound w s.line.now _ k.n t in
    let t = sentence-done _ _ _ _
    (list_read f (length s.answer.now) 1 (length s.reason.now) 19 c.if-answer-lt1.false c.if-reason-lt19.false
    r e _ c.in-Ok.order c.in-Ok.is ∙ h.0) _ h.1 _ h.2 _ c.put_count.ensures in
    record { value = t.0; line_after = t.1.0; answer_after = t.1.1 }
