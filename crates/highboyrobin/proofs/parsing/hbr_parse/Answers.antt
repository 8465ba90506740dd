use Rattle.std.specs.Prelude.{Ok, Err}
use Prim.Native.Nat.{ℕ}
use mathlib.Core.Path.{sym, ap, ◌∙◌}
use mathlib.Core.List.{List, ◌++◌}
use lib.IntN.{ℤ}
use lib.ListN.{length, drop}
use mir.ValLaws.{to_z-of_z}
use mir.Syntax.{w32}
use Rattle.order.specs.Table.{order_of}
use Rattle.order_file.specs.File.{order_in}
use Rattle.sentence.specs.Line.{read_back}
use Rattle.highboyrobin.specs.Calls.{reason_numbers}
use Rattle.highboyrobin.specs.Inside.{why_numbers}
use Rattle.highboyrobin.proofs.Carried.{carried-few, back-carries}
use Rattle.order_file.specs.ReaderLaws.{order_is, order-accepted}
use Rattle.highboyrobin.proofs.Calling.{call-refused, call-read}
use Rattle.highboyrobin.proofs.Answering.{ended-told, ended-done}
use Rattle.highboyrobin.proofs.ReasonTold.{numbers-are, read_small}
use Rattle.highboyrobin.proofs.SentenceTold.{back-moved, back-begins}
use Rattle.highboyrobin.specs.CallLaws.{numbers-count}
use Rattle.highboyrobin.proofs.parsing.hbr_parse.Goals as goal

pub returns-in-Err : goal.returns-in-Err
returns-in-Err c =
    let s = c.args in
    let f = s.file.now in
    let t = ended-told _ _ _ c.in-Err.refusal
    (call-refused f (length s.answer.now) 19 c.read_order.result c.read_order.ensures.result_value c.if-answer-lt19.false _ _
    (back-begins (order_in f) s.bound) _ c.in-Err.is) _ c.result_of.ensures in
    record { value = t.0; answer_after = t.1 }

pub result_of-requires-in-Err-read_back : goal.result_of-requires-in-Err-read_back
result_of-requires-in-Err-read_back c =
    let s = c.args in
    let f = s.file.now in
    let o = order_in f in
    let r = c.read_order.result in
    let e = c.read_order.ensures.result_value in
    let k = c.in-Err-read_back in
    let t = back-moved (order_of c.in-Ok.order) o _ s.bound s.line.now (Err k.refusal) (order_is f r e c.in-Ok.order c.in-Ok.is)
    (to_z-of_z w32 s.bound c.ranges.bound) (k.ensures.status_value, k.ensures.why_value) in
    carried-few _ _ (sym t.0) (back-carries o s.bound)

pub returns-in-Err-read_back : goal.returns-in-Err-read_back
returns-in-Err-read_back c =
    let s = c.args in
    let f = s.file.now in
    let o = order_in f in
    let r = c.read_order.result in
    let e = c.read_order.ensures.result_value in
    let k = c.in-Err-read_back in
    let t = back-moved (order_of c.in-Ok.order) o _ s.bound s.line.now (Err k.refusal) (order_is f r e c.in-Ok.order c.in-Ok.is)
    (to_z-of_z w32 s.bound c.ranges.bound) (k.ensures.status_value, k.ensures.why_value) in
    let t = ended-told _ _ _ k.refusal
    (call-read f (length s.answer.now) 19 r e c.if-answer-lt19.false _ c.in-Ok.order c.in-Ok.is ∙ sym t.0) _
    c.result_of-in-Err-read_back.ensures in
    record { value = t.0; answer_after = t.1 }

pub put_reason-requires : goal.put_reason-requires
put_reason-requires c =
    let s = c.args in
    let f = s.file.now in
    let o = order_in f in
    let r = c.read_order.result in
    let e = c.read_order.ensures.result_value in
    let k = c.in-Ok-read_back in
    let t = back-moved (order_of c.in-Ok.order) o _ s.bound s.line.now (Ok k.why) (order_is f r e c.in-Ok.order c.in-Ok.is)
    (to_z-of_z w32 s.bound c.ranges.bound) (k.ensures.status_value, k.ensures.why_value) in
    let b = read_small o s.bound (order-accepted f r e c.in-Ok.order c.in-Ok.is) s.line.now _ t.1 in
    (b.0, b.1, c.if-answer-lt19.false)

pub returns-in-Ok-read_back : goal.returns-in-Ok-read_back
returns-in-Ok-read_back c =
    let s = c.args in
    let f = s.file.now in
    let o = order_in f in
    let r = c.read_order.result in
    let e = c.read_order.ensures.result_value in
    let k = c.in-Ok-read_back in
    let t = back-moved (order_of c.in-Ok.order) o _ s.bound s.line.now (Ok k.why) (order_is f r e c.in-Ok.order c.in-Ok.is)
    (to_z-of_z w32 s.bound c.ranges.bound) (k.ensures.status_value, k.ensures.why_value) in
    let g = read_back o s.bound s.line.now in
    let t = ended-done _ _ _ _ (call-read f (length s.answer.now) 19 r e c.if-answer-lt19.false _ c.in-Ok.order c.in-Ok.is ∙ sym t.0)
    (c.put_reason.ensures
    ∙ ap (λ (xs : List ℤ). xs ++ drop 19 s.answer.now) (ap why_numbers t.1 ∙ numbers-are o g)
    ∙ ap (λ (n : ℕ). reason_numbers o g ++ drop n s.answer.now) (sym (numbers-count o g))) in
    record { value = t.0; answer_after = t.1 }
