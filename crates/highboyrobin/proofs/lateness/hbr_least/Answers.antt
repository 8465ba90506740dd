use Rattle.profile.proofs.LeastRange.{least-in-range}
use Rattle.profile.specs.LeastRead.{read-least}
use mathlib.Core.Path.{refl, ap, ◌∙◌}
use mathlib.Core.List.{◌∷◌}
use lib.IntN.{ℤ, pos}
use lib.ListN.{length, drop}
use Rattle.order.specs.Table.{order_of}
use Rattle.order_file.specs.File.{order_in}
use Rattle.highboyrobin.proofs.Answering.{plan-told, plan-done}
use Rattle.highboyrobin.proofs.Carried.{carried-few, least-carries}
use Rattle.order_file.specs.ReaderLaws.{order_is, order-accepted}
use Rattle.highboyrobin.proofs.Calling.{call-refused, call-read}
use Rattle.planner.specs.RowLaws.{written-few}
use Rattle.planner.specs.AnswerLaws.{least-begins, least-moved, least-refused, least_at}
use native.Mathlib.Omega.{arith}
use Rattle.highboyrobin.proofs.lateness.hbr_least.Goals as goal

pub returns-in-Err : goal.returns-in-Err
returns-in-Err c =
    let s = c.args in
    let t = plan-told _ _ _ _ _ _ c.in-Err.refusal
    (call-refused s.file.now (length s.answer.now) 2 c.read_order.result
    c.read_order.ensures.result_value c.if-answer-lt2.false
    _ _ (least-begins (order_in s.file.now) (length s.rows.now)) _ c.in-Err.is)
    _ c.result_of.ensures _ refl in
    record { value = t.0; plan_by = t.1 }

pub result_of-requires-in-Err-least_lateness : goal.result_of-requires-in-Err-least_lateness
result_of-requires-in-Err-least_lateness c =
    let s = c.args in
    let f = c.args.file.now in
    let o = order_in f in
    let r = c.read_order.result in
    let e = c.read_order.ensures.result_value in
    let ok = c.in-Ok.is in
    let l = c.least_lateness in
    let t = least-moved (order_of c.in-Ok.order) o s.rows.now _ l.result (order_is f r e _ ok) (l.ensures.result_value, l.ensures.buffer_by) in
    let h = least-refused o s.rows.now _ l.result t c.in-Err-least_lateness.refusal c.in-Err-least_lateness.is in
    carried-few _ _ h.0 (least-carries o (length s.rows.now))

pub put_least-requires : goal.put_least-requires
put_least-requires c =
    let s = c.args in
    let f = c.args.file.now in
    let o = order_in f in
    let r = c.read_order.result in
    let e = c.read_order.ensures.result_value in
    let ok = c.in-Ok.is in
    let l = c.least_lateness in
    let t = least-moved (order_of c.in-Ok.order) o s.rows.now _ l.result (order_is f r e _ ok) (l.ensures.result_value, l.ensures.buffer_by) in
    let h = least_at o s.rows.now _ l.result t c.in-Ok-least_lateness.least c.in-Ok-least_lateness.is in (
      omega (arith, written-few (order-accepted f r e _ ok) h.2),
      c.if-answer-lt2.false,
    )

pub returns-in-Err-least_lateness : goal.returns-in-Err-least_lateness
returns-in-Err-least_lateness c =
    let s = c.args in
    let f = c.args.file.now in
    let o = order_in f in
    let r = c.read_order.result in
    let e = c.read_order.ensures.result_value in
    let ok = c.in-Ok.is in
    let l = c.least_lateness in
    let t = least-moved (order_of c.in-Ok.order) o s.rows.now _ l.result (order_is f r e _ ok) (l.ensures.result_value, l.ensures.buffer_by) in
    let h = least-refused o s.rows.now _ l.result t c.in-Err-least_lateness.refusal c.in-Err-least_lateness.is in
    let t = plan-told _ _ _ _ _ _ c.in-Err-least_lateness.refusal
    (call-read f (length s.answer.now) 2 r e
    c.if-answer-lt2.false _ _ ok ∙ h.0)
    _ c.result_of-in-Err-least_lateness.ensures _ h.1 in
    record { value = t.0; plan_by = t.1 }

pub returns-in-Ok-least_lateness : goal.returns-in-Ok-least_lateness
returns-in-Ok-least_lateness c =
    let s = c.args in
    let f = c.args.file.now in
    let o = order_in f in
    let r = c.read_order.result in
    let e = c.read_order.ensures.result_value in
    let ok = c.in-Ok.is in
    let l = c.least_lateness in
    let t = least-moved (order_of c.in-Ok.order) o s.rows.now _ l.result (order_is f r e _ ok) (l.ensures.result_value, l.ensures.buffer_by) in
    let h = least_at o s.rows.now _ l.result t c.in-Ok-least_lateness.least c.in-Ok-least_lateness.is in
    let t = plan-done _ _ _ _ _ _ (call-read f (length s.answer.now) 2 r e
    c.if-answer-lt2.false _ _ ok ∙ h.0) _ _
    (record {
      count = c.in-Ok-least_lateness.least.rows;
      written = h.2;
      answered = c.put_least.ensures ∙ ap
          (λ (z : ℤ). z ∷ pos c.in-Ok-least_lateness.least.rows ∷ drop 2 s.answer.now)
          (read-least _ _ h.1 (least-in-range o (order-accepted f r e _ ok)));
    }) in
    record { value = t.0; plan_by = t.1 }
