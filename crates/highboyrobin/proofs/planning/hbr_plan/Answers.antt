use Rattle.std.specs.Prelude.{Err}
use mathlib.Core.Path.{refl, ap, ◌∙◌}
use lib.ListN.{length}
use mir.ValLaws.{to_z-of_z}
use mir.Syntax.{w32}
use Rattle.order.specs.Table.{order_of}
use Rattle.order_file.specs.File.{order_in}
use Rattle.highboyrobin.proofs.Answering.{plan-refused, plan-told, plan-done}
use Rattle.highboyrobin.proofs.Carried.{carried-few, plan-carries}
use Rattle.order_file.specs.ReaderLaws.{order_is, order-accepted}
use Rattle.highboyrobin.proofs.Calling.{call-refused, call-read}
use Rattle.planner.specs.RowLaws.{written-few}
use Rattle.planner.specs.AnswerLaws.{plan-begins, plan-moved, planned-refused, planned-tight, planned-rows}
use native.Mathlib.Omega.{arith}
use Rattle.highboyrobin.proofs.planning.hbr_plan.Goals as goal

pub returns-in-Err : goal.returns-in-Err
returns-in-Err c =
    let s = c.args in
    let t = plan-told _ _ _ _ _ _ c.in-Err.refusal
    (call-refused s.file.now (length s.answer.now) 1 c.read_order.result
    c.read_order.ensures.result_value c.if-answer-lt1.false
    _ _ (plan-begins (order_in s.file.now) s.bound (length s.rows.now)) _ c.in-Err.is)
    _ c.result_of.ensures _ refl in
    record { value = t.0; plan_by = t.1 }

pub result_of-requires-in-Err-Refused : goal.result_of-requires-in-Err-Refused
result_of-requires-in-Err-Refused c =
    let s = c.args in
    let f = c.args.file.now in
    let o = order_in f in
    let r = c.read_order.result in
    let e = c.read_order.ensures.result_value in
    let ok = c.in-Ok.is in
    let p = c.plan_at in
    let same = to_z-of_z w32 s.bound c.ranges.bound in
    let t = plan-moved (order_of c.in-Ok.order) o _ s.bound s.rows.now _ p.result (order_is f r e _ ok) same
    (p.ensures.planned_value, p.ensures.buffer_by) in
    let h = planned-refused o s.bound s.rows.now _ p.result t c.in-Err-Refused.refusal
    (c.in-Err-Refused.is ∙ ap Err c.in-Err-Refused.field-0-is) in
    carried-few _ _ h.0 (plan-carries o s.bound (length s.rows.now))

pub put_count-requires : goal.put_count-requires
put_count-requires c =
    let s = c.args in
    let f = c.args.file.now in
    let o = order_in f in
    let r = c.read_order.result in
    let e = c.read_order.ensures.result_value in
    let ok = c.in-Ok.is in
    let p = c.plan_at in
    let same = to_z-of_z w32 s.bound c.ranges.bound in
    let t = plan-moved (order_of c.in-Ok.order) o _ s.bound s.rows.now _ p.result (order_is f r e _ ok) same
    (p.ensures.planned_value, p.ensures.buffer_by) in
    let h = planned-rows o s.bound s.rows.now _ p.result t c.in-Ok-plan_at.count
    c.in-Ok-plan_at.is in (
      omega (arith, written-few (order-accepted f r e _ ok) h.1),
      c.if-answer-lt1.false,
    )

pub returns-in-Err-Refused : goal.returns-in-Err-Refused
returns-in-Err-Refused c =
    let s = c.args in
    let f = c.args.file.now in
    let o = order_in f in
    let r = c.read_order.result in
    let e = c.read_order.ensures.result_value in
    let ok = c.in-Ok.is in
    let p = c.plan_at in
    let same = to_z-of_z w32 s.bound c.ranges.bound in
    let t = plan-moved (order_of c.in-Ok.order) o _ s.bound s.rows.now _ p.result (order_is f r e _ ok) same
    (p.ensures.planned_value, p.ensures.buffer_by) in
    let h = planned-refused o s.bound s.rows.now _ p.result t c.in-Err-Refused.refusal
    (c.in-Err-Refused.is ∙ ap Err c.in-Err-Refused.field-0-is) in
    let t = plan-told _ _ _ _ _ _ c.in-Err-Refused.refusal
    (call-read f (length s.answer.now) 1 r e
    c.if-answer-lt1.false _ _ ok ∙ h.0)
    _ c.result_of-in-Err-Refused.ensures _ h.1 in
    record { value = t.0; plan_by = t.1 }

pub returns-in-Err-TooTight : goal.returns-in-Err-TooTight
returns-in-Err-TooTight c =
    let s = c.args in
    let f = c.args.file.now in
    let o = order_in f in
    let r = c.read_order.result in
    let e = c.read_order.ensures.result_value in
    let ok = c.in-Ok.is in
    let p = c.plan_at in
    let same = to_z-of_z w32 s.bound c.ranges.bound in
    let t = plan-moved (order_of c.in-Ok.order) o _ s.bound s.rows.now _ p.result (order_is f r e _ ok) same
    (p.ensures.planned_value, p.ensures.buffer_by) in
    let h = planned-tight o s.bound s.rows.now _ p.result t _ _ (c.in-Err-TooTight.is ∙ ap Err c.in-Err-TooTight.field-0-is) in
    let t = plan-refused _ _ _ _ _ _ 10 0 (call-read f (length s.answer.now) 1 r e
    c.if-answer-lt1.false _ _ ok ∙ h.0) _ h.1 in
    record { value = t.0; plan_by = t.1 }

pub returns-in-Ok-plan_at : goal.returns-in-Ok-plan_at
returns-in-Ok-plan_at c =
    let s = c.args in
    let f = c.args.file.now in
    let o = order_in f in
    let r = c.read_order.result in
    let e = c.read_order.ensures.result_value in
    let ok = c.in-Ok.is in
    let p = c.plan_at in
    let same = to_z-of_z w32 s.bound c.ranges.bound in
    let t = plan-moved (order_of c.in-Ok.order) o _ s.bound s.rows.now _ p.result (order_is f r e _ ok) same
    (p.ensures.planned_value, p.ensures.buffer_by) in
    let h = planned-rows o s.bound s.rows.now _ p.result t c.in-Ok-plan_at.count
    c.in-Ok-plan_at.is in
    let t = plan-done _ _ _ _ _ _ (call-read f (length s.answer.now) 1 r e
    c.if-answer-lt1.false _ _ ok ∙ h.0) _ _
    (record {
      count = c.in-Ok-plan_at.count;
      written = h.1;
      answered = c.put_count.ensures;
    }) in
    record { value = t.0; plan_by = t.1 }
