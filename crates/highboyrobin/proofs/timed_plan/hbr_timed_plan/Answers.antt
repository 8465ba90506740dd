use Rattle.std.specs.Prelude.{Ok}
use mathlib.Core.Path.{refl, ap, ◌∙◌}
use native.Mathlib.Omega.{arith}
use lib.ListN.{length}
use mir.Syntax.{w32}
use mir.ValLaws.{to_z-of_z}
use Rattle.order_file.specs.File.{order_in}
use Rattle.highboyrobin.specs.TimedCalls.{times_in}
use Rattle.highboyrobin.proofs.Carried.{carried-few, timed-carries}
use Rattle.highboyrobin.proofs.TimedAnswering.{timed-ended-refused, timed-ended-told, timed-ended-done}
use Rattle.highboyrobin.proofs.TimedCalling.{timed-refused, timed-told, timed-read, timed-accepted, timed-room}
use Rattle.highboyrobin.proofs.TimedTold.{timed-begins, TimedPlanTold, timed-plan-refused, timed-plan-tight, timed-plan-rows, timed-few}
use Rattle.highboyrobin.proofs.timed_plan.hbr_timed_plan.Goals as goal

pub returns-in-Err : goal.returns-in-Err
returns-in-Err c =
    let s = c.args in
    let a = s.ready.now in
    let w = s.windows.now in
    let h = timed-refused (length s.answer.now) s.file.now a w c.in-Err.result c.in-Err.ensures _ _
    (timed-begins (order_in s.file.now) s.bound (times_in a w) (length s.rows.now)) in
    let t = timed-ended-refused _ _ _ _ _ _ h.0 h.1 h.2 _ h.3 _ refl in
    record { value = t.0; timed_plan_by = t.1 }

pub put_count-requires : goal.put_count-requires
put_count-requires c =
    let s = c.args in
    let n = length s.answer.now in
    let f = s.file.now in
    let a = s.ready.now in
    let w = s.windows.now in
    let r = c.in-Ok.read in
    let p = c.plan_timed in
    let h = timed-told n f a w r c.in-Ok.ensures (TimedPlanTold s.rows.now p.new.rows p.result) _ s.bound
    (to_z-of_z w32 s.bound c.ranges.bound) (p.ensures.result_value, p.ensures.timed_buffer_by) in
    let q = timed-plan-rows s.rows.now p.new.rows p.result (order_in f) s.bound (times_in a w) h c.in-Ok-Some.count (c.in-Ok-Some.is ∙ ap Ok c.in-Ok-Some.field-0-is) in
    (omega (arith, timed-few (timed-accepted n f a w r c.in-Ok.ensures) q.1), timed-room n f a w r c.in-Ok.ensures)

pub result_of-requires : goal.result_of-requires
result_of-requires c =
    let s = c.args in
    let n = length s.answer.now in
    let f = s.file.now in
    let a = s.ready.now in
    let w = s.windows.now in
    let r = c.in-Ok.read in
    let p = c.plan_timed in
    let h = timed-told n f a w r c.in-Ok.ensures (TimedPlanTold s.rows.now p.new.rows p.result) _ s.bound
    (to_z-of_z w32 s.bound c.ranges.bound) (p.ensures.result_value, p.ensures.timed_buffer_by) in
    let q = timed-plan-refused s.rows.now p.new.rows p.result (order_in f) s.bound (times_in a w) h c.in-Err-plan_timed.refusal c.in-Err-plan_timed.is in
    carried-few _ _ q.0 (timed-carries (order_in f) s.bound (times_in a w) (length s.rows.now))

pub returns-in-Err-plan_timed : goal.returns-in-Err-plan_timed
returns-in-Err-plan_timed c =
    let s = c.args in
    let n = length s.answer.now in
    let f = s.file.now in
    let a = s.ready.now in
    let w = s.windows.now in
    let r = c.in-Ok.read in
    let p = c.plan_timed in
    let h = timed-told n f a w r c.in-Ok.ensures (TimedPlanTold s.rows.now p.new.rows p.result) _ s.bound
    (to_z-of_z w32 s.bound c.ranges.bound) (p.ensures.result_value, p.ensures.timed_buffer_by) in
    let q = timed-plan-refused s.rows.now p.new.rows p.result (order_in f) s.bound (times_in a w) h c.in-Err-plan_timed.refusal c.in-Err-plan_timed.is in
    let t = timed-ended-told _ _ _ _ _ _ c.in-Err-plan_timed.refusal (timed-read n f a w r c.in-Ok.ensures _ ∙ q.0) _
    c.result_of.ensures _ q.1 in
    record { value = t.0; timed_plan_by = t.1 }

pub returns-in-Ok-None : goal.returns-in-Ok-None
returns-in-Ok-None c =
    let s = c.args in
    let n = length s.answer.now in
    let f = s.file.now in
    let a = s.ready.now in
    let w = s.windows.now in
    let r = c.in-Ok.read in
    let p = c.plan_timed in
    let h = timed-told n f a w r c.in-Ok.ensures (TimedPlanTold s.rows.now p.new.rows p.result) _ s.bound
    (to_z-of_z w32 s.bound c.ranges.bound) (p.ensures.result_value, p.ensures.timed_buffer_by) in
    let q = timed-plan-tight s.rows.now p.new.rows p.result (order_in f) s.bound (times_in a w) h (c.in-Ok-None.is ∙ ap Ok c.in-Ok-None.field-0-is) in
    let t = timed-ended-refused _ _ _ _ _ _ 10 0 (timed-read n f a w r c.in-Ok.ensures _ ∙ q.0) _ refl _ q.1 in
    record { value = t.0; timed_plan_by = t.1 }

pub returns-in-Ok-Some : goal.returns-in-Ok-Some
returns-in-Ok-Some c =
    let s = c.args in
    let n = length s.answer.now in
    let f = s.file.now in
    let a = s.ready.now in
    let w = s.windows.now in
    let r = c.in-Ok.read in
    let p = c.plan_timed in
    let h = timed-told n f a w r c.in-Ok.ensures (TimedPlanTold s.rows.now p.new.rows p.result) _ s.bound
    (to_z-of_z w32 s.bound c.ranges.bound) (p.ensures.result_value, p.ensures.timed_buffer_by) in
    let q = timed-plan-rows s.rows.now p.new.rows p.result (order_in f) s.bound (times_in a w) h c.in-Ok-Some.count (c.in-Ok-Some.is ∙ ap Ok c.in-Ok-Some.field-0-is) in
    let t = timed-ended-done _ _ _ _ _ _ (timed-read n f a w r c.in-Ok.ensures _ ∙ q.0) _ _
    (record { count = c.in-Ok-Some.count; written = q.1; answered = c.put_count.ensures }) in
    record { value = t.0; timed_plan_by = t.1 }
