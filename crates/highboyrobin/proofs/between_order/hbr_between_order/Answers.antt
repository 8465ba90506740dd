use Rattle.std.specs.Prelude.{Some, None, Ok, Err}
use native.Mathlib.Omega.{arith}
use mathlib.Core.Path.{ap, ◌∙◌}
use lib.ListN.{length}
use mir.Syntax.{w32}
use mir.ValLaws.{to_z-of_z}
use Rattle.estimate.specs.Estimate.{order_met}
use Rattle.highboyrobin.specs.BetweenCalls.{estimate_in}
use Rattle.highboyrobin.proofs.BetweenCalling.{order-rows-begin, between-refused, between-estimate, between-read, between-room}
use Rattle.highboyrobin.proofs.BetweenTold.{met-moved, met-refused, met-accepted, order-refused, met-told, met-none, met-handed}
use Rattle.highboyrobin.proofs.Carried.{carried-few, estimate-carries}
use Rattle.highboyrobin.proofs.between_order.hbr_between_order.Goals as goal

pub returns-in-Err : goal.returns-in-Err
returns-in-Err c =
    let s = c.args in
    let f = s.file.now in
    let h = s.highs.now in
    let w = between-refused (length s.answer.now) 1 f h c.in-Err.result c.in-Err.ensures _ _ (order-rows-begin f h _) in
    let t = order-refused _ (order_met (estimate_in f h) s.number) _ _ w.0 w.1 w.2 _ w.3 in
    record { value = t.0; order_after = t.1.0; back_by = t.1.1.0; answer_after = t.1.1.1 }

pub hand_out-requires : goal.hand_out-requires
hand_out-requires c =
    let s = c.args in
    let f = s.file.now in
    let h = s.highs.now in
    let n = length s.answer.now in
    let d = c.in-Ok.estimate in
    let e = estimate_in f h in
    let m = c.order_between in
    let t = met-moved m.result (Ok (Some c.in-Ok-Some.met)) _ e _ s.number (c.in-Ok-Some.is ∙ ap Ok c.in-Ok-Some.field-0-is) (between-estimate n 1 f h d c.in-Ok.ensures)
    (to_z-of_z w32 s.number c.ranges.number) m.ensures.result_value in
    (met-accepted e s.number c.in-Ok-Some.met t, between-room n 1 f h d c.in-Ok.ensures)

pub put_count-requires : goal.put_count-requires
put_count-requires c =
    let s = c.args in
    (omega arith, between-room (length s.answer.now) 1 s.file.now s.highs.now c.in-Ok.estimate c.in-Ok.ensures)

pub result_of-requires : goal.result_of-requires
result_of-requires c =
    let s = c.args in
    let f = s.file.now in
    let h = s.highs.now in
    let n = length s.answer.now in
    let d = c.in-Ok.estimate in
    let e = estimate_in f h in
    let m = c.order_between in
    let t = met-moved m.result (Err c.in-Err-order_between.refusal) _ e _ s.number c.in-Err-order_between.is (between-estimate n 1 f h d c.in-Ok.ensures)
    (to_z-of_z w32 s.number c.ranges.number) m.ensures.result_value in
    carried-few _ _ (met-refused e s.number c.in-Err-order_between.refusal t) (estimate-carries e)

pub returns-in-Err-order_between : goal.returns-in-Err-order_between
returns-in-Err-order_between c =
    let s = c.args in
    let f = s.file.now in
    let h = s.highs.now in
    let n = length s.answer.now in
    let d = c.in-Ok.estimate in
    let e = estimate_in f h in
    let m = c.order_between in
    let t = met-moved m.result (Err c.in-Err-order_between.refusal) _ e _ s.number c.in-Err-order_between.is (between-estimate n 1 f h d c.in-Ok.ensures)
    (to_z-of_z w32 s.number c.ranges.number) m.ensures.result_value in
    let t = met-told _ e s.number s.order.now (between-read n 1 f h d c.in-Ok.ensures _) s.answer.now
    c.in-Err-order_between.refusal t _ c.result_of.ensures in
    record { value = t.0; order_after = t.1.0; back_by = t.1.1.0; answer_after = t.1.1.1 }

pub returns-in-Ok-None : goal.returns-in-Ok-None
returns-in-Ok-None c =
    let s = c.args in
    let f = s.file.now in
    let h = s.highs.now in
    let n = length s.answer.now in
    let d = c.in-Ok.estimate in
    let e = estimate_in f h in
    let m = c.order_between in
    let t = met-moved m.result (Ok None) _ e _ s.number (c.in-Ok-None.is ∙ ap Ok c.in-Ok-None.field-0-is) (between-estimate n 1 f h d c.in-Ok.ensures)
    (to_z-of_z w32 s.number c.ranges.number) m.ensures.result_value in
    let t = met-none _ e s.number s.order.now (between-read n 1 f h d c.in-Ok.ensures _) s.answer.now t _ c.put_count.ensures in
    record { value = t.0; order_after = t.1.0; back_by = t.1.1.0; answer_after = t.1.1.1 }

pub returns-in-Ok-Some : goal.returns-in-Ok-Some
returns-in-Ok-Some c =
    let s = c.args in
    let f = s.file.now in
    let h = s.highs.now in
    let n = length s.answer.now in
    let d = c.in-Ok.estimate in
    let e = estimate_in f h in
    let m = c.order_between in
    let t = met-moved m.result (Ok (Some c.in-Ok-Some.met)) _ e _ s.number (c.in-Ok-Some.is ∙ ap Ok c.in-Ok-Some.field-0-is) (between-estimate n 1 f h d c.in-Ok.ensures)
    (to_z-of_z w32 s.number c.ranges.number) m.ensures.result_value in
    let t = met-handed _ e s.number s.order.now (between-read n 1 f h d c.in-Ok.ensures _) s.answer.now c.in-Ok-Some.met t _ _ _
    c.hand_out.ensures in
    record { value = t.0; order_after = t.1.0; back_by = t.1.1.0; answer_after = t.1.1.1 }
