use Prim.Native.Nat.{ℕ}
use mathlib.Core.Bool.{Bool}
use mathlib.Core.Path.{ap, ◌∙◌}
use mathlib.Core.List.{◌∷◌, ◌++◌}
use lib.IntN.{pos}
use lib.ListN.{length, drop}
use mir.ValLaws.{to_z-of_z}
use mir.Syntax.{w32}
use Rattle.order.specs.Table.{order_of}
use Rattle.order_file.specs.File.{order_in}
use Rattle.highboyrobin.proofs.Answering.{ended-told, ended-done}
use Rattle.highboyrobin.proofs.Carried.{carried-few, check-carries}
use Rattle.order_file.specs.ReaderLaws.{order_is}
use Rattle.highboyrobin.proofs.Calling.{call-refused, call-read}
use Rattle.highboyrobin.specs.Calls.{yes_or_no}
use Rattle.highboyrobin.proofs.ChecksTold.{check-begins, check-moved, check-refused, check-done, number-told}
use Rattle.highboyrobin.proofs.checking.hbr_check.Goals as goal

pub returns-in-Err : goal.returns-in-Err
returns-in-Err c =
    let s = c.args in
    let t = ended-told _ _ _ c.in-Err.refusal
    (call-refused s.file.now (length s.answer.now) 1 c.read_order.result
    c.read_order.ensures.result_value c.if-answer-lt1.false
    _ _ (check-begins (order_in s.file.now) s.bound (length s.rows.now)) _ c.in-Err.is)
    _ c.result_of.ensures in
    record { value = t.0; answer_after = t.1 }

pub result_of-requires-in-Err-check_plan : goal.result_of-requires-in-Err-check_plan
result_of-requires-in-Err-check_plan c =
    let s = c.args in
    let f = c.args.file.now in
    let o = order_in f in
    let r = c.read_order.result in
    let e = c.read_order.ensures.result_value in
    let ok = c.in-Ok.is in
    let p = c.check_plan in
    let same = to_z-of_z w32 s.bound c.ranges.bound in
    let t = check-moved (order_of c.in-Ok.order) o _ s.bound s.rows.now p.result (order_is f r e _ ok) same p.ensures in
    carried-few _ _ (check-refused o s.bound s.rows.now p.result t c.in-Err-check_plan.refusal
    c.in-Err-check_plan.is)
    (check-carries o s.bound (length s.rows.now))

pub returns-in-Err-check_plan : goal.returns-in-Err-check_plan
returns-in-Err-check_plan c =
    let s = c.args in
    let f = c.args.file.now in
    let o = order_in f in
    let r = c.read_order.result in
    let e = c.read_order.ensures.result_value in
    let ok = c.in-Ok.is in
    let p = c.check_plan in
    let same = to_z-of_z w32 s.bound c.ranges.bound in
    let t = check-moved (order_of c.in-Ok.order) o _ s.bound s.rows.now p.result (order_is f r e _ ok) same p.ensures in
    let t = ended-told _ _ _ c.in-Err-check_plan.refusal
    (call-read f (length s.answer.now) 1 r e c.if-answer-lt1.false _ _ ok
    ∙ check-refused o s.bound s.rows.now p.result t c.in-Err-check_plan.refusal
    c.in-Err-check_plan.is)
    _ c.result_of-in-Err-check_plan.ensures in
    record { value = t.0; answer_after = t.1 }

pub returns-in-Ok-check_plan : goal.returns-in-Ok-check_plan
returns-in-Ok-check_plan c =
    let s = c.args in
    let f = c.args.file.now in
    let o = order_in f in
    let r = c.read_order.result in
    let e = c.read_order.ensures.result_value in
    let ok = c.in-Ok.is in
    let p = c.check_plan in
    let same = to_z-of_z w32 s.bound c.ranges.bound in
    let t = check-moved (order_of c.in-Ok.order) o _ s.bound s.rows.now p.result (order_is f r e _ ok) same p.ensures in
    let h = check-done o s.bound s.rows.now p.result t _ c.in-Ok-check_plan.is in
    let t = ended-done _ _ _ _ (call-read f (length s.answer.now) 1 r e
    c.if-answer-lt1.false _ _ ok ∙ h.0)
    (c.put_count.ensures
    ∙ ap (λ (n : ℕ). pos n ∷ drop 1 s.answer.now) (c.from.ensures ∙ number-told c.in-Ok-check_plan.right)
    ∙ ap (λ (b : Bool). yes_or_no b ++ drop 1 s.answer.now) h.1) in
    record { value = t.0; answer_after = t.1 }
