use Prim.Native.Nat.{ℕ}
use mathlib.Core.Path.{refl, sym, ap, ◌∙◌, subst}
use mathlib.Core.List.{List, ◌++◌}
use lib.IntN.{ℤ}
use lib.ListN.{length, drop}
use mir.ValLaws.{to_z-of_z}
use mir.Syntax.{w32}
use Rattle.order.specs.Refusals.{Accepted, bound_in_range}
use Rattle.order.specs.Table.{order_of}
use Rattle.order.specs.declared.Refusal.TheVariants.{BoundOutOfRange}
use Rattle.order_file.specs.File.{order_in}
use Rattle.profile.specs.Search.{reason_of}
use Rattle.highboyrobin.specs.Calls.{reason_numbers}
use Rattle.highboyrobin.specs.Inside.{why_numbers}
use Rattle.highboyrobin.proofs.Answering.{ended-told, ended-done}
use Rattle.order_file.specs.ReaderLaws.{order_is, order-accepted}
use Rattle.highboyrobin.proofs.Calling.{call-refused, call-read}
use Rattle.highboyrobin.proofs.ReasonTold.{numbers-are, bound-refused, bound-accepted, reason-small, why-moved}
use Rattle.highboyrobin.specs.CallLaws.{numbers-count}
use Rattle.highboyrobin.proofs.reasoning.hbr_reason.Goals as goal

pub returns-in-Err : goal.returns-in-Err
returns-in-Err c =
    let s = c.args in
    let t = ended-told _ _ _ c.in-Err.refusal
    (call-refused s.file.now (length s.answer.now) 19 c.read_order.result
    c.read_order.ensures.result_value c.if-answer-lt19.false
    _ _ refl _ c.in-Err.is)
    _ c.result_of.ensures in
    record { value = t.0; answer_after = t.1 }

pub returns-then-not-bound_in_range : goal.returns-then-not-bound_in_range
returns-then-not-bound_in_range c =
    let s = c.args in
    let f = c.args.file.now in
    let r = c.read_order.result in
    let e = c.read_order.ensures.result_value in
    let ok = c.in-Ok.is in
    let is = order_is f r e _ ok in
    let a = order-accepted f r e _ ok in
    let same = to_z-of_z w32 s.bound c.ranges.bound in
    let b = sym (ap bound_in_range same) ∙ sym c.bound_in_range.ensures in
    let t = ended-told _ _ _ BoundOutOfRange
    (call-read f (length s.answer.now) 19 r e c.if-answer-lt19.false _ _ ok ∙ bound-refused
    (order_in f) s.bound a (b ∙ c.if-not-bound_in_range.true))
    _ c.result_of-then-not-bound_in_range.ensures in
    record { value = t.0; answer_after = t.1 }

pub reason_at-requires : goal.reason_at-requires
reason_at-requires c =
    let s = c.args in
    let f = c.args.file.now in
    let r = c.read_order.result in
    let e = c.read_order.ensures.result_value in
    let ok = c.in-Ok.is in
    let is = order_is f r e _ ok in
    let a = order-accepted f r e _ ok in
    let same = to_z-of_z w32 s.bound c.ranges.bound in
    let b = sym (ap bound_in_range same) ∙ sym c.bound_in_range.ensures in
    (subst Accepted (sym is) a, ap bound_in_range same ∙ b ∙ c.if-not-bound_in_range.false)

pub put_reason-requires : goal.put_reason-requires
put_reason-requires c =
    let s = c.args in
    let f = c.args.file.now in
    let r = c.read_order.result in
    let e = c.read_order.ensures.result_value in
    let ok = c.in-Ok.is in
    let is = order_is f r e _ ok in
    let a = order-accepted f r e _ ok in
    let same = to_z-of_z w32 s.bound c.ranges.bound in
    let h = reason-small (order_in f) s.bound a c.reason_at.result
    (why-moved (order_of c.in-Ok.order) (order_in f) _ s.bound _ is same c.reason_at.ensures.value) in
    (h.0, h.1, c.if-answer-lt19.false)

pub returns : goal.returns
returns c =
    let s = c.args in
    let f = c.args.file.now in
    let r = c.read_order.result in
    let e = c.read_order.ensures.result_value in
    let ok = c.in-Ok.is in
    let is = order_is f r e _ ok in
    let a = order-accepted f r e _ ok in
    let same = to_z-of_z w32 s.bound c.ranges.bound in
    let b = sym (ap bound_in_range same) ∙ sym c.bound_in_range.ensures in
    let w = why-moved (order_of c.in-Ok.order) (order_in f) _ s.bound _ is same c.reason_at.ensures.value in
    let g = reason_of (order_in f) s.bound in
    let t = ended-done _ _ _ _
    (call-read f (length s.answer.now) 19 r e
    c.if-answer-lt19.false _ _ ok ∙ bound-accepted (order_in f)
    s.bound a (b ∙ c.if-not-bound_in_range.false))
    (c.put_reason.ensures
    ∙ ap (λ (xs : List ℤ). xs ++ drop 19 s.answer.now) (ap why_numbers w ∙ numbers-are (order_in f) g)
    ∙ ap (λ (n : ℕ). reason_numbers (order_in f) g ++ drop n s.answer.now) (sym (numbers-count (order_in f) g))) in
    record { value = t.0; answer_after = t.1 }
