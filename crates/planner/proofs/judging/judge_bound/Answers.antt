use Rattle.std.proofs.Common.{rules, ◌≡◌, ◌/◌, ◌≤◌, Err, refl, sym, ◌∙◌}
use borrow.Author.Tests.{ltb-true, ltb-false}
use mir.Syntax.{w32}
use mir.ValLaws.{to_z-of_z}
use Rattle.order.proofs.RefusalLaws.{accepted-iff}
use Rattle.order.specs.Table.{order_of}
use Rattle.order.specs.declared.Refusal.TheVariants.{BoundOutOfRange, BufferTooShort}
use Rattle.table.specs.Making.{fine_of}
use Rattle.planner.specs.Rows.{rows_asked}
use Rattle.planner.specs.declared.NoPlan.TheVariants.{Refused}
use Rattle.planner.proofs.SetupLaws.{counts-small, short-is}
use Rattle.planner.proofs.Answers.{
  order-refused,
  order-accepted,
  refused-first,
  refused-8,
  refused-9,
  refused-judged,
  tight-judged,
  open-judged,
  out_of_range,
  read-in,
  within-range,
  reason-told,
}
use Rattle.planner.proofs.judging.judge_bound.Goals as goal

pub returns-in_err-accept : goal.returns-in_err-accept
returns-in_err-accept c =
    let o = order_of c.args.order in
    let rf = c.in_err-accept.field-0.0 in
    let is : c.from_residual.result ≡ Err (Refused rf) = search rules in
    refused-judged o c.args.bound c.args.lent _ rf
    (refused-first o c.args.bound c.args.lent rf (order-refused o _ _ c.accept.ensures c.in_err-accept.was)) is

pub returns-then-not-bound_in_range : goal.returns-then-not-bound_in_range
returns-then-not-bound_in_range c =
    let o = order_of c.args.order in
    let e = to_z-of_z w32 c.args.bound c.ranges.bound in
    let ok = order-accepted o _ c.accept.ensures c.in_ok-accept.was in
    refused-judged o c.args.bound c.args.lent _ BoundOutOfRange
    (refused-8 o c.args.bound c.args.lent ok
    (out_of_range _ _ e _ c.bound_in_range.ensures c.if-not-bound_in_range.true-raw)) refl

pub table_of-table-requires : goal.table_of-table-requires
table_of-table-requires c = order-accepted (order_of c.args.order) _ c.accept.ensures c.in_ok-accept.was

pub is_short-requires : goal.is_short-requires
is_short-requires c =
    let o = order_of c.args.order in
    counts-small o (order-accepted o _ c.accept.ensures c.in_ok-accept.was) _ c.table_of-table.ensures

pub returns-then-is_short : goal.returns-then-is_short
returns-then-is_short c =
    let o = order_of c.args.order in
    let e = to_z-of_z w32 c.args.bound c.ranges.bound in
    let ok = order-accepted o _ c.accept.ensures c.in_ok-accept.was in
    let in-range = within-range _ _ e _ c.bound_in_range.ensures c.if-not-bound_in_range.false-raw in
    refused-judged o c.args.bound c.args.lent _ BufferTooShort
    (refused-9 o c.args.bound c.args.lent ok in-range
    (ltb-true _ _ (sym (short-is o ok _ c.table_of-table.ensures _ c.is_short.ensures) ∙ c.if-is_short.true))) refl

pub reach_of-requires : goal.reach_of-requires
reach_of-requires c =
    let e = to_z-of_z w32 c.args.bound c.ranges.bound in
    read-in _ _ e _ c.bound_in_range.ensures c.if-not-bound_in_range.false-raw

pub tell-why-requires : goal.tell-why-requires
tell-why-requires c =
    let o = order_of c.args.order in
    let ok = order-accepted o _ c.accept.ensures c.in_ok-accept.was in record {
      fine = fine_of o _ c.table_of-table.ensures ((accepted-iff o).0 ok);
      reach_le_most_reach = c.reach_of.ensures.1;
    }

pub returns-in-Some : goal.returns-in-Some
returns-in-Some c =
    let o = order_of c.args.order in
    let e = to_z-of_z w32 c.args.bound c.ranges.bound in
    let ok = order-accepted o _ c.accept.ensures c.in_ok-accept.was in
    let m = c.table_of-table.ensures in
    let room : rows_asked o ≤ c.args.lent / 4
    = ltb-false _ _ (sym (short-is o ok _ m _ c.is_short.ensures) ∙ c.if-is_short.false) in
    let in-range = within-range _ _ e _ c.bound_in_range.ensures c.if-not-bound_in_range.false-raw in
    let f = reason-told o ok _ m c.args.bound _ e _ c.reach_of.ensures.0 _ c.tell-why.ensures in
    tight-judged o c.args.bound c.args.lent _ ok in-range room _ m _ f _ c.in-Some.is refl

pub returns : goal.returns
returns c =
    let o = order_of c.args.order in
    let e = to_z-of_z w32 c.args.bound c.ranges.bound in
    let ok = order-accepted o _ c.accept.ensures c.in_ok-accept.was in
    let m = c.table_of-table.ensures in
    let room : rows_asked o ≤ c.args.lent / 4
    = ltb-false _ _ (sym (short-is o ok _ m _ c.is_short.ensures) ∙ c.if-is_short.false) in
    let in-range = within-range _ _ e _ c.bound_in_range.ensures c.if-not-bound_in_range.false-raw in
    let f = reason-told o ok _ m c.args.bound _ e _ c.reach_of.ensures.0 _ c.tell-why.ensures in
    open-judged o c.args.bound c.args.lent _ ok in-range room _ m _ f c.in_default.is refl
