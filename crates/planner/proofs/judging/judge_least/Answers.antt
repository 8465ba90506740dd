use Rattle.std.proofs.Common.{rules, ◌≡◌, Err, refl, sym, ◌∙◌}
use borrow.Author.Tests.{ltb-true, ltb-false}
use Rattle.order.specs.Table.{order_of}
use Rattle.order.specs.declared.Refusal.TheVariants.{BufferTooShort}
use Rattle.planner.proofs.SetupLaws.{counts-small, short-is}
use Rattle.planner.proofs.Answers.{
  order-refused,
  order-accepted,
  least-refused-judged,
  least-refused-first,
  least-refused-9,
  least-open,
}
use Rattle.planner.proofs.judging.judge_least.Goals as goal

pub returns-in_err-accept : goal.returns-in_err-accept
returns-in_err-accept c =
    let o = order_of c.args.order in
    let rf = c.in_err-accept.field-0.0 in
    let is : c.from_residual.result ≡ Err rf = search rules in
    least-refused-judged o c.args.lent _ rf
    (least-refused-first o c.args.lent rf (order-refused o _ _ c.accept.ensures c.in_err-accept.was)) is

pub is_short-requires : goal.is_short-requires
is_short-requires c =
    let o = order_of c.args.order in
    counts-small o (order-accepted o _ c.accept.ensures c.in_ok-accept.was) _ c.table_of-table.ensures

pub returns-then-is_short : goal.returns-then-is_short
returns-then-is_short c =
    let o = order_of c.args.order in
    let ok = order-accepted o _ c.accept.ensures c.in_ok-accept.was in
    let short = short-is o ok _ c.table_of-table.ensures _ c.is_short.ensures in
    least-refused-judged o c.args.lent _ BufferTooShort
    (least-refused-9 o c.args.lent ok (ltb-true _ _ (sym short ∙ c.if-is_short.true))) refl

pub returns : goal.returns
returns c =
    let o = order_of c.args.order in
    let ok = order-accepted o _ c.accept.ensures c.in_ok-accept.was in
    let short = short-is o ok _ c.table_of-table.ensures _ c.is_short.ensures in
    least-open o c.args.lent _ ok (ltb-false _ _ (sym short ∙ c.if-is_short.false)) _ c.table_of-table.ensures refl
