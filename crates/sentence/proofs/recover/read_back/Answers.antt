use Rattle.std.proofs.Common.{rules, ◌≡◌, Err, sym, ap, ◌∙◌}
use borrow.Author.Tests.{not-true, not-false}
use lib.IntN.{ℤ}
use mir.Syntax.{w32}
use mir.ValLaws.{to_z-of_z}
use Rattle.order.specs.Refusals.{bound_in_range}
use Rattle.order.specs.Table.{order_of, acceptance_told}
use Rattle.reason.specs.Told.{why_of}
use Rattle.sentence.specs.Line.{read_back}
use Rattle.sentence.specs.Told.{recovered_told}
use Rattle.sentence.proofs.Answers.{read-order, read-bound, read_done}
use Rattle.sentence.proofs.recover.read_back.Goals as goal

pub returns-in_err-accept-clause-status_value : goal.returns-in_err-accept-clause-status_value
returns-in_err-accept-clause-status_value c =
    let why = c.in_err-accept.field-0.0 in
    let is : c.from_residual.result ≡ Err why = search rules in
    ap recovered_told is ∙ read-order (order_of c.args.order) c.args.bound _ why c.accept.ensures c.in_err-accept.was

pub returns-then-not-bound_in_range-clause-status_value : goal.returns-then-not-bound_in_range-clause-status_value
returns-then-not-bound_in_range-clause-status_value c =
    let z = to_z-of_z w32 c.args.bound c.ranges.bound in
    let a = sym c.accept.ensures ∙ ap acceptance_told c.in_ok-accept.was in
    read-bound (order_of c.args.order) c.args.bound a
    (ap bound_in_range (sym z) ∙ sym c.bound_in_range.ensures ∙ not-true _ c.if-not-bound_in_range.true-raw)

pub recovered-requires : goal.recovered-requires
recovered-requires c = (
  sym c.accept.ensures ∙ ap acceptance_told c.in_ok-accept.was,
  sym c.bound_in_range.ensures ∙ not-false _ c.if-not-bound_in_range.false-raw,
)

pub returns : goal.returns
returns c =
    let o = order_of c.args.order in
    let z = to_z-of_z w32 c.args.bound c.ranges.bound in
    let a = sym c.accept.ensures ∙ ap acceptance_told c.in_ok-accept.was in
    record {
      status_value = read_done o c.args.bound a
          (ap bound_in_range (sym z) ∙ sym c.bound_in_range.ensures ∙ not-false _ c.if-not-bound_in_range.false-raw);
      why_value = c.recovered.ensures ∙ ap (λ (b : ℤ). why_of o (read_back o b c.args.line.now)) z;
    }
