use Rattle.std.proofs.Common.{rules, ◌≡◌, Err, sym, ap, ◌∙◌}
use borrow.Author.Tests.{not-true, not-false}
use lib.IntN.{ℤ}
use lib.ListN.{length}
use mir.Syntax.{w32}
use mir.ValLaws.{to_z-of_z}
use Rattle.order.specs.Refusals.{bound_in_range}
use Rattle.order.specs.Table.{order_of, acceptance_told}
use Rattle.text.specs.TextLaws.{put_first, put_as}
use Rattle.sentence.specs.Handed.{handed}
use Rattle.sentence.specs.Told.{composed_told, length_told}
use Rattle.sentence.specs.Line.{composed}
use Rattle.sentence.proofs.Answers.{compose-order, compose-bound, compose-short, compose-done}
use native.Mathlib.Omega.{arith}
use Rattle.sentence.proofs.compose.compose.Goals as goal

pub returns-in_err-accept : goal.returns-in_err-accept
returns-in_err-accept c =
    let why = c.in_err-accept.field-0.0 in
    let is : c.from_residual.result ≡ Err why = search rules in
    let r = compose-order (order_of c.args.order) c.args.bound c.args.why c.args.line.now _ why
    c.accept.ensures c.in_err-accept.was in record {
      result_value = ap composed_told is ∙ r.0;
      line_after = r.1;
      result_bound = omega (arith, ap length_told is);
    }

pub returns-then-not-bound_in_range : goal.returns-then-not-bound_in_range
returns-then-not-bound_in_range c =
    let z = to_z-of_z w32 c.args.bound c.ranges.bound in
    let a = sym c.accept.ensures ∙ ap acceptance_told
    c.in_ok-accept.was in
    let r = compose-bound (order_of c.args.order) c.args.bound c.args.why c.args.line.now a
    (ap bound_in_range (sym z) ∙ sym c.bound_in_range.ensures ∙ not-true _ c.if-not-bound_in_range.true-raw) in record {
      result_value = r.0;
      line_after = r.1;
      result_bound = omega arith;
    }

pub put_line-n-requires : goal.put_line-n-requires
put_line-n-requires c = (
  sym c.accept.ensures ∙ ap acceptance_told
      c.in_ok-accept.was,
  sym c.bound_in_range.ensures ∙ not-false _ c.if-not-bound_in_range.false-raw,
  omega arith,
)

pub returns-then-line-n : goal.returns-then-line-n
returns-then-line-n c =
    let o = order_of c.args.order in
    let z = to_z-of_z w32 c.args.bound c.ranges.bound in
    let a = sym c.accept.ensures ∙ ap acceptance_told
    c.in_ok-accept.was in
    let p = c.put_line-n.ensures.0 in
    let size = ap (λ (b : ℤ). length (composed o b (handed o c.args.why))) z in
    let r = compose-short o c.args.bound c.args.why c.args.line.now a
    (ap bound_in_range (sym z) ∙ sym c.bound_in_range.ensures ∙ not-false _
    c.if-not-bound_in_range.false-raw)
    (omega (arith, c.if-line-n.true, p.next-is, size)) in record {
      result_value = r.0;
      line_after = r.1;
      result_bound = omega arith;
    }

pub slice_bounds-put_bytes-end : goal.slice_bounds-put_bytes-end
slice_bounds-put_bytes-end c =
    let p = c.put_line-n.ensures.0 in
    omega (arith, p.next-is, ap length (put_first p))

pub put_bytes-requires : goal.put_bytes-requires
put_bytes-requires c =
    let p = c.put_line-n.ensures.0 in
    omega (arith, c.if-line-n.false, p.next-is, ap length (put_first p))

pub returns : goal.returns
returns c =
    let o = order_of c.args.order in
    let z = to_z-of_z w32 c.args.bound c.ranges.bound in
    let a = sym c.accept.ensures ∙ ap acceptance_told c.in_ok-accept.was in
    let p = c.put_line-n.ensures.0 in
    let same = ap (λ (b : ℤ). composed o b (handed o c.args.why)) z in
    let size = ap length same in
    let r = compose-done o c.args.bound c.args.why c.args.line.now a
    (ap bound_in_range (sym z) ∙ sym c.bound_in_range.ensures ∙ not-false _ c.if-not-bound_in_range.false-raw) _ c.put_line-n.result _
    (omega (arith, c.if-line-n.false, p.next-is, size)) (omega (arith, p.next-is, size))
    (put_as (put_first p ∙ same) c.put_bytes.ensures) in record {
      result_value = r.0;
      line_after = r.1;
      result_bound = c.put_line-n.ensures.1;
    }
