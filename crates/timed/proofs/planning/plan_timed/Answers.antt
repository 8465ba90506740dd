use Rattle.std.proofs.Common.{rules, Ok, Err}
use native.Mathlib.Omega.{arith}
use mathlib.Core.Path.{◌≡◌, sym, ap, ◌∙◌, subst}
use lib.IntN.{ℤ}
use mir.Syntax.{w32}
use mir.ValLaws.{to_z-of_z}
use Rattle.order.specs.Refusals.{judge}
use Rattle.order.specs.declared.Refusal.TheVariants.{BufferTooShort}
use Rattle.order.specs.Table.{order_of, acceptance_told}
use Rattle.timed.specs.Rows.{asked_rows}
use Rattle.timed.specs.Times.{times_of}
use Rattle.timed.proofs.Ensuring.{Ensured, asked-refused, short-refused, made-ensured, timed-of, asked_is, asked-few}
use Rattle.timed.proofs.planning.plan_timed.Goals as goal

pub returns-in_err-accept_timed : goal.returns-in_err-accept_timed
returns-in_err-accept_timed c =
    let e = c.in_err-accept_timed in
    let o = order_of c.args.order in
    let t = times_of c.args.times in
    let r = c.args.rows.now in
    let is : c.from_residual.result ≡ Err e.field-0.0 = search rules in
    let told : acceptance_told c.accept_timed.result ≡ judge (asked_rows o c.args.bound t) = search rules in
    let t = subst (Ensured o c.args.bound t r r) (sym is)
    (asked-refused o c.args.bound t r e.field-0.0 (sym (ap acceptance_told e.was) ∙ told)) in
    record { result_value = t.0; timed_buffer_by = t.1 }

pub changes_of-changes-requires : goal.changes_of-changes-requires
changes_of-changes-requires c =
    let ok = sym c.accept_timed.ensures ∙ ap acceptance_told c.in_ok-accept_timed.was in
    (order_of c.args.order, timed-of _ _ _ c.args.times ok c.table_of-t.ensures)

pub overflow_mul-changes : goal.overflow_mul-changes
overflow_mul-changes c =
    let ok = sym c.accept_timed.ensures ∙ ap acceptance_told c.in_ok-accept_timed.was in
    let T = timed-of _ _ _ c.args.times ok c.table_of-t.ensures in
    omega (arith, asked-few T (c.changes_of-changes.ensures _ T))

pub returns-then-rows-changes : goal.returns-then-rows-changes
returns-then-rows-changes c =
    let o = order_of c.args.order in
    let t = times_of c.args.times in
    let r = c.args.rows.now in
    let ok = sym c.accept_timed.ensures ∙ ap acceptance_told c.in_ok-accept_timed.was in
    let T = timed-of o _ _ c.args.times ok c.table_of-t.ensures in
    let C = c.changes_of-changes.ensures o T in
    let t = subst (λ (b : ℤ). Ensured o b t r r (Err BufferTooShort)) (to_z-of_z w32 c.args.bound c.ranges.bound)
    (short-refused o _ t r ok (omega (arith, c.if-rows-changes.true, asked_is T C))) in
    record { result_value = t.0; timed_buffer_by = t.1 }

pub make_timed-requires : goal.make_timed-requires
make_timed-requires c =
    let o = order_of c.args.order in
    let ok = sym c.accept_timed.ensures ∙ ap acceptance_told c.in_ok-accept_timed.was in
    let T = timed-of o _ _ c.args.times ok c.table_of-t.ensures in
    let C = c.changes_of-changes.ensures o T in
    (o, record { timed = T; changed = C; room = omega (arith, c.if-rows-changes.false, asked_is T C) })

pub returns : goal.returns
returns c =
    let o = order_of c.args.order in
    let t = times_of c.args.times in
    let r = c.args.rows.now in
    let ok = sym c.accept_timed.ensures ∙ ap acceptance_told c.in_ok-accept_timed.was in
    let T = timed-of o _ _ c.args.times ok c.table_of-t.ensures in
    let C = c.changes_of-changes.ensures o T in
    let made = c.make_timed.ensures o
    (record { timed = T; changed = C; room = omega (arith, c.if-rows-changes.false, asked_is T C) }) in
    let t = subst (λ (b : ℤ). Ensured o b t r c.make_timed.new.rows (Ok c.make_timed.result)) (to_z-of_z w32 c.args.bound c.ranges.bound)
    (made-ensured o _ t r ok (omega (arith, c.if-rows-changes.false, asked_is T C)) _ _ made) in
    record { result_value = t.0; timed_buffer_by = t.1 }
