use Rattle.std.proofs.Common.{◌+◌, ◌-◌, ◌*◌}
use native.Mathlib.Omega.{arith}
use mathlib.Core.Path.{◌≡◌, sym, ap, ◌∙◌, subst}
use lib.IntN.{ℤ}
use mir.Syntax.{w32}
use mir.ValLaws.{to_z-of_z}
use Rattle.order.specs.Refusals.{judge, answer, answer_by}
use Rattle.order.specs.Table.{order_of, acceptance_told}
use Rattle.timed.specs.Changes.{timed_rows_asked}
use Rattle.timed.specs.Rows.{asked_rows}
use Rattle.timed.specs.Times.{times_of}
use Rattle.timed.proofs.Ensuring.{timed-of, asked_is, asked-few, rows_told}
use Rattle.timed.proofs.asking.rows_timed.Goals as goal

pub changes_of-changes-requires : goal.changes_of-changes-requires
changes_of-changes-requires c =
    let ok = sym c.accept_timed.ensures ∙ ap acceptance_told c.in_ok-accept_timed.was in
    (order_of c.args.order, timed-of _ _ _ c.args.times ok c.table_of-t.ensures)

pub overflow_mul-result : goal.overflow_mul-result
overflow_mul-result c =
    let ok = sym c.accept_timed.ensures ∙ ap acceptance_told c.in_ok-accept_timed.was in
    let T = timed-of _ _ _ c.args.times ok c.table_of-t.ensures in
    omega (arith, asked-few T (c.changes_of-changes.ensures _ T))

pub overflow_cast-result : goal.overflow_cast-result
overflow_cast-result c =
    let ok = sym c.accept_timed.ensures ∙ ap acceptance_told c.in_ok-accept_timed.was in
    let T = timed-of _ _ _ c.args.times ok c.table_of-t.ensures in
    omega (arith, asked-few T (c.changes_of-changes.ensures _ T))

pub returns : goal.returns
returns c =
    let o = order_of c.args.order in
    let t = times_of c.args.times in
    let ok = sym c.accept_timed.ensures ∙ ap acceptance_told c.in_ok-accept_timed.was in
    let T = timed-of o _ _ c.args.times ok c.table_of-t.ensures in
    let C = c.changes_of-changes.ensures o T in
    let n = c.changes_of-changes.result.count * (c.table_of-t.result.n + c.table_of-t.result.m - 1) in
    subst (λ (b : ℤ). answer n ≡ answer_by (judge (asked_rows o b t)) (timed_rows_asked o b t))
    (to_z-of_z w32 c.args.bound c.ranges.bound) (rows_told o _ t ok (asked_is T C))
