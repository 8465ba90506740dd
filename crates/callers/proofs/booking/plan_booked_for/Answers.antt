use Rattle.std.proofs.Common.{rules, ◌≡◌, ℕ, Result, Err, length, sym, subst}
use Rattle.order.specs.Table.{order_of, refusal_told}
use mir.Syntax.{w32}
use mir.ValLaws.{to_z-of_z}
use Rattle.planner.specs.declared.NoPlan.{NoPlan}
use Rattle.planner.specs.declared.NoPlan.TheVariants.{Refused}
use Rattle.callers.proofs.Answers.{PlanBooks, plan-book-refused}
use Rattle.callers.proofs.Passing.{passes_at, refuses-at}
use Rattle.callers.specs.Counted.{book-plan-counted}
use Rattle.callers.proofs.booking.plan_booked_for.Goals as goal

pub returns-in_err-accept_counts_for : goal.returns-in_err-accept_counts_for
returns-in_err-accept_counts_for c =
    let k = c.accept_counts_for in
    let o = order_of c.args.order in
    let why = c.in_err-accept_counts_for.field-0.0 in
    let is : c.from_residual.result ≡ Err (Refused why) = search rules in
    let t = refuses-at c.args.caller c.args.order k.result k.ensures (PlanBooks o c.args.rows.now c.args.rows.now c.args.book.now.counts c.args.book.now.counts c.from_residual.result)
    (λ z. book-plan-counted o z (length c.args.rows.now) c.args.book.now.counts) c.args.bound why c.in_err-accept_counts_for.was
    (subst (λ (r : Result ℕ NoPlan). PlanBooks o c.args.rows.now c.args.rows.now c.args.book.now.counts c.args.book.now.counts r (refusal_told why) c.args.bound) (sym is) (plan-book-refused o why c.args.rows.now c.args.book.now.counts c.args.bound)) in
    record { planned_value = t.0; reason_told = t.1.0; buffer_by = t.1.1.0; counts_value = t.1.1.1 }

pub returns : goal.returns
returns c =
    let k = c.accept_counts_for in
    let o = order_of c.args.order in
    let d = c.plan_booked in
    let t = passes_at c.args.caller c.args.order k.result k.ensures (PlanBooks o c.args.rows.now _ c.args.book.now.counts _ d.result)
    (λ z. book-plan-counted o z (length c.args.rows.now) c.args.book.now.counts) c.args.bound _ (to_z-of_z w32 c.args.bound c.ranges.bound) c.in_ok-accept_counts_for.was (d.ensures.planned_value, (d.ensures.reason_told, (d.ensures.buffer_by, d.ensures.counts_value))) in
    record { planned_value = t.0; reason_told = t.1.0; buffer_by = t.1.1.0; counts_value = t.1.1.1 }
