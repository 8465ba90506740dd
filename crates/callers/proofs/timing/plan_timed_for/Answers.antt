use Rattle.std.proofs.Common.{rules, ◌≡◌, ℕ, Option, Result, Err, length, sym, subst}
use Rattle.order.specs.Table.{order_of, refusal_told}
use Rattle.order.specs.declared.Refusal.{Refusal}
use mir.Syntax.{w32}
use mir.ValLaws.{to_z-of_z}
use Rattle.timed.specs.Times.{times_of}
use Rattle.callers.proofs.Answers.{TimedPlans, timed-refused}
use Rattle.callers.proofs.Passing.{passes_at, refuses-at}
use Rattle.callers.specs.Counted.{timed-counted}
use Rattle.callers.proofs.timing.plan_timed_for.Goals as goal

pub returns-in_err-accept_counts_for : goal.returns-in_err-accept_counts_for
returns-in_err-accept_counts_for c =
    let k = c.accept_counts_for in
    let o = order_of c.args.order in
    let why = c.in_err-accept_counts_for.field-0.0 in
    let is : c.from_residual.result ≡ Err why = search rules in
    let t = refuses-at c.args.caller c.args.order k.result k.ensures (TimedPlans o (times_of c.args.times) c.args.rows.now c.args.rows.now c.from_residual.result)
    (λ z. timed-counted o z (times_of c.args.times) (length c.args.rows.now)) c.args.bound why c.in_err-accept_counts_for.was
    (subst (λ (r : Result (Option ℕ) Refusal). TimedPlans o (times_of c.args.times) c.args.rows.now c.args.rows.now r (refusal_told why) c.args.bound) (sym is) (timed-refused o why (times_of c.args.times) c.args.rows.now c.args.bound)) in
    record { result_value = t.0; timed_buffer_by = t.1 }

pub returns : goal.returns
returns c =
    let k = c.accept_counts_for in
    let o = order_of c.args.order in
    let d = c.plan_timed in
    let t = passes_at c.args.caller c.args.order k.result k.ensures (TimedPlans o (times_of c.args.times) c.args.rows.now _ d.result)
    (λ z. timed-counted o z (times_of c.args.times) (length c.args.rows.now)) c.args.bound _ (to_z-of_z w32 c.args.bound c.ranges.bound) c.in_ok-accept_counts_for.was (d.ensures.result_value, d.ensures.timed_buffer_by) in
    record { result_value = t.0; timed_buffer_by = t.1 }
