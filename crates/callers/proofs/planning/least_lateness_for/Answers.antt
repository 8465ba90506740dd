use Rattle.std.proofs.Common.{rules, ◌≡◌, Result, Err, length, sym, subst}
use Rattle.order.specs.Table.{order_of, refusal_told}
use Rattle.order.specs.declared.Refusal.{Refusal}
use Rattle.planner.specs.declared.Least.{Least}
use Rattle.callers.proofs.Answers.{Leasts, least-refused}
use Rattle.callers.proofs.Passing.{passes, refuses}
use Rattle.callers.specs.Counted.{least-counted}
use Rattle.callers.proofs.planning.least_lateness_for.Goals as goal

pub returns-in_err-accept_counts_for : goal.returns-in_err-accept_counts_for
returns-in_err-accept_counts_for c =
    let k = c.accept_counts_for in
    let o = order_of c.args.order in
    let why = c.in_err-accept_counts_for.field-0.0 in
    let is : c.from_residual.result ≡ Err why = search rules in
    let t = refuses c.args.caller c.args.order k.result k.ensures (Leasts o c.args.rows.now c.args.rows.now c.from_residual.result)
    (least-counted o (length c.args.rows.now)) why c.in_err-accept_counts_for.was
    (subst (λ (r : Result Least Refusal). Leasts o c.args.rows.now c.args.rows.now r (refusal_told why)) (sym is) (least-refused o why c.args.rows.now)) in
    record { result_value = t.0; least_in = t.1.0; buffer_by = t.1.1 }

pub returns : goal.returns
returns c =
    let k = c.accept_counts_for in
    let o = order_of c.args.order in
    let d = c.least_lateness in
    let t = passes c.args.caller c.args.order k.result k.ensures (Leasts o c.args.rows.now _ d.result)
    (least-counted o (length c.args.rows.now)) c.in_ok-accept_counts_for.was (d.ensures.result_value, (d.ensures.least_in, d.ensures.buffer_by)) in
    record { result_value = t.0; least_in = t.1.0; buffer_by = t.1.1 }
