use Rattle.std.proofs.Common.{rules, ◌≡◌, ℕ, Result, Err, length, sym, subst}
use Rattle.order.specs.Table.{order_of, refusal_told}
use Rattle.order.specs.declared.Refusal.{Refusal}
use Rattle.callers.proofs.Answers.{Writes, write-refused}
use Rattle.callers.proofs.Passing.{passes, refuses}
use Rattle.callers.specs.Counted.{write-counted}
use Rattle.callers.proofs.files.write_order_for.Goals as goal

pub returns-in_err-accept_counts_for : goal.returns-in_err-accept_counts_for
returns-in_err-accept_counts_for c =
    let k = c.accept_counts_for in
    let o = order_of c.args.order in
    let why = c.in_err-accept_counts_for.field-0.0 in
    let is : c.from_residual.result ≡ Err why = search rules in
    let t = refuses c.args.caller c.args.order k.result k.ensures (Writes o c.args.out.now c.args.out.now c.from_residual.result)
    (write-counted o (length c.args.out.now)) why c.in_err-accept_counts_for.was
    (subst (λ (r : Result ℕ Refusal). Writes o c.args.out.now c.args.out.now r (refusal_told why)) (sym is) (write-refused o why c.args.out.now)) in
    record { result_value = t.0; out_after = t.1.0; read_back_by = t.1.1 }

pub returns : goal.returns
returns c =
    let k = c.accept_counts_for in
    let o = order_of c.args.order in
    let d = c.write_order in
    let t = passes c.args.caller c.args.order k.result k.ensures (Writes o c.args.out.now _ d.result)
    (write-counted o (length c.args.out.now)) c.in_ok-accept_counts_for.was (d.ensures.result_value, (d.ensures.out_after, d.ensures.read_back_by)) in
    record { result_value = t.0; out_after = t.1.0; read_back_by = t.1.1 }
