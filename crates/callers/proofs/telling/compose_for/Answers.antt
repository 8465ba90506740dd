use Rattle.std.proofs.Common.{rules, ◌≡◌, ℕ, Result, Err, length, sym, subst}
use Rattle.order.specs.Table.{order_of, refusal_told}
use Rattle.order.specs.declared.Refusal.{Refusal}
use mir.Syntax.{w32}
use mir.ValLaws.{to_z-of_z}
use Rattle.callers.proofs.Answers.{Composes, compose-refused}
use Rattle.callers.proofs.Passing.{passes_at, refuses-at}
use Rattle.callers.specs.Counted.{compose-counted}
use Rattle.callers.proofs.telling.compose_for.Goals as goal

pub returns-in_err-accept_counts_for : goal.returns-in_err-accept_counts_for
returns-in_err-accept_counts_for c =
    let k = c.accept_counts_for in
    let o = order_of c.args.order in
    let why = c.in_err-accept_counts_for.field-0.0 in
    let is : c.from_residual.result ≡ Err why = search rules in
    let t = refuses-at c.args.caller c.args.order k.result k.ensures (Composes o c.args.why c.args.line.now c.args.line.now c.from_residual.result)
    (λ z. compose-counted o z c.args.why (length c.args.line.now)) c.args.bound why c.in_err-accept_counts_for.was
    (subst (λ (r : Result ℕ Refusal). Composes o c.args.why c.args.line.now c.args.line.now r (refusal_told why) c.args.bound) (sym is) (compose-refused o why c.args.why c.args.line.now c.args.bound)) in
    record { result_value = t.0; line_after = t.1.0; result_bound = t.1.1 }

pub returns : goal.returns
returns c =
    let k = c.accept_counts_for in
    let o = order_of c.args.order in
    let d = c.compose in
    let t = passes_at c.args.caller c.args.order k.result k.ensures (Composes o c.args.why c.args.line.now _ d.result)
    (λ z. compose-counted o z c.args.why (length c.args.line.now)) c.args.bound _ (to_z-of_z w32 c.args.bound c.ranges.bound) c.in_ok-accept_counts_for.was (d.ensures.result_value, (d.ensures.line_after, d.ensures.result_bound)) in
    record { result_value = t.0; line_after = t.1.0; result_bound = t.1.1 }
