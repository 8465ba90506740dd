use Rattle.std.proofs.Common.{rules, ◌≡◌, Result, Err, sym, subst}
use Rattle.order.specs.Table.{order_of, refusal_told}
use Rattle.order.specs.declared.Refusal.{Refusal}
use mir.Syntax.{w32}
use mir.ValLaws.{to_z-of_z}
use Rattle.reason.specs.declared.Why.{Why}
use Rattle.callers.proofs.Answers.{Recovers, back-refused}
use Rattle.callers.proofs.Passing.{passes_at, refuses-at}
use Rattle.callers.specs.Counted.{back-counted}
use Rattle.callers.proofs.telling.read_back_for.Goals as goal

pub returns-in_err-accept_counts_for : goal.returns-in_err-accept_counts_for
returns-in_err-accept_counts_for c =
    let k = c.accept_counts_for in
    let o = order_of c.args.order in
    let why = c.in_err-accept_counts_for.field-0.0 in
    let is : c.from_residual.result ≡ Err why = search rules in
    let t = refuses-at c.args.caller c.args.order k.result k.ensures (Recovers o c.args.line.now c.from_residual.result)
    (λ z. back-counted o z) c.args.bound why c.in_err-accept_counts_for.was
    (subst (λ (r : Result Why Refusal). Recovers o c.args.line.now r (refusal_told why) c.args.bound) (sym is) (back-refused o why c.args.line.now c.args.bound)) in
    record { status_value = t.0; why_value = t.1 }

pub returns : goal.returns
returns c =
    let k = c.accept_counts_for in
    let o = order_of c.args.order in
    let d = c.read_back in
    let t = passes_at c.args.caller c.args.order k.result k.ensures (Recovers o c.args.line.now d.result)
    (λ z. back-counted o z) c.args.bound _ (to_z-of_z w32 c.args.bound c.ranges.bound) c.in_ok-accept_counts_for.was (d.ensures.status_value, d.ensures.why_value) in
    record { status_value = t.0; why_value = t.1 }
