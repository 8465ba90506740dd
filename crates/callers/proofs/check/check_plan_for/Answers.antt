use Rattle.std.proofs.Common.{rules, ◌≡◌, Bool, Result, Err, length, sym, subst}
use Rattle.order.specs.Table.{order_of, refusal_told}
use Rattle.order.specs.declared.Refusal.{Refusal}
use mir.Syntax.{w32}
use mir.ValLaws.{to_z-of_z}
use Rattle.callers.proofs.Answers.{Checks, no_value}
use Rattle.callers.proofs.Passing.{passes_at, refuses-at}
use Rattle.callers.specs.Counted.{check-counted}
use Rattle.callers.proofs.check.check_plan_for.Goals as goal

pub returns-in_err-accept_counts_for : goal.returns-in_err-accept_counts_for
returns-in_err-accept_counts_for c =
    let k = c.accept_counts_for in
    let o = order_of c.args.order in
    let why = c.in_err-accept_counts_for.field-0.0 in
    let is : c.from_residual.result ≡ Err why = search rules in
    let t = refuses-at c.args.caller c.args.order k.result k.ensures (Checks o c.args.rows.now c.from_residual.result)
    (λ z. check-counted o z (length c.args.rows.now)) c.args.bound why c.in_err-accept_counts_for.was
    (subst (λ (r : Result Bool Refusal). Checks o c.args.rows.now r (refusal_told why) c.args.bound) (sym is) (no_value o why _ _)) in
    t

pub returns : goal.returns
returns c =
    let k = c.accept_counts_for in
    let o = order_of c.args.order in
    let d = c.check_plan in
    let t = passes_at c.args.caller c.args.order k.result k.ensures (Checks o c.args.rows.now d.result)
    (λ z. check-counted o z (length c.args.rows.now)) c.args.bound _ (to_z-of_z w32 c.args.bound c.ranges.bound) c.in_ok-accept_counts_for.was d.ensures in
    t
