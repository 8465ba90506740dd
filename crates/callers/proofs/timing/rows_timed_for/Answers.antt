use Rattle.std.proofs.Common.{rules, ◌≡◌, ℕ, Result, Err, sym, subst}
use Rattle.order.specs.Table.{order_of, refusal_told}
use Rattle.order.specs.declared.Refusal.{Refusal}
use mir.Syntax.{w32}
use mir.ValLaws.{to_z-of_z}
use Rattle.timed.specs.Times.{times_of}
use Rattle.callers.proofs.Answers.{Asks, no_value}
use Rattle.callers.proofs.Passing.{passes_at, refuses-at}
use Rattle.callers.specs.Counted.{asked-counted}
use Rattle.callers.proofs.timing.rows_timed_for.Goals as goal

pub returns-in_err-accept_counts_for : goal.returns-in_err-accept_counts_for
returns-in_err-accept_counts_for c =
    let k = c.accept_counts_for in
    let o = order_of c.args.order in
    let why = c.in_err-accept_counts_for.field-0.0 in
    let is : c.from_residual.result ≡ Err why = search rules in
    let t = refuses-at c.args.caller c.args.order k.result k.ensures (Asks o (times_of c.args.times) c.from_residual.result)
    (λ z. asked-counted o z (times_of c.args.times)) c.args.bound why c.in_err-accept_counts_for.was
    (subst (λ (r : Result ℕ Refusal). Asks o (times_of c.args.times) r (refusal_told why) c.args.bound) (sym is) (no_value o why _ _)) in
    t

pub returns : goal.returns
returns c =
    let k = c.accept_counts_for in
    let o = order_of c.args.order in
    let d = c.rows_timed in
    let t = passes_at c.args.caller c.args.order k.result k.ensures (Asks o (times_of c.args.times) d.result)
    (λ z. asked-counted o z (times_of c.args.times)) c.args.bound _ (to_z-of_z w32 c.args.bound c.ranges.bound) c.in_ok-accept_counts_for.was d.ensures in
    t
