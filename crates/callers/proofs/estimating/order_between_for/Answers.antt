use Rattle.std.proofs.Common.{rules, ◌≡◌, Err, ap, ◌∙◌}
use Rattle.estimate.specs.Estimate.{estimate_rows}
use Rattle.estimate.specs.Told.{estimate_of, met_told}
use Rattle.order.specs.Refusals.{limits, Verdict, judge}
use lib.IntN.{ℤ}
use mathlib.Core.Path.{subst}
use mir.Syntax.{w32}
use mir.ValLaws.{to_z-of_z}
use Rattle.callers.proofs.Between.{Meets, between-passes, meets-refused}
use Rattle.callers.proofs.estimating.order_between_for.Goals as goal

pub returns-in_err-accept_counts_for-clause-result_value : goal.returns-in_err-accept_counts_for-clause-result_value
returns-in_err-accept_counts_for-clause-result_value c =
    let k = c.accept_counts_for in
    let why = c.in_err-accept_counts_for.field-0.0 in
    let is : c.from_residual.result ≡ Err why = search rules in
    ap met_told is ∙ (meets-refused c.args.caller c.args.estimate k.result k.ensures why c.in_err-accept_counts_for.was c.args.number).0

pub returns : goal.returns
returns c =
    let k = c.accept_counts_for in
    let d = c.order_between in
    let t = between-passes c.args.caller c.args.estimate k.result k.ensures
    (λ (v : Verdict). Meets c.args.estimate d.result v c.args.number) c.in_ok-accept_counts_for.was
    (subst (λ (z : ℤ). Meets c.args.estimate d.result (judge (estimate_rows limits (estimate_of c.args.estimate))) z)
    (to_z-of_z w32 c.args.number c.ranges.number) (d.ensures.result_value, d.ensures.order_value)) in
    record { result_value = t.0; order_value = t.1 }
