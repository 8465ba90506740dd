use Rattle.std.proofs.Common.{rules, ◌≡◌, Err, ap, ◌∙◌}
use Rattle.estimate.specs.Told.{leasts_told}
use Rattle.estimate.proofs.Answers.{leasts-refused, leasts-told}
use Rattle.estimate.proofs.between.least_between.Goals as goal

pub returns-in_err-accept_estimate : goal.returns-in_err-accept_estimate
returns-in_err-accept_estimate c =
    let e = c.in_err-accept_estimate in
    let is : c.from_residual.result ≡ Err e.field-0.0 = search rules in
    ap leasts_told is ∙ leasts-refused c.args.estimate _ c.accept_estimate.ensures _ e.was

pub returns : goal.returns
returns c =
    leasts-told c.args.estimate _ c.accept_estimate.ensures c.in_ok-accept_estimate.was _ _ _
    c.least_after.ensures c.path_length.ensures.0 c.least_after-2.ensures
