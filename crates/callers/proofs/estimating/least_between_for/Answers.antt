use Rattle.std.proofs.Common.{rules, ◌≡◌, Err, ap, ◌∙◌}
use Rattle.estimate.specs.Told.{leasts_told}
use Rattle.callers.proofs.Between.{Spans, between-passes, spans-refused}
use Rattle.callers.proofs.estimating.least_between_for.Goals as goal

pub returns-in_err-accept_counts_for : goal.returns-in_err-accept_counts_for
returns-in_err-accept_counts_for c =
    let k = c.accept_counts_for in
    let why = c.in_err-accept_counts_for.field-0.0 in
    let is : c.from_residual.result ≡ Err why = search rules in
    ap leasts_told is ∙ spans-refused c.args.caller c.args.estimate k.result k.ensures why c.in_err-accept_counts_for.was

pub returns : goal.returns
returns c =
    let k = c.accept_counts_for in
    let d = c.least_between in
    between-passes c.args.caller c.args.estimate k.result k.ensures (Spans c.args.estimate d.result)
    c.in_ok-accept_counts_for.was d.ensures
