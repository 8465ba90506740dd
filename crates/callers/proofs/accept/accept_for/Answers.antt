use Rattle.std.proofs.Common.{rules, ◌≡◌, Err, sym, ap, ◌∙◌}
use Rattle.order.specs.Table.{acceptance_told}
use Rattle.callers.proofs.Passing.{accept-refuses, accept-passes}
use Rattle.callers.proofs.accept.accept_for.Goals as goal

pub returns-in_err-accept_counts_for : goal.returns-in_err-accept_counts_for
returns-in_err-accept_counts_for c =
    let k = c.accept_counts_for in
    let why = c.in_err-accept_counts_for.field-0.0 in
    let was = c.in_err-accept_counts_for.was in
    let is : c.from_residual.result ≡ Err why = search rules in
    ap acceptance_told is ∙ (sym (ap acceptance_told was) ∙ accept-refuses c.args.caller c.args.order k.result k.ensures why was)

pub returns : goal.returns
returns c =
    let k = c.accept_counts_for in
    accept-passes c.args.caller c.args.order k.result k.ensures c.accept.result c.in_ok-accept_counts_for.was c.accept.ensures
