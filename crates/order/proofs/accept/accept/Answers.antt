use Rattle.std.proofs.Common.{rules, ◌≡◌, Err, ap, sym, ◌∙◌}
use Rattle.order.specs.Table.{acceptance_told}
use Rattle.order.proofs.Judging.{counts-refuse, counts-few, jobs-decide}
use Rattle.order.proofs.accept.accept.Goals as goal

pub returns-in_err-accept_counts : goal.returns-in_err-accept_counts
returns-in_err-accept_counts c =
    let r = c.in_err-accept_counts.field-0.0 in
    let is : c.from_residual.result ≡ Err r = search rules in
    ap acceptance_told is ∙ (sym (ap acceptance_told c.in_err-accept_counts.was)
    ∙ counts-refuse c.args.order _ c.accept_counts.ensures r c.in_err-accept_counts.was)

pub accept_jobs-requires : goal.accept_jobs-requires
accept_jobs-requires c = counts-few c.args.order _ c.accept_counts.ensures c.in_ok-accept_counts.was

pub returns : goal.returns
returns c =
    c.accept_jobs.ensures ∙ sym (jobs-decide c.args.order _ c.accept_counts.ensures c.in_ok-accept_counts.was)
