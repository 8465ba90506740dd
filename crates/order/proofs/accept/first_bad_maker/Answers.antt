use Rattle.std.proofs.Common.{rules, not, ◌∙◌}
use Rattle.order.specs.Refusals.{maker_in_range}
use Rattle.order.specs.Table.{job_at}
use Rattle.order.proofs.Ranges.{first-job}
use Rattle.order.proofs.accept.first_bad_maker.Goals as goal

pub returns : goal.returns
returns c =
    let o = c.args.order in
    c.first_number.ensures (λ j. not (maker_in_range (job_at o j).maker)) (λ j b l p. search rules)
    ∙ first-job (λ job. not (maker_in_range job.maker)) o
