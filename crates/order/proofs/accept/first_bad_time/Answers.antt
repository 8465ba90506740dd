use Rattle.std.proofs.Common.{rules, not, ◌∙◌}
use Rattle.order.specs.Refusals.{time_in_range}
use Rattle.order.specs.Table.{job_at}
use Rattle.order.proofs.Ranges.{first-job}
use Rattle.order.proofs.accept.first_bad_time.Goals as goal

pub returns : goal.returns
returns c =
    let o = c.args.order in
    c.first_number.ensures (λ j. not (time_in_range (job_at o j).time)) (λ j b l p. search rules)
    ∙ first-job (λ job. not (time_in_range job.time)) o
