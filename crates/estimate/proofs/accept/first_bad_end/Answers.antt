use Rattle.std.proofs.Common.{rules, Bool, not, ◌&&◌, refl, ◌∙◌}
use Rattle.order.specs.Refusals.{time_in_range}
use Rattle.order.proofs.FindingLaws.{first-agree}
use Rattle.estimate.specs.Estimate.{EstimatedJob}
use Rattle.estimate.specs.Told.{job_between}
use Rattle.estimate.proofs.accept.first_bad_end.Goals as goal

pub returns : goal.returns
returns c =
    let t = c.args.estimate in
    let bad : EstimatedJob → Bool = λ job. not (time_in_range job.low && time_in_range job.high) in
    c.first_number.ensures (λ j. bad (job_between t j)) (λ j b l p. search rules)
    ∙ first-agree (λ j. bad (job_between t j)) bad t.order.jobs (λ j. j) (job_between t) (λ j. refl)
