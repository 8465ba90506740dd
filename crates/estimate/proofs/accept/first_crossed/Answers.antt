use Rattle.std.proofs.Common.{rules, Bool, refl, ◌∙◌}
use Rattle.std.specs.Prelude.{ltb}
use Rattle.order.proofs.FindingLaws.{first-agree}
use Rattle.estimate.specs.Estimate.{EstimatedJob}
use Rattle.estimate.specs.Told.{job_between}
use Rattle.estimate.proofs.accept.first_crossed.Goals as goal

pub returns : goal.returns
returns c =
    let t = c.args.estimate in
    let bad : EstimatedJob → Bool = λ job. ltb job.high job.low in
    c.first_number.ensures (λ j. bad (job_between t j)) (λ j b l p. search rules)
    ∙ first-agree (λ j. bad (job_between t j)) bad t.order.jobs (λ j. j) (job_between t) (λ j. refl)
