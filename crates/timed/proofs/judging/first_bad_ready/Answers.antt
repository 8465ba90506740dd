use Rattle.std.proofs.Common.{rules, ℕ, Bool, not, suc, refl, ◌∙◌}
use Rattle.order.proofs.FindingLaws.{first-agree}
use Rattle.order.proofs.StructLaws.{job-count}
use Rattle.timed.specs.Times.{times_of, minute_in_range}
use Rattle.timed.proofs.judging.first_bad_ready.Goals as goal

pub returns : goal.returns
returns c =
    let t = times_of c.args.times in
    let bad : ℕ → Bool = λ j. not (minute_in_range (t.ready j)) in
    c.first_number.ensures (λ j. bad (suc j)) (λ j b l p. search rules)
    ∙ rw (job-count c.args.order) (first-agree (λ j. bad (suc j)) bad c.args.order.jobs (λ j. j) suc (λ j. refl))
