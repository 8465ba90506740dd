use Rattle.std.proofs.Common.{rules, ℕ, Bool, not, suc, refl, ◌∙◌}
use Rattle.order.proofs.FindingLaws.{first-agree}
use Rattle.order.proofs.StructLaws.{processor-count}
use Rattle.timed.specs.Times.{times_of, window_good}
use Rattle.timed.proofs.judging.first_bad_window.Goals as goal

pub returns : goal.returns
returns c =
    let t = times_of c.args.times in
    let bad : ℕ → Bool = λ i. not (window_good (t.opens i) (t.closes i)) in
    c.first_number.ensures (λ i. bad (suc i)) (λ i b l p. search rules)
    ∙ rw (processor-count c.args.order) (first-agree (λ i. bad (suc i)) bad c.args.order.processors (λ i. i) suc (λ i. refl))
