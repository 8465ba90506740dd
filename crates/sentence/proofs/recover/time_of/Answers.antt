use Rattle.std.proofs.Common.{ℕ, arith, sym, ap, ◌∙◌, get_or}
use Rattle.order.proofs.StructLaws.{few-jobs}
use Rattle.sentence.proofs.Recovers.{time-at, time-beyond}
use Rattle.sentence.proofs.recover.time_of.Goals as goal

pub bounds-order-i : goal.bounds-order-i
bounds-order-i c = omega (arith, few-jobs c.args.order c.requires)

pub returns-in-Some : goal.returns-in-Some
returns-in-Some c =
    let h = c.in-Some.ensures in
    ap (λ (i : ℕ). get_or c.args.order.times i 0) h.1
    ∙ sym (time-at c.args.order c.args.job (λ e. omega (arith, h.0, e)) (omega (arith, h.0, h.1, c.if-i-order.true)))

pub returns-in_default : goal.returns-in_default
returns-in_default c =
    let h = c.in-Some.ensures in
    sym (time-beyond c.args.order c.args.job (omega (arith, h.0, h.1, c.if-i-order.false)))
