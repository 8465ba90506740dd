use Rattle.std.proofs.Common.{rules, arith, ◌∙◌, sym, int_le}
use Rattle.std.proofs.lemmas.List.Sorted.{answers_always}
use Rattle.order.proofs.StructLaws.{few-jobs}
use Rattle.sentence.proofs.Dues.{fit-told, unfit-told}
use Rattle.sentence.proofs.standing.steps_fit.Goals as goal

pub returns-then-all_due : goal.returns-then-all_due
returns-then-all_due c =
    fit-told c.args.order (omega (arith, few-jobs c.args.order c.requires)) c.args.dues.now
    (sym c.all_due.ensures ∙ c.if-all_due.true) c.is_sorted_by.result
    (c.is_sorted_by.ensures.cases (λ x y. int_le y x) (answers_always _ _ _ (λ f a r g h. search rules)))

pub returns-else-all_due : goal.returns-else-all_due
returns-else-all_due c =
    unfit-told c.args.order (omega (arith, few-jobs c.args.order c.requires)) c.args.dues.now c.all_due.result
    c.all_due.ensures c.if-all_due.false
