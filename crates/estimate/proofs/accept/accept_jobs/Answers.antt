use Rattle.std.proofs.Common.{sym, ◌∙◌}
use Rattle.order.specs.Refusals.{judge}
use Rattle.estimate.proofs.Judging.{due_same, maker_same, need_same}
use Rattle.estimate.proofs.accept.accept_jobs.Goals as goal

pub returns-in-Some-first_unfit : goal.returns-in-Some-first_unfit
unfolding judge
returns-in-Some-first_unfit c =
    let t = c.args.estimate in
    rw (
      sym c.in_default.ensures,
      sym (c.in_default-first_bad_due.ensures ∙ due_same t),
      sym (c.in_default-first_bad_maker.ensures ∙ maker_same t),
      sym c.in_default-first_crossed.ensures,
      sym (c.in-Some-first_unfit.ensures ∙ need_same t),
    )

pub returns : goal.returns
unfolding judge
returns c =
    let t = c.args.estimate in
    rw (
      sym c.in_default.ensures,
      sym (c.in_default-first_bad_due.ensures ∙ due_same t),
      sym (c.in_default-first_bad_maker.ensures ∙ maker_same t),
      sym c.in_default-first_crossed.ensures,
      sym (c.in_default-first_unfit.ensures ∙ need_same t),
    )
