use mathlib.Core.Path.{sym, ap}
use lib.IntN.{pos}
use Rattle.order.specs.Machine.{machine-back}
use Rattle.order.proofs.StructLaws.{job-count, processor-count, few-jobs, few-processors}
use mathlib.Core.Path.{◌∙◌}
use lib.ListN.{length-set}
use Rattle.highboyrobin.proofs.Stored.{three-stored}
use native.Mathlib.Omega.{arith}
use Rattle.highboyrobin.proofs.answers.put_sizes.Goals as goal

pub count_of-requires : goal.count_of-requires
count_of-requires c = omega (arith, few-processors c.args.order c.requires.0, few-jobs c.args.order c.requires.0)

pub count_of-requires-2 : goal.count_of-requires-2
count_of-requires-2 c =
    omega (arith, few-processors c.args.order c.requires.0, few-jobs c.args.order c.requires.0)

pub bounds-answer-1 : goal.bounds-answer-1
bounds-answer-1 c = rw (length-set _ 0 _) (omega (arith, c.requires))

pub returns : goal.returns
returns c =
    let o = c.args.order in
    three-stored c.args.answer.now _ _ _ _ _ _
    (machine-back _ c.count_of.type_inv ∙ c.count_of.ensures
    ∙ ap pos (sym (processor-count o)))
    (machine-back _ c.count_of-2.type_inv ∙ c.count_of-2.ensures
    ∙ ap pos (sym (job-count o)))
    (machine-back _ c.count_of-3.type_inv ∙ c.count_of-3.ensures ∙ ap pos c.rows_asked.ensures.0)
    c.requires.1
