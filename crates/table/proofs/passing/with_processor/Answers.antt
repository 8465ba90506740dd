use Rattle.std.proofs.Common.{ℕ, ◌+◌, arith, sym, subst}
use Rattle.table.specs.OneMoreLaws.{one_more, class-more}
use Rattle.table.specs.Passed.{OneMore}
use Rattle.table.proofs.passing.with_processor.Goals as goal

pub returns-then-last-memory-clause-one_more : goal.returns-then-last-memory-clause-one_more
returns-then-last-memory-clause-one_more c =
    let last = c.args.last in
    subst (λ (m : ℕ). OneMore last c.args.memory (record { number = last.number; memory = m; procs = last.procs + 1 }))
    (sym c.if-last-memory.true) (one_more last c.args.memory (c.if-last-gt0.true, c.if-last-memory.true))

pub returns-clause-one_more : goal.returns-clause-one_more
returns-clause-one_more c = class-more c.args.last c.args.memory _ (λ h. omega (arith, h.0, h.1, c.else-last-gt0.either)) (omega arith)
