use borrow.Author.Rules.{rules}
use native.Mathlib.Omega.{arith}
use Rattle.engine.proofs.Laws.{filled-front, copied-front}
use Rattle.engine.proofs.Steps.{begin, solved}
use Rattle.engine.proofs.filling.solve.Goals as goal

pub fill-requires-3 : goal.fill-requires-3
fill-requires-3 c =
    begin _ _ _ _ _ _ _ _ _ _ _ _ _ _ _ _ c.requires.sizes c.requires.given (filled-front _ _ c.fill.new.self _ (search rules)) c.idle_row.ensures
    c.copy.ensures.each
    (copied-front _ c.args.time.now c.copy_from_slice.new.self _ (search rules) (search rules))
    (filled-front _ _ c.fill-2.new.self _ (search rules)) (search rules) (search rules) (search rules) c.idle_row.auto.w (search rules)
    (λ k. omega (arith, c.type_inv.time k)) (λ k. omega (arith, c.type_inv.cap k)) (λ k. omega (arith, c.type_inv.room k))

pub returns-clause-run_of : goal.returns-clause-run_of
returns-clause-run_of c =
    let run =
    solved _ _ _ _ _ _ _ _ _ _ _ _ _ _ _ _ c.requires.sizes c.requires.given (filled-front _ _ c.fill.new.self _ (search rules)) c.idle_row.ensures
    c.copy.ensures.each
    (copied-front _ c.args.time.now c.copy_from_slice.new.self _ (search rules) (search rules))
    (filled-front _ _ c.fill-2.new.self _ (search rules)) (search rules) (search rules) _ _ c.fill-3.ensures.fill_run in
    search (rules, run)
