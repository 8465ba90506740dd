-- Every place below the count is tested, and so every row.
use Rattle.std.proofs.Common.{tests, rules, ◌/◌, ◌∙◌, length, refl, arith}
use Rattle.std.proofs.lemmas.Iterator.{YieldsList-from_range}
use Rattle.std.proofs.lemmas.Iterator.Search.{all_from_yields_List}
use Rattle.plan.specs.Check.{row_at}
use Rattle.timed.specs.Check.{in_times}
use Rattle.timed.specs.Times.{times_of}
use Rattle.timed.proofs.Walks.{places-every}
use Rattle.timed.proofs.checking.rows_in_times.Goals as goal

pub returns : goal.returns
returns c =
    let rows = c.args.rows.now in
    let test = in_times (times_of c.args.times) in
    all_from_yields_List (λ k. test (row_at rows k)) _ _ _ c.all.ensures.ran
    (YieldsList-from_range 0 (length rows / 4) (length rows / 4) refl (omega arith)) (λ k b q h. search (rules, tests))
    ∙ places-every test rows
