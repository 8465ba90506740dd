use Rattle.std.proofs.Common.{rules, ◌≡◌, ◌<◌, ◌≤◌, ℕ, get_or, arith}
use Rattle.std.proofs.lemmas.Iterator.{first_from_Range}
use Rattle.sums.specs.Lists.{tabulate}
use Rattle.order.specs.Class.{last_that_suffices}
use Rattle.table.specs.ClassRows.{first-short}
use Rattle.table.proofs.class.class_for.Goals as goal

found : (c : goal.After-unwrap_or) →
    (c.unwrap_or.result ≤ c.args.count)
    × (c.unwrap_or.result ≡ last_that_suffices c.args.need (tabulate c.args.count (λ i. get_or c.args.memories i 0)))
found c =
    let a = c.args in
    let first = first_from_Range _ _ _ _ (λ (i : ℕ). get_or a.memories i 0 < a.need) (λ (i : ℕ). a.need ≤ get_or a.memories i 0)
    c.find-first_short.ensures.ran (λ x q k. search rules) (λ x q k. (search rules, search rules)) in
    rw c.unwrap_or.ensures (first-short a.need a.count a.from (λ i. get_or a.memories i 0) c.requires.1 c.requires.2 _ first)

pub overflow_cast-result : goal.overflow_cast-result
overflow_cast-result c = record { fits = omega (arith, (found c).0, c.requires.0) }

pub returns : goal.returns
returns c = (found c).1
