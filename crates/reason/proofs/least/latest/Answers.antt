use Rattle.std.proofs.Common.{rules, arith, ℕ, ◌+◌, ◌≤◌, get_or, ◌∙◌}
use Rattle.std.proofs.iter.runs.Sources.{ranges}
use Rattle.sums.specs.Most.{most, most-le}
use Rattle.reason.proofs.StdWords.{Largest, largest-most}
use Rattle.reason.proofs.least.latest.Goals as goal

pub returns : goal.returns
returns c =
    let o = c.args.o in
    let f : ℕ → ℕ = λ j. get_or o.times j 0 + get_or o.leads j 0 in
    let top : Largest o.n f c.max.result = search (rules, ranges) in
    let e = c.unwrap_or.ensures ∙ largest-most o.n f c.max.result top in
    let small : most o.n f ≤ 2100000 = most-le o.n 2100000 f (λ j l. omega (arith, c.requires.times j l, c.requires.leads j l)) in
    (e, omega (arith, e, small))
