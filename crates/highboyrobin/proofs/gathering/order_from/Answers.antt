use Rattle.std.proofs.Common.{rules, ◌/◌, get_or, length, refl, arith}
use Rattle.sums.specs.FromFn.{from_fn-list}
use Rattle.highboyrobin.proofs.Gathered.{gathered}
use Rattle.highboyrobin.proofs.gathering.order_from.Goals as goal

pub returns : goal.returns
returns c =
    let s = c.args in
    gathered s.memories.now s.jobs.now _ (length s.memories.now) (length s.jobs.now / 4) c.requires.0
    (omega (arith, c.requires.1)) refl refl refl refl c.column_of-2.result
    (from_fn-list _ _ (λ i. get_or s.memories.now i 0) _ (λ i y q l k. search rules) c.from_fn.ensures.items)
    c.column_of.ensures c.column_of-2.ensures
    c.all_signed.ensures.1 c.column_of-3.ensures c.column_of-4.ensures
