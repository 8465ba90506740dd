use Rattle.std.proofs.Common.{rules, ◌≡◌, length, take, arith, min}
use Rattle.std.proofs.lemmas.Slice.Zip.{zip_end}
use Rattle.table.proofs.Scattered.{scatter-all}
use Rattle.table.proofs.places.by_number.Goals as goal

pub returns : goal.returns
returns c =
    let a = c.args in
    let all : length c.loop-number.yielded ≡ min (length (take a.n a.numbers)) (length a.values)
    = zip_end _ _ c.loop-number.yielded _ _ c.next.new.self _ (search rules) (search rules) c.loop-number.yielded_by c.in-None.is c.next.ensures.steps in
    let values-length : length a.values ≡ 48 = search rules in
    let numbers-length : length (take a.n a.numbers) ≡ a.n = search rules in
    scatter-all a.numbers a.n c.requires.1 c.requires.0 a.values c.loop-number.r
    (λ i b. c.loop-number.invariant.1 i (omega (arith, c.requires.0)))
