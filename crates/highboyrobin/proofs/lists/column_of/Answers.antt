use Rattle.std.proofs.Common.{rules, arith, ◌+◌, ◌*◌, ◌≤◌, ◌≡◌, ◌∙◌, length, get_or}
use Rattle.std.proofs.Math.ListN.{get_or-eq_default}
use Rattle.std.proofs.Math.Nat.{mul-le-mul_left}
use Rattle.order_file.specs.PaddedLaws.{padded-none, padded-more, padded-whole}
use Rattle.highboyrobin.proofs.lists.column_of.Goals as goal

pub loop-i-init : goal.loop-i-init
loop-i-init g c = padded-none g.row.N 0 _

pub loop-i-preserved : goal.loop-i-preserved
loop-i-preserved g c = padded-more g.row.N _ 0 _ _ _ (omega arith) c.loop-i.invariant (search rules)

pub returns-in_default : goal.returns-in_default
returns-in_default g c =
    let s = c.args in
    let i = c.loop-i.i in
    let short : length s.list.now ≤ s.group * i + s.place = search rules in
    c.loop-i.invariant ∙ padded-whole g.row.N i 0 _ (λ j l b.
    get_or-eq_default s.list.now 0 (omega (arith, mul-le-mul_left s.group l, short)))

pub returns : goal.returns
returns g c = c.loop-i.invariant ∙ let e : c.loop-i.i ≡ g.row.N = omega arith in rw e (padded-whole g.row.N g.row.N 0 _ (λ j l b. absurd (omega arith)))
