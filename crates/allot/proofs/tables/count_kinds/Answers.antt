use Rattle.std.proofs.Common.{refl, take, arith, rules}
use Rattle.allot.proofs.Shares.{kind_at, zeros-at, counting-none, counting_more}
use Rattle.allot.proofs.tables.count_kinds.Goals as goal

pub loop-i-init : goal.loop-i-init
loop-i-init c = counting-none _ _ _ (search rules) (λ i. zeros-at 16 i)

pub loop-i-preserved : goal.loop-i-preserved
loop-i-preserved c =
    let l = c.loop-i in
    let a = c.args in
    let g = kind_at 16 a.kinds (take a.n a.list) l.i-index c.requires.1 c.loop-i-test.true in
    counting_more _ _ _ l.i-index _ _ c.loop-i-test.true refl g.0.0 (omega (arith, g)) (omega (arith, g)) l.invariant
