use Rattle.std.proofs.Common.{◌≡◌, subst, arith}
use Rattle.needs.specs.Inside.{SmallestOf}
use Rattle.needs.specs.SmallestLaws.{twice_with, with_none, with-more, with_all, same-of, either-of}
use Rattle.needs.proofs.overlaps.with_line.Goals as goal

pub loop-k-init : goal.loop-k-init
loop-k-init c = same-of _ _ _ (with_none c.args.table.now c.args.i) c.requires.1

pub loop-k-preserved : goal.loop-k-preserved
loop-k-preserved c =
    let l = c.loop-k in
    same-of _ _ _ (with-more c.args.table.now c.args.i l.k)
    (rw c.smaller-x.ensures (either-of _ _ _ _ l.invariant c.first_both.ensures))

pub returns : goal.returns
returns c =
    let l = c.loop-k in
    let e : l.k ≡ c.args.i = omega arith in
    same-of _ _ _ (with_all c.args.table.now c.args.i)
    (subst (λ k. SmallestOf (twice_with c.args.table.now c.args.i k) l.x) e l.invariant)
