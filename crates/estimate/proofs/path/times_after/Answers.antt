use Rattle.std.proofs.Common.{◌≡◌, ap, ◌∙◌, arith}
use Rattle.sums.specs.Sum.{sum-none, sum_more}
use Rattle.estimate.specs.Inside.{width_at, array_after}
use Rattle.estimate.proofs.Filling.{none_after, one-after}
use Rattle.estimate.proofs.path.times_after.Goals as goal

pub loop-j-init : goal.loop-j-init
loop-j-init c = (omega (arith, sum-none (width_at c.args.lows c.args.highs)), none_after c.args.lows c.args.highs c.args.k)

pub overflow_sub-highs : goal.overflow_sub-highs
overflow_sub-highs c = c.requires.rise c.loop-j.j (omega arith)

pub overflow_add-out : goal.overflow_add-out
overflow_add-out c =
    let rise = c.requires.rise c.loop-j.j (omega arith) in
    let small = c.requires.small c.loop-j.j (omega arith) in
    omega (arith, c.min-more.ensures)

pub bounds-out-j : goal.bounds-out-j
bounds-out-j c = omega (arith, c.requires.few)

pub loop-j-preserved : goal.loop-j-preserved
loop-j-preserved c =
    let l = c.loop-j in
    let w = width_at c.args.lows c.args.highs in (
      omega (arith, l.invariant.0, c.min-more.ensures, sum_more l.j w),
      one-after c.args.lows c.args.highs c.args.k l.j _ _ l.invariant.1
          (omega (arith, l.invariant.0, c.min-more.ensures)) (omega (arith, c.requires.few)),
    )

pub returns : goal.returns
returns c =
    let l = c.loop-j in
    let e : l.j ≡ c.args.n = omega arith in
    l.invariant.1 ∙ ap (λ n. array_after c.args.lows c.args.highs n c.args.k) e
