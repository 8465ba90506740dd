use Rattle.std.proofs.Common.{◌≡◌, sym, ap, ◌∙◌, arith}
use Rattle.sums.specs.Sum.{sum, sum-none, sum_more}
use Rattle.estimate.specs.Inside.{width_at}
use Rattle.estimate.proofs.path.minutes_between.Goals as goal

pub loop-j-init : goal.loop-j-init
loop-j-init c = (sym (sum-none _), omega arith)

pub overflow_sub-minutes : goal.overflow_sub-minutes
overflow_sub-minutes c = c.requires.rise c.loop-j.j (omega arith)

pub overflow_add-minutes : goal.overflow_add-minutes
overflow_add-minutes c = omega (arith, c.requires.few, c.requires.small c.loop-j.j (omega arith))

pub loop-j-preserved : goal.loop-j-preserved
loop-j-preserved c =
    let l = c.loop-j in
    let small = c.requires.small l.j (omega arith) in
    (omega (arith, l.invariant.0, sum_more l.j (width_at c.args.lows c.args.highs)), omega arith)

pub returns : goal.returns
returns c =
    let l = c.loop-j in
    let e : l.j ≡ c.args.n = omega arith in
    l.invariant.0 ∙ ap (λ k. sum k (width_at c.args.lows c.args.highs)) e
