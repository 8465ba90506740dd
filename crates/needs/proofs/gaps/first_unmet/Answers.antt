use Rattle.std.proofs.Common.{arith}
use Rattle.needs.specs.SmallestLaws.{facts, climb}
use Rattle.needs.proofs.gaps.first_unmet.Goals as goal

pub overflow_add-x-in-loop-x : goal.overflow_add-x-in-loop-x
overflow_add-x-in-loop-x c =
    let m = facts c.args.table.now c.args.n c.loop-x.x _ c.loop-x.invariant c.in-Some.ensures in
    omega (arith, m.to-most)

pub loop-x-smaller : goal.loop-x-smaller
loop-x-smaller c =
    let m = facts c.args.table.now c.args.n c.loop-x.x _ c.loop-x.invariant c.in-Some.ensures in
    omega (arith, m.not-over)

pub loop-x-preserved : goal.loop-x-preserved
loop-x-preserved c = climb c.args.table.now c.args.n c.loop-x.x _ c.loop-x.invariant c.in-Some.ensures
