use Rattle.std.proofs.Common.{arith}
use Rattle.needs.proofs.Ended.{next-filled}
use Rattle.needs.proofs.filling.put_needs.Goals as goal

pub loop-k-preserved : goal.loop-k-preserved
loop-k-preserved c =
    let l = c.loop-k in
    next-filled _ c.args.lengths.now c.args.needs.now l.k _ _ l.invariant (omega arith) c.requires.1 c.need_for.ensures
