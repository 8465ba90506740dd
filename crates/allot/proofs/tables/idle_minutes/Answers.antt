use Rattle.std.proofs.Common.{arith}
use Rattle.allot.proofs.Shares.{idle-none, idle-step, idle-next}
use Rattle.allot.proofs.tables.idle_minutes.Goals as goal

pub loop-s-init : goal.loop-s-init
loop-s-init c = idle-none _

pub overflow_add-total-in-loop-s : goal.overflow_add-total-in-loop-s
overflow_add-total-in-loop-s c =
    let l = c.loop-s in
    let a = c.args in
    omega (arith, l.invariant, idle-step a.room.now a.m l.s a.q c.loop-s-test.true, c.requires.4)

pub loop-s-preserved : goal.loop-s-preserved
loop-s-preserved c =
    let l = c.loop-s in idle-next c.args.room.now c.args.m l.s l.total l.invariant
