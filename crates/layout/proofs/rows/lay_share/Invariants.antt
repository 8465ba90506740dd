-- The loop's invariant: what is left of the share goes on from the place that the loop has come to.
use Rattle.std.proofs.Common.{◌+◌, ◌-◌, length}
use Rattle.layout.specs.Sheet.{standing}
use Rattle.layout.proofs.Sharing.{Going}
use Rattle.layout.proofs.rows.lay_share.Given as goal

abbrev pub invariant-loop-next : goal.invariant-loop-next
invariant-loop-next l =
    Going l.stretch.start l.stretch.end l.processors l.job l.minutes l.initial.next (standing l.initial.written l.initial.rows) l.next
    l.left (standing l.written l.rows)

abbrev pub decreases-loop-next : goal.decreases-loop-next
decreases-loop-next l = l.left + (length l.processors - l.next.processor)
