use mathlib.Core.Path.{◌≡◌}
use Prim.Native.Nat.{◌^◌}
use Rattle.amounts.specs.State.{measure}
use Rattle.engine.specs.View.{fill_in}
use Rattle.engine.proofs.Steps.{Going}
use Rattle.engine.proofs.advance.discharge.Given as goal

abbrev pub invariant-loop-filling : goal.invariant-loop-filling
invariant-loop-filling l =
    Going l.given.n l.given.q l.given.m l.given.time.now l.given.class.now l.given.cap.now l.given.room.now l.initial.filling.w.now l.initial.filling.slack.now l.initial.filling.left.now l.initial.filling.height.now l.filling.w.now l.filling.slack.now l.filling.left.now l.filling.height.now l.j l.u
    × (l.filling.w.ghost_name ≡ l.initial.filling.w.ghost_name)
    × (l.filling.slack.ghost_name ≡ l.initial.filling.slack.ghost_name)
    × (l.filling.left.ghost_name ≡ l.initial.filling.left.ghost_name)
    × (l.filling.height.ghost_name ≡ l.initial.filling.height.ghost_name)

abbrev pub decreases-loop-filling : goal.decreases-loop-filling
decreases-loop-filling l = measure (2 ^ 32) l.given.n (fill_in l.given l.filling)
