use mathlib.Core.Path.{◌≡◌}
use Prim.Native.Nat.{ℕ, ◌^◌}
use Rattle.amounts.specs.State.{Fill, measure}
use Rattle.engine.specs.View.{ReadyFor, flow_in, fill_in}
use Rattle.engine.specs.Run.{FillTurn, Turns}
use Rattle.engine.proofs.filling.fill.Given as goal

abbrev pub invariant-loop-j : goal.invariant-loop-j
invariant-loop-j l =
    ReadyFor l.given l.filling × (l.filling.w.ghost_name ≡ l.initial.filling.w.ghost_name)
    × (l.filling.slack.ghost_name ≡ l.initial.filling.slack.ghost_name)
    × (l.filling.left.ghost_name ≡ l.initial.filling.left.ghost_name)
    × (l.filling.height.ghost_name ≡ l.initial.filling.height.ghost_name)
    × ((k : ℕ) × Turns Fill (FillTurn (flow_in l.given) l.given.m) k
    (fill_in l.given l.initial.filling) (fill_in l.given l.filling))

abbrev pub decreases-loop-j : goal.decreases-loop-j
decreases-loop-j l = measure (2 ^ 32) l.given.n (fill_in l.given l.filling)
