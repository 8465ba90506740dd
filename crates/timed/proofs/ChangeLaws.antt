-- The frame between the times at which something changes: its marks never fall, and each of those times is a mark. So either feasible
-- amounts have a layout that is right and keeps the times, or no list of rows does, in any parts of a minute.
use Prim.Native.Nat.{ℕ, ◌≤◌}
use Rattle.std.specs.Prelude.{◌⊎◌, ℤ}
use mathlib.Core.List.{List}
use Rattle.order.specs.Order.{Order}
use Rattle.plan.specs.Plan.{Row}
use Rattle.wrap.specs.Frame.{FeasibleIn, layout_in, Rising, Framed}
use Rattle.wrap.specs.FrameAt.{Times, RightTimed}
use Rattle.wrap.specs.FrameFlow.{Classed}
use Rattle.timed.specs.Changes.{changes, change_times, timed_frame}
use Rattle.timed.specs.Settled.{HasTimes, between-rising, between-framed, between-decided, named-has}

module _ (o : Order) (bound : ℤ) (t : Times) where
  changes-have : HasTimes o bound t (changes o bound t)
  unfolding changes
  changes-have = named-has o bound t

  pub timed-rising : Rising (timed_frame o bound t)
  unfolding change_times
  timed-rising = between-rising o bound t (changes o bound t)

  pub timed-framed : Framed o (timed_frame o bound t)
  unfolding change_times
  timed-framed = between-framed o bound t (changes o bound t) changes-have

  -- amounts with a right layout, or no right rows at all
  pub timed-decided : Classed o →
      ((a : ℕ → ℕ → ℕ) × FeasibleIn o (timed_frame o bound t) a
      × RightTimed 1 o bound t (layout_in o (timed_frame o bound t) a))
      ⊎ ((p : ℕ) → 1 ≤ p → (rows : List Row) → ¬ RightTimed p o bound t rows)
  unfolding change_times
  timed-decided = between-decided o bound t (changes o bound t) changes-have
