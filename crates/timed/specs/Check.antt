-- The timed check: whether lent numbers, four to a row, are the rows of a right plan that keeps the times. `is_right_timed` computes it;
-- CheckLaws says that it answers true exactly for these.
use Rattle.std.specs.Prelude.{ℕ, ◌≡◌, Bool, ◌&&◌, List, leb, ℤ}
use Rattle.order.specs.Order.{Order}
use Rattle.plan.specs.Plan.{Row}
use Rattle.plan.specs.Check.{numbers_of, rows_of, every, is_right}
use Rattle.wrap.specs.FrameAt.{Times, RightTimed}

-- the lent numbers are exactly the rows of such a plan, none left over
pub record TimedNumbers (o : Order) (bound : ℤ) (t : Times) (numbers : List ℕ) : Type 0 where
  pub rows : List Row
  pub are : numbers ≡ numbers_of rows
  pub right : RightTimed 1 o bound t rows

-- the rule of the times as a test
abbrev pub in_times : Times → Row → Bool
in_times t r =
    leb (t.ready r.job) r.from && (leb (t.opens r.processor) r.from && leb r.to (t.closes r.processor))

unfoldable pub is_right_timed : Order → ℤ → Times → List ℕ → Bool
is_right_timed o bound t numbers = is_right o bound numbers && every (in_times t) (rows_of numbers)
