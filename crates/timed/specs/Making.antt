-- What the inner functions of the timed planner hand on: the times at which something changes, and when a plan is made of them.
use Rattle.std.specs.Prelude.{ℕ, suc, ◌*◌, ◌≤◌, ◌<◌, ◌≡◌, true, List, ℤ, length, get_or, Option, Some, None}
use Rattle.order.specs.Order.{Order, processor_count, job_count, Numbers}
use Rattle.order.specs.Lead.{last_due}
use Rattle.order.specs.Refusals.{Accepted, bound_in_range}
use Rattle.plan.specs.Plan.{Row}
use Rattle.table.specs.Tabled.{Tabled}
use Rattle.table.specs.declared.Table.{Table}
use Rattle.wrap.specs.FrameAt.{Times, RightTimed}
use Rattle.timed.specs.Changes.{change_count, timed_frame, timed_rows_asked}
use Rattle.timed.specs.Times.{times_of, most_minute}
use Rattle.timed.specs.Written.{TimedWritten}
use Rattle.timed.specs.declared.Changes.{Changes}
use Rattle.timed.specs.declared.Times.{Times as TimesTable}

-- no time is beyond the last minute
pub record InRange (o : Order) (t : Times) : Type 0 where
  pub readies : (j : ℕ) → Numbers (job_count o) j → t.ready j ≤ most_minute
  pub openings : (i : ℕ) → Numbers (processor_count o) i → t.opens i ≤ most_minute
  pub closings : (i : ℕ) → Numbers (processor_count o) i → t.closes i ≤ most_minute

-- a table of an accepted order, a bound and times in range
pub record TimedOf (o : Order) (t : Table) (bound : ℤ) (times : TimesTable) : Type 0 where
  pub accepted : Accepted o
  pub bound-good : bound_in_range bound ≡ true
  pub in-range : InRange o (times_of times)
  pub tabled : Tabled last_due o t

abbrev pub Timeable : Table → ℤ → TimesTable → Type 0
Timeable t bound times = (o : Order) × TimedOf o t bound times

-- the marks of the order's frame, and how many stretches there are
pub record ChangesOf (o : Order) (bound : ℤ) (t : Times) (c : Changes) : Type 0 where
  pub count-is : c.count ≡ change_count o bound t
  pub few : c.count ≤ 128
  pub marks-are : (s : ℕ) → s < c.count → get_or c.marks s 0 ≡ (timed_frame o bound t).mark (suc s)
  pub marks-small : (s : ℕ) → s < c.count → get_or c.marks s 0 ≤ 11000001

-- of whatever such order the table is, these are its changes
abbrev pub ChangedBy : Table → ℤ → TimesTable → Changes → Type 0
ChangedBy t bound times c = (o : Order) → TimedOf o t bound times → ChangesOf o bound (times_of times) c

-- there is room for its rows
pub record RoomFor (o : Order) (t : Table) (bound : ℤ) (times : TimesTable) (c : Changes) (lent : ℕ) : Type 0 where
  pub timed : TimedOf o t bound times
  pub changed : ChangesOf o bound (times_of times) c
  pub room : 4 * timed_rows_asked o bound (times_of times) ≤ lent

abbrev pub Makeable : Table → ℤ → TimesTable → Changes → ℕ → Type 0
Makeable t bound times c lent = (o : Order) × RoomFor o t bound times c lent

-- what is made: a plan, or the answer that there is none in any parts
abbrev pub Made : Order → ℤ → Times → (entry exit : List ℕ) → Option ℕ → Type 0
Made o bound t entry exit (Some count) = TimedWritten o bound t entry exit count × (count ≤ 8064)
Made o bound t entry exit None = (exit ≡ entry) × ((p : ℕ) → 1 ≤ p → (rows : List Row) → ¬ RightTimed p o bound t rows)

abbrev pub MadeBy : Table → ℤ → TimesTable → Changes → (entry exit : List ℕ) → Option ℕ → Type 0
MadeBy t bound times c entry exit r =
    (o : Order) → RoomFor o t bound times c (length entry) → Made o bound (times_of times) entry exit r
