-- A frame: marks of time, between which the stretches lie; for each job of an order the interval in which it may run; for each
-- processor the window in which it is open. Document 01's planner is the frame whose jobs are ready at minute 0, whose marks
-- are 0 and the ends, and whose processors are open to the last of them; document 02, §5 gives ready minutes and windows, §13
-- other ends.
use Rattle.std.specs.Prelude.{ℕ, zero, suc, ◌-◌, ◌*◌, ◌≤◌, ◌<◌, ◌≡◌, Bool, ◌&&◌, List, [], ◌++◌, ◌⊎◌, leb}
use Rattle.sums.specs.Sum.{sum}
use Rattle.sums.specs.Lists.{All, Pairwise, total, only, keep}
use Rattle.order.specs.Order.{Order, processor_count, job_count, Numbers, job_of, memory_of}
use Rattle.order.specs.Sorted.{processor_order, job_order}
use Rattle.order.specs.Class.{class_for}
use Rattle.plan.specs.Plan.{Row, WellFormed, Apart, lengths_of}
use Rattle.wrap.specs.Stretches.{held_up_to}
use Rattle.wrap.specs.Layout.{fill, shares_of}
use Rattle.wrap.specs.RowOrder.{StandsBefore}

pub record Frame : Type 0 where
  -- how many stretches there are; stretch s, counted from 0, lies from mark s to mark s + 1
  pub stretches : ℕ
  pub mark : ℕ → ℕ
  -- the job with number j may run from minute `ready j` to minute `until j`
  pub ready : ℕ → ℕ
  pub until : ℕ → ℕ
  -- the processor with number i is open from minute `opens i` to minute `closes i`
  pub opens : ℕ → ℕ
  pub closes : ℕ → ℕ

-- Right rows -------------------------------------------------------------------------------------------------------------

-- from and to of a row lie between two minutes, in parts, p to the minute
abbrev pub Between : (p from to : ℕ) → Row → Type 0
Between p from to r = (p * from ≤ r.from) × (r.to ≤ p * to)

-- document 01's four rules, with the job's interval for its end, and the rule of the windows, in parts, p to the minute
pub record RightIn (p : ℕ) (o : Order) (f : Frame) (rows : List Row) : Type 0 where
  pub well-formed : All (WellFormed o) rows
  pub in-interval : All (λ (r : Row). Between p (f.ready r.job) (f.until r.job) r) rows
  pub in_window : All (λ (r : Row). Between p (f.opens r.processor) (f.closes r.processor) r) rows
  pub jobs-apart : Pairwise (λ (r s : Row). r.job ≡ s.job → Apart r s) rows
  pub processors-apart : Pairwise (λ (r s : Row). r.processor ≡ s.processor → Apart r s) rows
  pub whole : (j : ℕ) → Numbers (job_count o) j → lengths_of j rows ≡ p * (job_of o j).time

-- Feasible amounts -------------------------------------------------------------------------------------------------------

abbrev pub length_in : Frame → ℕ → ℕ
length_in f s = f.mark (suc s) - f.mark s

-- stretch s lies between two minutes
unfoldable pub lies : Frame → (from to : ℕ) → ℕ → Bool
lies f from to s = leb from (f.mark s) && leb (f.mark (suc s)) to

-- how much of stretch s job number j may have: all of it where it lies in the job's interval, else none
abbrev pub cap_in : Frame → ℕ → ℕ → ℕ
cap_in f j s = only (lies f (f.ready j) (f.until j) s) (length_in f s)

-- processor number i is open in stretch s, from its beginning to its end
abbrev pub open_in : Frame → ℕ → ℕ → Bool
open_in f s i = lies f (f.opens i) (f.closes i) s

-- the processors that are open in stretch s, by falling memory, ties in input order
unfoldable pub open_order : Order → Frame → ℕ → List ℕ
open_order o f s = keep (open_in f s) (processor_order o)

-- how many of them are of the classes up to k
unfoldable pub open_to : Order → Frame → ℕ → ℕ → ℕ
open_to o f s k = total (open_order o f s) (λ i. only (leb (class_for o (memory_of o i)) k) 1)

-- amounts that are feasible; `a j s` are the minutes of job j, numbered from 1, in stretch s
pub record FeasibleIn (o : Order) (f : Frame) (a : ℕ → ℕ → ℕ) : Type 0 where
  pub within : (j s : ℕ) → Numbers (job_count o) j → s < f.stretches → a j s ≤ cap_in f j s
  pub whole : (j : ℕ) → Numbers (job_count o) j → sum f.stretches (a j) ≡ (job_of o j).time
  -- the jobs of the classes up to k have room on the open processors of these classes
  pub fits : (s k : ℕ) → s < f.stretches → held_up_to o a k s ≤ open_to o f s k * length_in f s

-- The layout -------------------------------------------------------------------------------------------------------------

-- the rows of one stretch: the wrap on the processors that are open in it
unfoldable pub stretch_rows_in : Order → Frame → (ℕ → ℕ → ℕ) → ℕ → List Row
stretch_rows_in o f a s =
    fill (f.mark s) (f.mark (suc s)) (open_order o f s) (f.mark s) (shares_of a s (job_order o))

-- the rows of the first n stretches, one after the other
unfoldable pub in_turn : (ℕ → List Row) → ℕ → List Row
in_turn rows zero = []
in_turn rows (suc n) = in_turn rows n ++ rows n

unfoldable pub layout_in : Order → Frame → (ℕ → ℕ → ℕ) → List Row
layout_in o f a = in_turn (stretch_rows_in o f a) f.stretches

-- the row lies in stretch s
pub record InStretchOf (f : Frame) (s : ℕ) (r : Row) : Type 0 where
  pub a-stretch : s < f.stretches
  pub begins : f.mark s ≤ r.from
  pub ends : r.to ≤ f.mark (suc s)

-- row r stands before row s: in an earlier stretch, or in the same one by processor order, then by `from`
pub record RowBeforeIn (o : Order) (f : Frame) (r s : Row) : Type 0 where
  pub stretch : ℕ
  pub other : ℕ
  pub lies_in : InStretchOf f stretch r
  pub other-lies : InStretchOf f other s
  pub before : (stretch < other) ⊎ ((stretch ≡ other) × StandsBefore o r s)

-- the marks never fall: all that laying out asks of a frame
abbrev pub Rising : Frame → Type 0
Rising f = (s : ℕ) → s < f.stretches → f.mark s ≤ f.mark (suc s)

-- x is a mark
abbrev pub Marked : Frame → ℕ → Type 0
Marked f x = (i : ℕ) × (i ≤ f.stretches) × (f.mark i ≡ x)

-- the times at which something changes are marks: so each stretch lies in an interval or window, or outside it
pub record Framed (o : Order) (f : Frame) : Type 0 where
  pub rising : Rising f
  pub ready_marked : (j : ℕ) → Numbers (job_count o) j → Marked f (f.ready j)
  pub until-marked : (j : ℕ) → Numbers (job_count o) j → Marked f (f.until j)
  pub opens-marked : (i : ℕ) → Numbers (processor_count o) i → Marked f (f.opens i)
  pub closes-marked : (i : ℕ) → Numbers (processor_count o) i → Marked f (f.closes i)
