-- Document 01: "A reason is one of two kinds: a job whose time exceeds its end, the first such in input order; if there is
-- none, a staircase", the overfull one that ranks before all others, by its due times.
use Rattle.std.specs.Prelude.{ℕ, ◌<◌, List, ℤ, pos, ◌≤ℤ◌, ◌<ℤ◌}
use Rattle.order.specs.Order.{Job, Order, job_count, Numbers, job_of, end_of}
use Rattle.profile.specs.Profile.{minutes_owed, minutes_on_hand, Overfull, FirstOverfull}

pub data Reason : Type 0 where
  over_end : ℕ → Reason
  stairs : List ℤ → Reason

-- a job whose time exceeds its end, and one whose time does not
abbrev pub OverEnd : ℤ → Job → Type 0
OverEnd bound job = end_of bound job <ℤ pos job.time

abbrev pub InTime : ℤ → Job → Type 0
InTime bound job = pos job.time ≤ℤ end_of bound job

-- what the reason is at a bound
pub record FirstOverEnd (o : Order) (bound : ℤ) (j : ℕ) : Type 0 where
  pub a-job : Numbers (job_count o) j
  pub over : OverEnd bound (job_of o j)
  pub first : (i : ℕ) → Numbers (job_count o) i → i < j → InTime bound (job_of o i)

pub record FirstStairs (o : Order) (bound : ℤ) (dues : List ℤ) : Type 0 where
  pub all-in-time : (j : ℕ) → Numbers (job_count o) j → InTime bound (job_of o j)
  pub stairs : FirstOverfull o bound dues

abbrev pub IsReason : Order → ℤ → Reason → Type 0
IsReason o bound (over_end j) = FirstOverEnd o bound j
IsReason o bound (stairs dues) = FirstStairs o bound dues

-- "minutes owed and minutes on hand are, for a job, its time and its end, and for a staircase the two sums just named"
abbrev pub owed_of : Order → ℤ → Reason → ℕ
owed_of o bound (over_end j) = (job_of o j).time
owed_of o bound (stairs dues) = minutes_owed o bound dues

abbrev pub on_hand_of : Order → ℤ → Reason → ℤ
on_hand_of o bound (over_end j) = end_of bound (job_of o j)
on_hand_of o bound (stairs dues) = minutes_on_hand o bound dues

-- Document 02, §1: "Reasons here are every job over its end or, with none such, every overfull staircase." Document 01's reason is
-- the first of them.
abbrev pub Stands : Order → ℤ → Reason → Type 0
Stands o bound (over_end j) = Numbers (job_count o) j × OverEnd bound (job_of o j)
Stands o bound (stairs dues) = ((j : ℕ) → Numbers (job_count o) j → InTime bound (job_of o j)) × Overfull o bound dues
