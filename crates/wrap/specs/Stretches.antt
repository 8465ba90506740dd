-- Document 01: "The planner cuts time at the distinct ends into stretches, the first from minute 0." Amounts say how many
-- minutes of a job go into a stretch; these are the amounts from which a right plan can be laid out.
use Rattle.std.specs.Prelude.{ℕ, suc, ◌-◌, ◌*◌, ◌≤◌, ◌<◌, ◌≡◌, List, map, reverse, leb, ℤ, length}
use Rattle.sums.specs.Sum.{sum}
use Rattle.sums.specs.Lists.{only, nth}
use Rattle.order.specs.Order.{Order, job_count, Numbers, job_of, end_at}
use Rattle.order.specs.Sorted.{due_times}
use Rattle.order.specs.Class.{class_of, processors_to}
use Rattle.order.specs.Deadline.{cut, deadline_of}

-- how many stretches there are: one for each distinct due time
abbrev pub stretch_count : Order → ℕ
stretch_count o = length (due_times o)

-- the distinct ends upwards, and the marks between the stretches: stretch s, counted from 0, lies from mark s to mark s + 1
unfoldable pub ends : Order → ℤ → List ℕ
ends o bound = map (λ (due : ℤ). cut (end_at bound due)) (reverse (due_times o))

unfoldable pub mark : Order → ℤ → ℕ → ℕ
mark o bound s = nth (ends o bound) s 0

abbrev pub stretch_length : Order → ℤ → ℕ → ℕ
stretch_length o bound s = mark o bound (suc s) - mark o bound s

-- what the jobs of the classes up to k have in stretch s; `a j s` are the minutes of job j, numbered from 1
unfoldable pub held_up_to : Order → (ℕ → ℕ → ℕ) → ℕ → ℕ → ℕ
held_up_to o a k s = sum (job_count o) (λ j. only (leb (class_of o (job_of o (suc j))) k) (a (suc j) s))

-- amounts that are feasible for an order at a bound
pub record FeasibleFor (o : Order) (bound : ℤ) (a : ℕ → ℕ → ℕ) : Type 0 where
  -- no job has more of a stretch than its length, and none of one that ends after its deadline
  pub within : (j s : ℕ) → Numbers (job_count o) j → s < stretch_count o → a j s ≤ stretch_length o bound s
  pub by-deadline : (j s : ℕ) → Numbers (job_count o) j → s < stretch_count o →
      deadline_of bound (job_of o j) < mark o bound (suc s) → a j s ≡ 0
  -- each job has its whole time
  pub whole : (j : ℕ) → Numbers (job_count o) j → sum (stretch_count o) (a j) ≡ (job_of o j).time
  -- the jobs of the classes up to k have room on the processors of these classes
  pub fits : (s k : ℕ) → s < stretch_count o → held_up_to o a k s ≤ processors_to o k * stretch_length o bound s
