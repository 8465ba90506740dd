-- What is asked of a table: what a class weighs at a due time, the first overfull profile at a reach, the least reach, what is told.
use Rattle.std.specs.Prelude.{None, Some}
use Rattle.std.specs.Prelude.{ℕ, suc, ◌+◌, ◌-◌, ◌*◌, ◌<◌, ◌≤◌, ◌≡◌, max, pred, Bool, true, cond, Option, MatchOption, List, [], map, ltb, eqb, ℤ, pos, length, get_or}
use Rattle.sums.specs.Sum.{sum}
use Rattle.sums.specs.Lists.{only, tabulate}
use Rattle.order.specs.Refusals.{Finding, clear, holds, first}
use Rattle.profile.specs.Search.{nothing, found}
use Rattle.order.specs.Lead.{lead}
use Rattle.sums.specs.Most.{most, ceiling}
use Rattle.table.specs.Held.{Reading, beside, by_number, by_place}
use Rattle.table.specs.declared.Table.{Table}
use Rattle.stairs.specs.Places.{FoundPlaces, first_overfull_at, best}
use Rattle.order.specs.Lead.{due_at, last_due}
use Rattle.sums.specs.Most.{most, ceiling}
use Rattle.reason.specs.Told.{sixteen}
use Rattle.reason.specs.declared.Reason.TheVariants.{Job, Stairs}
use Rattle.reason.specs.declared.Why.{Why}

-- what a job owes at the lead g
abbrev pub owed_by : ℕ → ℕ → ℕ → ℕ
owed_by time lead g = time - (g - lead)

-- what the job at place j adds to class k at the due time d
abbrev pub owes : Table → ℕ → ℕ → ℕ → ℕ
owes t k d j =
    only (eqb (get_or t.classes j 0) k) (owed_by (get_or t.times j 0) (get_or t.leads j 0) (get_or t.grid d 0))

-- the minutes owed by the jobs of class k at the due time d
unfoldable pub minutes_at : Table → ℕ → ℕ → ℕ
minutes_at t k d = sum t.n (owes t k d)

-- the same by the time of a lead g
unfoldable pub owes_by : Table → ℕ → ℕ → ℕ
owes_by t k g =
    sum t.n (λ j. only (eqb (get_or t.classes j 0) k) (owed_by (get_or t.times j 0) (get_or t.leads j 0) g))

-- what the i-th class from 0 on weighs at the due time d: the minutes owed by its jobs, and its processors times the lead
unfoldable pub weight : Table → ℕ → ℕ → ℕ
weight t i d = minutes_at t (suc i) d + get_or t.procs i 0 * get_or t.grid d 0

-- the processors of the first k classes
unfoldable pub procs_to : Table → ℕ → ℕ
procs_to t k = sum k (λ i. get_or t.procs i 0)

-- the first overfull profile at a reach
unfoldable pub first_of : Table → ℕ → FoundPlaces
first_of t reach = first_overfull_at (weight t) (λ k. procs_to t k * reach) t.s t.q

-- the largest time and lead together: below it some job has too little time
abbrev pub latest_of : Table → ℕ
latest_of t = most t.n (λ j. get_or t.times j 0 + get_or t.leads j 0)

-- the least reach at which no profile of k classes is overfull
abbrev pub least_for : Table → ℕ → ℕ
least_for t k = ceiling (best (weight t) k t.q) (procs_to t k)

-- the least reach at which every job has its time and no profile is overfull
unfoldable pub least_reach_of : Table → ℕ
least_reach_of t = max (latest_of t) (most t.s (λ k. least_for t (suc k)))

-- a job whose time exceeds its end, in input order; and at a place
abbrev pub late : Reading → ℕ → ℕ → Bool
late r reach j = ltb reach (r.time j + r.lead j)

abbrev pub late_at : Table → ℕ → ℕ → Bool
late_at t reach k = late (by_place t) reach k

-- the place of the late job with the smallest number, or none where no job is late
abbrev pub FirstLate : Table → ℕ → Option ℕ → Type 0
FirstLate t reach place = MatchOption place ((j : ℕ) → j < t.n → ¬ (late_at t reach j ≡ true))
    (λ k. (k < t.n) × (late_at t reach k ≡ true)
    × ((j : ℕ) → j < t.n → late_at t reach j ≡ true → beside t.by_need k ≤ beside t.by_need j))

-- the i-th of k due times, and 0 beyond
abbrev pub due_or : List ℕ → List ℕ → ℕ → ℕ → ℤ
due_or grid at k i = cond (ltb i k) (due_at last_due (get_or grid (get_or at i 0) 0)) (pos 0)

-- what is told of a profile found, or of none
abbrev pub told_at : Table → FoundPlaces → Why
told_at t nothing = record { reason = None; dues = sixteen [] }
told_at t (found ds) = record { reason = Some (Stairs (length ds)); dues = sixteen (map (λ d. due_at last_due (get_or t.grid d 0)) ds) }

abbrev pub told_by : Reading → Table → Finding → FoundPlaces → Why
told_by r t (holds j) f = record { reason = Some (Job j (r.time (pred j))); dues = sixteen [] }
told_by r t clear f = told_at t f

-- a job whose time exceeds its end, the first such in input order; if there is none, the first overfull profile
unfoldable pub told_from : Reading → Table → ℕ → Why
told_from r t reach = told_by r t (first (late r reach) (tabulate t.n (λ j. j))) (first_of t reach)

-- of §8's table; and of the input-order table
abbrev pub told_of : Table → ℕ → Why
told_of t reach = told_from (by_number t) t reach

abbrev pub told_in_order : Table → ℕ → Why
told_in_order t reach = told_from (by_place t) t reach
