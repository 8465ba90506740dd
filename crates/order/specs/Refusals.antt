-- Document 01's refusal table, with document 02's rows. Each entry point judges by the rows that it uses, in the table's order, 12
-- before all, 13 right after 6, 19 right after 13, 14 last of all; a screen's has 21 in place of 2 and 20 in place of 4:
-- "Each is returned if its condition holds and that of no earlier one does, otherwise never."
use Rattle.std.specs.Prelude.{ℕ, suc, ◌+◌, ◌/◌, ◌≡◌, Bool, true, false, cond, not, ◌&&◌, List, [], ◌∷◌, ◌++◌, leb, ltb, eqb, ℤ, pos, negsuc, length, drop}
use Rattle.std.specs.Int.Signed.{le_z}
use Rattle.order.specs.Order.{Job, Order, processor_count, job_count}

-- the most processors and jobs that an order may have, and the refusal's number for more processors, for more jobs
pub record Limits : Type 0 where
  pub processors : ℕ
  pub jobs : ℕ
  pub over_processors : ℕ
  pub over_jobs : ℕ

-- document 01's, by which a dock is judged
abbrev pub limits : Limits
limits = record { processors = 16; jobs = 48; over_processors = 2; over_jobs = 4 }

-- document 02, §10: a screen "holds 12 jobs and 4 processors", "over 12 jobs is 20 and over 4 processors is 21"
abbrev pub screen : Limits
screen = record { processors = 4; jobs = 12; over_processors = 21; over_jobs = 20 }

-- the most rows that the plan check takes, and the shortest and longest order file
abbrev pub most_rows : ℕ
most_rows = 3024

abbrev pub shortest_file : ℕ
shortest_file = 12

abbrev pub longest_file : ℕ
longest_file = 844

-- what a row of the table finds: its condition does not hold, or it holds, and the refusal carries this number
pub data Finding : Type 0 where
  clear : Finding
  holds : ℕ → Finding

-- a row of the table: its number, and what it finds
pub record TableRow : Type 0 where
  pub number : ℕ
  pub finding : Finding

-- what a table answers: no row's condition holds, or a refusal with its number and the number that it carries
pub data Verdict : Type 0 where
  accepted : Verdict
  refused : ℕ → ℕ → Verdict

abbrev pub verdict_of : ℕ → Finding → Verdict → Verdict
verdict_of number clear later = later
verdict_of number (holds carried) later = refused number carried

-- the first row whose condition holds
unfoldable pub judge : List TableRow → Verdict
judge [] = accepted
judge (row ∷ rows) = verdict_of row.number row.finding (judge rows)

-- what an entry point answers: a value where its table accepts, else the refusal's number and what it carries
pub data Answer (A : Type 0) : Type 0 where
  answer : A → Answer A
  refusal : ℕ → ℕ → Answer A

abbrev pub answer_by : {A : Type 0} → Verdict → A → Answer A
answer_by accepted value = answer value
answer_by (refused number carried) value = refusal number carried

-- a lent buffer at exit: what is written, and what stood beyond it; where the call is refused, what it held
abbrev pub left_by : {A : Type 0} → Verdict → List A → List A → List A
left_by accepted written entry = written ++ drop (length written) entry
left_by (refused number carried) written entry = entry

-- a condition about no single job or processor: it carries 0
abbrev pub whole : Bool → Finding
whole true = holds 0
whole false = clear

-- a condition about single ones: it carries the number of the first for which it holds, counted from k + 1
unfoldable pub first_after {ℓ} : {A : Type ℓ} → ℕ → (A → Bool) → List A → Finding
first_after k test [] = clear
first_after k test (x ∷ xs) = cond (test x) (holds (suc k)) (first_after (suc k) test xs)

abbrev pub first {ℓ} : {A : Type ℓ} → (A → Bool) → List A → Finding
first test xs = first_after 0 test xs

-- "a time of 1 to 100,000, a due time of -1,000,000 to 1,000,000"
abbrev pub time_in_range : ℕ → Bool
time_in_range t = leb 1 t && leb t 100000

abbrev pub due_in_range : ℤ → Bool
due_in_range d = le_z (negsuc 999999) d && le_z d (pos 1000000)

-- document 02, §4: "a maker number, 1 to 16"
abbrev pub most_makers : ℕ
most_makers = 16

abbrev pub maker_in_range : ℕ → Bool
maker_in_range maker = leb 1 maker && leb maker most_makers

-- some memory is at least the need
unfoldable pub fits_some : ℕ → List ℕ → Bool
fits_some need [] = false
fits_some need (m ∷ ms) = cond (leb need m) true (fits_some need ms)

-- "A bound is a whole number of -10,000,000 to 10,000,000."
abbrev pub bound_in_range : ℤ → Bool
bound_in_range b = le_z (negsuc 9999999) b && le_z b (pos 10000000)

abbrev pub row : ℕ → Finding → TableRow
row number finding = record { number = number; finding = finding }

-- the two rows of the limits: 2 and 4, of a screen 21 and 20
abbrev pub processors_row : Limits → ℕ → TableRow
processors_row most processors = row most.over_processors (whole (ltb most.processors processors))

abbrev pub jobs_row : Limits → ℕ → TableRow
jobs_row most jobs = row most.over_jobs (whole (ltb most.jobs jobs))

-- rows 1 to 4, on the number of processors and of jobs
abbrev pub count_rows : Limits → ℕ → ℕ → List TableRow
count_rows most processors jobs =
    row 1 (whole (eqb processors 0))
    ∷ processors_row most processors
    ∷ row 3 (whole (eqb jobs 0))
    ∷ jobs_row most jobs
    ∷ []

-- rows 5, 6, 13 and 7: each carries the first job for which its condition holds
abbrev pub job_rows : Order → List TableRow
job_rows o =
    row 5 (first (λ (job : Job). not (time_in_range job.time)) o.jobs)
    ∷ row 6 (first (λ (job : Job). not (due_in_range job.due)) o.jobs)
    ∷ row 13 (first (λ (job : Job). not (maker_in_range job.maker)) o.jobs)
    ∷ row 7 (first (λ (job : Job). not (fits_some job.need o.memories)) o.jobs)
    ∷ []

-- rows 1 to 7 and 13, the conditions on an order's processors and jobs
abbrev pub order_rows : Limits → Order → List TableRow
order_rows most o = count_rows most (processor_count o) (job_count o) ++ job_rows o

-- row 8
abbrev pub bound_row : ℤ → TableRow
bound_row bound = row 8 (whole (not (bound_in_range bound)))

-- row 9: what is lent is below what is asked for, both in rows or both in bytes
abbrev pub room_row : ℕ → ℕ → TableRow
room_row lent asked = row 9 (whole (ltb lent asked))

-- row 10; its reason stands beside it
abbrev pub tight_row : Bool → TableRow
tight_row tight = row 10 (whole tight)

-- row 11, where so many are taken at most: four numbers are a row, and one to three left over are one more
abbrev pub rows_up_to_row : ℕ → ℕ → TableRow
rows_up_to_row most numbers = row 11 (whole (ltb most ((numbers + 3) / 4)))

abbrev pub rows_to_check_row : ℕ → TableRow
rows_to_check_row numbers = rows_up_to_row most_rows numbers

-- row 12, which precedes all others
abbrev pub file_row : Bool → TableRow
file_row good = row 12 (whole (not good))

-- "An order is accepted if no condition on its processors or jobs holds": document 01's rows 1 to 7, and 13
abbrev pub Accepted : Order → Type 0
Accepted o = judge (order_rows limits o) ≡ accepted
