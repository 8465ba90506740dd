-- Document 01, "Plans": what a right plan is. A plan is any finite list of rows, of any length and by any maker.
use Rattle.std.specs.Prelude.{ℕ, ◌-◌, ◌*◌, ◌≤◌, ◌<◌, ◌≡◌, List, ◌⊎◌, eqb, ℤ, pos, ◌*ℤ◌, ◌≤ℤ◌}
use Rattle.sums.specs.Lists.{All, Pairwise, total, only}
use Rattle.order.specs.Order.{Order, processor_count, job_count, Numbers, job_of, memory_of, Fits, end_of}

-- "A row is job, processor, from, to and occupies the minutes from `from` up to but not including `to`."
pub record Row : Type 0 where
  pub job : ℕ
  pub processor : ℕ
  pub from : ℕ
  pub to : ℕ

-- a row takes some time
abbrev pub Forward : Row → Type 0
Forward r = r.from < r.to

-- "every row names an existing job and processor that fit, and `from` is below `to`"
pub record WellFormed (o : Order) (r : Row) : Type 0 where
  pub a-job : Numbers (job_count o) r.job
  pub a-processor : Numbers (processor_count o) r.processor
  pub fits : Fits (job_of o r.job) (memory_of o r.processor)
  pub forward : r.from < r.to

-- two rows do not overlap: "touching is no overlap"
abbrev pub Apart : Row → Row → Type 0
Apart r s = (r.to ≤ s.from) ⊎ (s.to ≤ r.from)

-- the lengths of a job's rows, added up
abbrev pub lengths_of : ℕ → List Row → ℕ
lengths_of job rows = total rows (λ (r : Row). only (eqb r.job job) (r.to - r.from))

-- A plan is right in parts, p to the minute: "the four rules hold with p × end for the job's end and p × time for its time".
pub record RightInParts (p : ℕ) (o : Order) (bound : ℤ) (rows : List Row) : Type 0 where
  pub well-formed : All (WellFormed o) rows
  pub by_end : All (λ (r : Row). pos r.to ≤ℤ (pos p *ℤ end_of bound (job_of o r.job))) rows
  pub jobs-apart : Pairwise (λ (r s : Row). r.job ≡ s.job → Apart r s) rows
  pub processors-apart : Pairwise (λ (r s : Row). r.processor ≡ s.processor → Apart r s) rows
  pub whole : (j : ℕ) → Numbers (job_count o) j → lengths_of j rows ≡ p * (job_of o j).time

-- "With p = 1 these are the rules above": a right plan of whole minutes.
abbrev pub Right : Order → ℤ → List Row → Type 0
Right o bound rows = RightInParts 1 o bound rows

-- A plan meets a whole number, in the bound's range or not, "if it is right for the order with that number as the bound".
abbrev pub Meets : Order → ℤ → List Row → Type 0
Meets o number rows = Right o number rows
