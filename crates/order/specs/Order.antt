-- Document 01, "Order and file": an order is a list of processors and a list of jobs, numbered from 1 in input order.
-- Times are whole minutes from a common start, minute 0.
use Rattle.std.specs.Prelude.{ℕ, ◌≤◌, List, [], ℤ, pos, ◌+ℤ◌, length}
use Rattle.sums.specs.Lists.{nth}

-- a job: its working time, the minute by which it is due, the memory that it needs; and the number of its maker (document 02, §4)
pub record Job : Type 0 where
  pub time : ℕ
  pub due : ℤ
  pub need : ℕ
  pub maker : ℕ

-- an order: the memory of each processor, and the jobs
pub record Order : Type 0 where
  pub memories : List ℕ
  pub jobs : List Job

-- the order that has none of either
abbrev pub no_order : Order
no_order = record { memories = []; jobs = [] }

-- how many processors and jobs there are
abbrev pub processor_count : Order → ℕ
processor_count o = length o.memories

abbrev pub job_count : Order → ℕ
job_count o = length o.jobs

-- k is the number of one of n things: they are numbered from 1
abbrev pub Numbers : ℕ → ℕ → Type 0
Numbers n k = (1 ≤ k) × (k ≤ n)

-- the job and the memory that a number names; one that names none is never asked for
abbrev pub no_job : Job
no_job = record { time = 0; due = pos 0; need = 0; maker = 0 }

abbrev pub job_of : Order → ℕ → Job
job_of o j = nth o.jobs j no_job

abbrev pub memory_of : Order → ℕ → ℕ
memory_of o i = nth o.memories i 0

-- "A job fits a processor whose memory is at least its need."
abbrev pub Fits : Job → ℕ → Type 0
Fits job memory = job.need ≤ memory

-- Document 02, §3: "A job's end is due time plus bound plus 1": due 10 means done by the close of minute 10, so the end is minute 11.
-- The bound may be any whole number, in the bound's range or not.
unfoldable pub end_at : ℤ → ℤ → ℤ
end_at bound due = due +ℤ bound +ℤ pos 1

unfoldable pub end_of : ℤ → Job → ℤ
end_of bound job = end_at bound job.due
