-- What the code's values stand for: the order of its struct, the number of each refusal and what it carries.
use Rattle.std.specs.Prelude.{ℕ, zero, suc, List, pos, get_or, Option, None, Some, Result, Ok, Err}
use Rattle.sums.specs.Lists.{tabulate}
use Rattle.order.specs.Order.{Job, Order, no_job, processor_count, job_count}
use Rattle.order.specs.Refusals.{limits, Finding, clear, holds, Verdict, accepted, refused}
use Rattle.order.specs.Callers.{limits_of}
use Rattle.order.specs.declared.Order.{Order as OrderTable}
use Rattle.order.specs.declared.Refusal.{Refusal}
use Rattle.order.specs.declared.Refusal.TheVariants.{
  NoProcessor,
  TooManyProcessors,
  NoJob,
  TooManyJobs,
  TimeOutOfRange,
  DueOutOfRange,
  MakerOutOfRange,
  FitsNoProcessor,
  BoundOutOfRange,
  BufferTooShort,
  TooManyRows,
  BadFile,
  BookFull,
  ReadyOutOfRange,
  BadWindow,
  LowAboveHigh,
}

-- job number j + 1 of a struct
abbrev pub job_at : OrderTable → ℕ → Job
job_at t j = record {
  time = get_or t.times j 0;
  due = get_or t.dues j (pos 0);
  need = get_or t.needs j 0;
  maker = get_or t.makers j 0;
}

-- the order of a struct: as many processors and jobs as it counts, zeros behind the end of its arrays
abbrev pub order_of : OrderTable → Order
order_of t = record {
  memories = tabulate t.processors (λ i. get_or t.memories i 0);
  jobs = tabulate t.jobs (job_at t);
}

-- k numbers: those given, and 0 beyond
abbrev pub padded : ℕ → List ℕ → List ℕ
padded k xs = tabulate k (λ i. get_or xs i 0)

-- an order as a struct: 0 beyond the counts
unfoldable pub table_of : Order → OrderTable
table_of o = record {
  processors = processor_count o;
  memories = padded limits.processors o.memories;
  jobs = job_count o;
  times = tabulate limits.jobs (λ j. (get_or o.jobs j no_job).time);
  dues = tabulate limits.jobs (λ j. (get_or o.jobs j no_job).due);
  needs = tabulate limits.jobs (λ j. (get_or o.jobs j no_job).need);
  makers = tabulate limits.jobs (λ j. (get_or o.jobs j no_job).maker);
}

-- the number of a refusal, and what it carries
abbrev pub refusal_told : Refusal → Verdict
refusal_told NoProcessor = refused 1 0
refusal_told (TooManyProcessors caller) = refused (limits_of caller).over_processors 0
refusal_told NoJob = refused 3 0
refusal_told (TooManyJobs caller) = refused (limits_of caller).over_jobs 0
refusal_told (TimeOutOfRange job) = refused 5 job
refusal_told (DueOutOfRange job) = refused 6 job
refusal_told (MakerOutOfRange job) = refused 13 job
refusal_told (FitsNoProcessor job) = refused 7 job
refusal_told BoundOutOfRange = refused 8 0
refusal_told BufferTooShort = refused 9 0
refusal_told TooManyRows = refused 11 0
refusal_told BadFile = refused 12 0
refusal_told BookFull = refused 14 0
refusal_told (ReadyOutOfRange job) = refused 15 job
refusal_told (BadWindow processor) = refused 16 processor
refusal_told (LowAboveHigh job) = refused 19 job

-- the number of a verdict, and what it carries; 0 where nothing is refused
abbrev pub number_by : Verdict → ℕ
number_by accepted = 0
number_by (refused number carried) = number

abbrev pub carried_by : Verdict → ℕ
carried_by accepted = 0
carried_by (refused number carried) = carried

-- what a search for a job finds: none, or the first with its number
abbrev pub finding : Option ℕ → Finding
finding None = clear
finding (Some job) = holds job

-- a number that stands for a finding: 0 where there is none, else the job
abbrev pub finding_of : ℕ → Finding
finding_of zero = clear
finding_of (suc j) = holds (suc j)

-- the answer of acceptance
abbrev pub Acceptance : Type 0
Acceptance = Result (Unit {0}) Refusal

abbrev pub acceptance_told : Acceptance → Verdict
acceptance_told (Ok tt) = accepted
acceptance_told (Err refusal) = refusal_told refusal
