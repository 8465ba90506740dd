-- Document 01's order file: two lists in either order, and a trailer of 12 bytes that points back to them. Document 02, §4, puts the
-- maker at the end of each job.
use Rattle.std.specs.Prelude.{ℕ, ◌+◌, ◌-◌, ◌*◌, ◌≡◌, Bool, ◌&&◌, ◌||◌, List, [], ◌∷◌, ◌++◌, leb, eqb, length, take, drop}
use Rattle.sums.specs.Lists.{tabulate}
use Rattle.order.specs.Order.{Job, Order, no_order, processor_count, job_count}
use Rattle.order.specs.Refusals.{
  limits,
  shortest_file,
  longest_file,
  TableRow,
  Verdict,
  accepted,
  refused,
  judge,
  order_rows,
  room_row,
  file_row,
}
use Rattle.order_file.specs.Bytes.{number4, number2, bytes4, bytes2, signed, pattern}

-- a job is 16 bytes, the trailer 12
abbrev pub job_width : ℕ
job_width = 16

abbrev pub trailer_width : ℕ
trailer_width = 12

-- the trailer: place of the processor list, place of the job list, processor count, job count
abbrev pub trailer : List ℕ → ℕ
trailer f = length f - trailer_width

abbrev pub processor_place : List ℕ → ℕ
processor_place f = number4 f (trailer f)

abbrev pub job_place : List ℕ → ℕ
job_place f = number4 f (trailer f + 4)

abbrev pub processors_of : List ℕ → ℕ
processors_of f = number2 f (trailer f + 8)

abbrev pub jobs_of : List ℕ → ℕ
jobs_of f = number2 f (trailer f + 10)

-- "The two lists lie in either order, the first from byte 0, the second from where the first ends up to the trailer
-- exactly": a processor is 4 bytes
abbrev pub lists_agree : ℕ → ℕ → ℕ → ℕ → Bool
lists_agree processors jobs processors_at jobs_at =
    (eqb processors_at 0 && eqb jobs_at (4 * processors)) || (eqb jobs_at 0 && eqb processors_at (job_width * jobs))

unfoldable pub good_file : List ℕ → Bool
good_file f =
    leb shortest_file (length f)
    && (leb (length f) longest_file
    && (eqb (4 * processors_of f + job_width * jobs_of f + trailer_width) (length f)
    && lists_agree (processors_of f) (jobs_of f) (processor_place f) (job_place f)))

-- the order of a file: the numbers at the places that its trailer gives
abbrev pub job_in : List ℕ → ℕ → Job
job_in f at = record {
  time = number4 f at;
  due = signed (number4 f (at + 4));
  need = number4 f (at + 8);
  maker = number4 f (at + 12);
}

unfoldable pub order_in : List ℕ → Order
order_in f = record {
  memories = tabulate (processors_of f) (λ i. number4 f (processor_place f + 4 * i));
  jobs = tabulate (jobs_of f) (λ j. job_in f (job_place f + job_width * j));
}

-- the reader judges 12, then the rows of acceptance
unfoldable pub read_rows : List ℕ → List TableRow
read_rows f = file_row (good_file f) ∷ order_rows limits (order_in f)

-- the order that the reader answers; none where it refuses
abbrev pub order_by : Verdict → Order → Order
order_by accepted o = o
order_by (refused number carried) o = no_order

-- the bytes of an order: processors first
unfoldable pub processor_bytes : List ℕ → List ℕ
processor_bytes [] = []
processor_bytes (m ∷ ms) = bytes4 m ++ processor_bytes ms

abbrev pub bytes_of_job : Job → List ℕ
bytes_of_job job = bytes4 job.time ++ (bytes4 (pattern job.due) ++ (bytes4 job.need ++ bytes4 job.maker))

unfoldable pub job_bytes : List Job → List ℕ
job_bytes [] = []
job_bytes (job ∷ jobs) = bytes_of_job job ++ job_bytes jobs

abbrev pub trailer_bytes : ℕ → ℕ → List ℕ
trailer_bytes processors jobs = bytes4 0 ++ (bytes4 (4 * processors) ++ (bytes2 processors ++ bytes2 jobs))

unfoldable pub file_of : Order → List ℕ
file_of o = processor_bytes o.memories ++ (job_bytes o.jobs ++ trailer_bytes (processor_count o) (job_count o))

abbrev pub file_length : Order → ℕ
file_length o = 4 * processor_count o + job_width * job_count o + trailer_width

-- the writer judges the rows of acceptance, then 9
unfoldable pub write_rows : Order → ℕ → List TableRow
write_rows o lent = order_rows limits o ++ (room_row lent (file_length o) ∷ [])

-- what the buffer holds after the writer: the file, and what stood beyond it; where it refuses, what it held
abbrev pub written_by : Verdict → Order → List ℕ → List ℕ
written_by accepted o buffer = file_of o ++ drop (file_length o) buffer
written_by (refused number carried) o buffer = buffer

-- a buffer whose first n bytes are read back as this order
pub record ReadsBack (o : Order) (n : ℕ) (buffer : List ℕ) : Type 0 where
  pub taken : judge (read_rows (take n buffer)) ≡ accepted
  pub same : order_in (take n buffer) ≡ o

-- by what the writer's table answers: the file in the buffer is read back as the order; nothing is said where it refuses
abbrev pub ReadBackBy : Verdict → Order → List ℕ → Type 0
ReadBackBy accepted o buffer = ReadsBack o (file_length o) buffer
ReadBackBy (refused number carried) o buffer = Unit {0}
