-- What the exported functions with ready minutes and windows answer (document 02, §5), and by which rows of the refusal table they judge.
-- The ready minutes are lent one to a job, the windows as two numbers to a processor: when it opens, and when it closes.
use Rattle.std.specs.Prelude.{ℕ, ◌+◌, ◌*◌, ◌≡◌, not, ◌&&◌, List, [], ◌∷◌, eqb, ℤ, pos, length, get_or, drop, Result}
use Rattle.sums.specs.Lists.{tabulate}
use Rattle.order.specs.Order.{Order, processor_count, job_count}
use Rattle.order.specs.Refusals.{TableRow, Verdict, accepted, refused, judge, left_by, row, whole, file_row}
use Rattle.order.specs.Table.{order_of}
use Rattle.order.specs.declared.Order.{Order as OrderTable}
use Rattle.order_file.specs.File.{good_file, order_in}
use Rattle.wrap.specs.FrameAt.{Times}
use Rattle.timed.specs.Changes.{timed_rows_asked}
use Rattle.timed.specs.Check.{is_right_timed}
use Rattle.timed.specs.Rows.{asked_rows, timed_rows, timed_check_rows}
use Rattle.timed.specs.Times.{times_of}
use Rattle.timed.specs.Written.{TimedWritten}
use Rattle.timed.specs.declared.Times.{Times as TimesTable}
use Rattle.highboyrobin.specs.Calls.{yes_or_no}
use Rattle.highboyrobin.specs.Results.{answer_row, StatusBy}

-- the times of lent lists, as the struct that they are handed over in: 0 where a list has no number
abbrev pub times_from : (ready windows : List ℕ) → TimesTable
times_from ready windows = record {
  ready = tabulate 48 (λ j. get_or ready j 0);
  opens = tabulate 16 (λ i. get_or windows (2 * i) 0);
  closes = tabulate 16 (λ i. get_or windows (2 * i + 1) 0);
}

abbrev pub times_in : (ready windows : List ℕ) → Times
times_in ready windows = times_of (times_from ready windows)

-- a mistake of the call, "judged right after 12": lists that are not as long as the file's counts
abbrev pub wrong_times_row : Order → (ready windows : ℕ) → TableRow
wrong_times_row o ready windows = row 253 (whole (not (eqb ready (job_count o) && eqb windows (2 * processor_count o))))

-- the table of a call with times: the answer's room, 12, 253, then the rows of the entry point
unfoldable pub timed_call : ℕ → (file ready windows : List ℕ) → List TableRow → List TableRow
timed_call lent file ready windows rows =
    answer_row lent 1
    ∷ file_row (good_file file)
    ∷ wrong_times_row (order_in file) (length ready) (length windows)
    ∷ rows

-- what all three read, by those of these rows that are about file, lists and order: the order and the times, or the result of the first row
-- that refuses
abbrev pub ReadBy : Verdict → (file ready windows : List ℕ) → Result (OrderTable × TimesTable) ℕ → Type 0
ReadBy v file ready windows r =
    StatusBy v r (λ read. (order_of read.0 ≡ order_in file) × (read.1 ≡ times_from ready windows))

-- hbr_timed_rows: the rows to be lent at a bound
abbrev pub timed_rows_call : (file : List ℕ) → ℤ → (ready windows : List ℕ) → ℕ → List TableRow
timed_rows_call file bound ready windows lent =
    timed_call lent file ready windows (asked_rows (order_in file) bound (times_in ready windows))

abbrev pub timed_rows_answer : (file : List ℕ) → ℤ → (ready windows : List ℕ) → List ℤ → List ℤ
timed_rows_answer file bound ready windows answer =
    left_by (judge (timed_rows_call file bound ready windows (length answer)))
    (pos (timed_rows_asked (order_in file) bound (times_in ready windows)) ∷ []) answer

-- hbr_timed_plan
abbrev pub timed_plan_call : (file : List ℕ) → ℤ → (ready windows : List ℕ) → ℕ → ℕ → List TableRow
timed_plan_call file bound ready windows numbers lent =
    timed_call lent file ready windows (timed_rows (order_in file) bound (times_in ready windows) numbers)

-- a plan was written, and the answer holds the count of its rows
pub record TimedAnswered (o : Order) (bound : ℤ) (t : Times) (rows rows' : List ℕ) (answer answer' : List ℤ) : Type 0 where
  pub count : ℕ
  pub written : TimedWritten o bound t rows rows' count
  pub answered : answer' ≡ pos count ∷ drop 1 answer

-- rows and answer at exit, by what the table answers: a refused call writes nothing
abbrev pub TimedPlanBy : Verdict → Order → ℤ → Times → List ℕ → List ℕ → List ℤ → List ℤ → Type 0
TimedPlanBy accepted o bound t rows rows' answer answer' = TimedAnswered o bound t rows rows' answer answer'
TimedPlanBy (refused number carried) o bound t rows rows' answer answer' = (rows' ≡ rows) × (answer' ≡ answer)

-- hbr_timed_check: 1 for yes, 0 for no
abbrev pub timed_check_call : (file : List ℕ) → ℤ → (ready windows : List ℕ) → ℕ → ℕ → List TableRow
timed_check_call file bound ready windows numbers lent =
    timed_call lent file ready windows (timed_check_rows (order_in file) bound (times_in ready windows) numbers)

abbrev pub timed_check_answer : (file : List ℕ) → ℤ → (ready windows rows : List ℕ) → List ℤ → List ℤ
timed_check_answer file bound ready windows rows answer =
    left_by (judge (timed_check_call file bound ready windows (length rows) (length answer)))
    (yes_or_no (is_right_timed (order_in file) bound (times_in ready windows) rows)) answer
