-- What each exported function answers, and by which rows of the refusal table it judges. A file stands for the order in it.
use Rattle.std.specs.Prelude.{Option, None, Some}
use Rattle.std.specs.Prelude.{ℕ, ◌+◌, ◌*◌, ◌/◌, ◌≡◌, Bool, cond, ◌&&◌, List, [], ◌∷◌, ◌++◌, eqb, ℤ, pos, negsuc, length, get_or, drop}
use Rattle.sums.specs.Lists.{tabulate}
use Rattle.order.specs.Order.{Order, processor_count, job_count, job_of}
use Rattle.order.specs.Refusals.{limits, TableRow, Verdict, accepted, refused, judge, left_by, order_rows, bound_row}
use Rattle.order_file.specs.Bytes.{signed}
use Rattle.order_file.specs.File.{order_in, write_rows}
use Rattle.plan.specs.Check.{is_right, check_rows}
use Rattle.profile.specs.Reason.{Reason, over_end, stairs}
use Rattle.profile.specs.Search.{Found, nothing, found, reason_of}
use Rattle.profile.specs.Standing.{same_z}
use Rattle.reason.specs.Told.{sixteen}
use Rattle.reason.specs.declared.Reason.TheVariants.{Job, Stairs}
use Rattle.reason.specs.declared.Why.{Why}
use Rattle.sentence.specs.Handed.{handed}
use Rattle.sentence.specs.Line.{composed, read_back}
use Rattle.sentence.specs.Told.{compose_rows, read_rows}
use Rattle.planner.specs.Rows.{rows_asked, least_rows, plan_rows}
use Rattle.planner.specs.Written.{Written}
use Rattle.highboyrobin.specs.Results.{file_call, list_call, answer_row, part_job_row}
use Rattle.reason.specs.declared.Reason.{Reason as CodeReason}

-- hbr_judge: the processors, the jobs, and the rows to be lent
abbrev pub judge_call : List ℕ → ℕ → List TableRow
judge_call file lent = file_call lent 3 file (order_rows limits (order_in file))

abbrev pub sizes_of : Order → List ℤ
sizes_of o = pos (processor_count o) ∷ pos (job_count o) ∷ pos (rows_asked o) ∷ []

-- hbr_least
abbrev pub least_call : List ℕ → ℕ → ℕ → List TableRow
least_call file numbers lent = file_call lent 2 file (least_rows (order_in file) numbers)

-- hbr_plan
abbrev pub plan_call : List ℕ → ℤ → ℕ → ℕ → List TableRow
plan_call file bound numbers lent = file_call lent 1 file (plan_rows (order_in file) bound numbers)

-- a plan was written at a bound, and the answer holds these numbers and then the count of its rows
pub record PlanAnswered (o : Order) (bound : ℤ) (first : List ℤ) (rows rows' : List ℕ) (answer answer' : List ℤ) : Type 0 where
  pub count : ℕ
  pub written : Written o bound rows rows' count
  pub answered : answer' ≡ (first ++ (pos count ∷ [])) ++ drop (length first + 1) answer

-- rows and answer at exit, by what the table answers: a refused call writes nothing
abbrev pub PlanBy : Verdict → Order → ℤ → List ℤ → List ℕ → List ℕ → List ℤ → List ℤ → Type 0
PlanBy accepted o bound first rows rows' answer answer' = PlanAnswered o bound first rows rows' answer answer'
PlanBy (refused number job) o bound first rows rows' answer answer' = (rows' ≡ rows) × (answer' ≡ answer)

-- hbr_reason: its kind (0 none, 1 a job, 2 a staircase), the job or the count of classes, the job's time, sixteen due times
abbrev pub reason_call : List ℕ → ℤ → ℕ → List TableRow
reason_call file bound lent = file_call lent 19 file (order_rows limits (order_in file) ++ (bound_row bound ∷ []))

abbrev pub reason_numbers : Order → Found Reason → List ℤ
reason_numbers o nothing = pos 0 ∷ pos 0 ∷ pos 0 ∷ sixteen []
reason_numbers o (found (over_end j)) = pos 1 ∷ pos j ∷ pos (job_of o j).time ∷ sixteen []
reason_numbers o (found (stairs dues)) = pos 2 ∷ pos (length dues) ∷ pos 0 ∷ sixteen dues

abbrev pub reason_answer : List ℕ → ℤ → List ℤ → List ℤ
reason_answer file bound answer =
    left_by (judge (reason_call file bound (length answer))) (reason_numbers (order_in file) (reason_of (order_in file) bound)) answer

-- hbr_sentence: nineteen numbers as a reason is handed in, each kind with no number that is not its own; others tell none
abbrev pub tightness_from : ℤ → ℤ → ℤ → Option CodeReason
tightness_from kind (pos which) (pos time) =
    cond (same_z kind (pos 1)) (Some (Job which time)) (cond (same_z kind (pos 2) && eqb time 0) (Some (Stairs which)) None)
tightness_from kind (pos which) (negsuc time) = None
tightness_from kind (negsuc which) time = None

unfoldable pub why_from : List ℤ → Why
why_from numbers = record {
  reason = tightness_from (get_or numbers 0 (pos 0)) (get_or numbers 1 (pos 0)) (get_or numbers 2 (pos 0));
  dues = tabulate 16 (λ i. get_or numbers (3 + i) (pos 0));
}

-- the line that is composed of them
abbrev pub line_from : List ℕ → ℤ → List ℤ → List ℕ
line_from file bound numbers = composed (order_in file) bound (handed (order_in file) (why_from numbers))

-- its reason has as many numbers as hbr_reason answers
abbrev pub sentence_call : List ℕ → ℤ → List ℤ → ℕ → ℕ → List TableRow
sentence_call file bound numbers lent answer =
    list_call answer 1 (length numbers) 19 file (compose_rows (order_in file) bound (why_from numbers) lent)

-- hbr_parse: the reason of a line, or none, in the numbers of hbr_reason
abbrev pub parse_call : List ℕ → ℤ → ℕ → List TableRow
parse_call file bound lent = file_call lent 19 file (read_rows (order_in file) bound)

abbrev pub parse_answer : List ℕ → ℤ → List ℕ → List ℤ → List ℤ
parse_answer file bound line answer =
    left_by (judge (parse_call file bound (length answer))) (reason_numbers (order_in file) (read_back (order_in file) bound line)) answer

-- hbr_check: 1 for yes, 0 for no
abbrev pub check_call : List ℕ → ℤ → ℕ → ℕ → List TableRow
check_call file bound numbers lent = file_call lent 1 file (check_rows (order_in file) bound numbers)

abbrev pub yes_or_no : Bool → List ℤ
yes_or_no right = pos (cond right 1 0) ∷ []

abbrev pub check_answer : List ℕ → ℤ → List ℕ → List ℤ → List ℤ
check_answer file bound rows answer =
    left_by (judge (check_call file bound (length rows) (length answer))) (yes_or_no (is_right (order_in file) bound rows)) answer

-- hbr_write: the order of two lists of numbers, four to a job: time, due time as two's complement, need, maker
unfoldable pub order_from : List ℕ → List ℕ → Order
order_from memories jobs = record {
  memories = memories;
  jobs = tabulate (length jobs / 4)
      (λ j. record {
        time = get_or jobs (4 * j) 0;
        due = signed (get_or jobs (4 * j + 1) 0);
        need = get_or jobs (4 * j + 2) 0;
        maker = get_or jobs (4 * j + 3) 0;
      });
}

unfoldable pub write_call : List ℕ → List ℕ → ℕ → ℕ → List TableRow
write_call memories jobs lent answer =
    answer_row answer 1 ∷ part_job_row (length jobs) ∷ write_rows (order_from memories jobs) lent
