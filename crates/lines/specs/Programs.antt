-- What the two programs write, whole, for the bytes that they read. Row 9 is judged of the rows that they lend, 12,096 numbers.
use Rattle.std.specs.Prelude.{ℕ, ◌≡◌, Bool, true, false, cond, List, ◌∷◌, ltb, ℤ, length, drop}
use Rattle.order.specs.Order.{Order}
use Rattle.order.specs.Refusals.{TableRow, Verdict, accepted, refused, judge, file_row}
use Rattle.order_file.specs.Bytes.{number4, signed}
use Rattle.order_file.specs.File.{good_file, order_in}
use Rattle.plan.specs.Plan.{Row}
use Rattle.profile.specs.Least.{least_lateness}
use Rattle.profile.specs.Search.{reason_of}
use Rattle.planner.specs.Rows.{least_rows, plan_rows}
use Rattle.planner.specs.Told.{reason_carried}
use Rattle.planner.specs.Written.{PlanOf}
use Rattle.text.specs.Text.{Put}
use Rattle.lines.specs.Lines.{refused_line, plan_lines, bound_line}
use Rattle.lines.specs.declared.Output.{Output}

abbrev pub rows_lent : ℕ
rows_lent = 12096

-- a program is refused or not
abbrev pub is_refused : Verdict → Bool
is_refused accepted = false
is_refused (refused refusal carried) = true

-- plan-order judges 12, the rows of acceptance and 9
unfoldable pub plan_order_rows : List ℕ → List TableRow
plan_order_rows file = file_row (good_file file) ∷ least_rows (order_in file) rows_lent

-- the lines of the planner's plan at the least lateness
pub record PlanText (o : Order) (text : List ℕ) : Type 0 where
  pub plan : List Row
  pub plan-of : PlanOf o (least_lateness o) plan
  pub text-is : text ≡ plan_lines (least_lateness o) plan

abbrev pub PlanOrderText : Verdict → Order → List ℕ → Type 0
PlanOrderText accepted o text = PlanText o text
PlanOrderText (refused refusal carried) o text = text ≡ refused_line refusal carried

-- what plan-order writes stands at the beginning of its buffer, which is otherwise as it was
pub record PlanOrderOutput (file buffer after : List ℕ) (r : Output) : Type 0 where
  pub text : List ℕ
  pub text-is : PlanOrderText (judge (plan_order_rows file)) (order_in file) text
  pub put : Put buffer 0 text after r.length
  pub told : r.refused ≡ is_refused (judge (plan_order_rows file))

-- try-bound judges 12, the rows of acceptance, then 8, 9 and 10, of a file and a bound
unfoldable pub try_bound_rows : List ℕ → ℤ → List TableRow
try_bound_rows file bound = file_row (good_file file) ∷ plan_rows (order_in file) bound rows_lent

-- "reads a bound (4 bytes, little-endian, two's complement), then the file .. Fewer than 4 bytes is 12."
abbrev pub bound_in : List ℕ → ℤ
bound_in input = signed (number4 input 0)

unfoldable pub try_bound_verdict : List ℕ → Verdict
try_bound_verdict input = cond (ltb (length input) 4) (refused 12 0) (judge (try_bound_rows (drop 4 input) (bound_in input)))

-- what try-bound writes
unfoldable pub try_bound_text : List ℕ → List ℕ
try_bound_text input =
    bound_line (order_in (drop 4 input)) (bound_in input) (try_bound_verdict input)
    (reason_carried (try_bound_verdict input) (reason_of (order_in (drop 4 input)) (bound_in input)))

abbrev pub TryBoundOutput : List ℕ → List ℕ → List ℕ → Output → Type 0
TryBoundOutput input buffer after r =
    Put buffer 0 (try_bound_text input) after r.length × (r.refused ≡ is_refused (try_bound_verdict input))
