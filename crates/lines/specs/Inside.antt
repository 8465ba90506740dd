-- An answer of the code as its line, and what is written for an order. Only this crate's own functions are held to these.
use Rattle.std.specs.Prelude.{ℕ, ◌≡◌, List, ℤ, Result, Ok, Err}
use Rattle.order.specs.Order.{Order}
use Rattle.order.specs.Refusals.{judge}
use Rattle.order.specs.Table.{refusal_told, number_by, carried_by}
use Rattle.order.specs.declared.Refusal.{Refusal}
use Rattle.profile.specs.Search.{reason_of}
use Rattle.reason.specs.Told.{reason_told}
use Rattle.planner.specs.Rows.{least_rows, plan_rows}
use Rattle.planner.specs.Told.{reason_carried}
use Rattle.planner.specs.declared.NoPlan.{NoPlan}
use Rattle.planner.specs.declared.NoPlan.TheVariants.{Refused, TooTight}
use Rattle.text.specs.Text.{Put}
use Rattle.lines.specs.Lines.{refused_line, meets_line, tight_line, bound_line}
use Rattle.lines.specs.Programs.{rows_lent, is_refused, PlanOrderText}
use Rattle.lines.specs.declared.Output.{Output}

abbrev pub refusal_line : Refusal → List ℕ
refusal_line r = refused_line (number_by (refusal_told r)) (carried_by (refusal_told r))

abbrev pub planned_line : Result ℕ NoPlan → List ℕ
planned_line (Ok count) = meets_line
planned_line (Err (TooTight reason dues)) = tight_line (reason_told reason dues)
planned_line (Err (Refused r)) = refusal_line r

-- of an order at its least lateness
pub record LeastOutput (o : Order) (buffer after : List ℕ) (r : Output) : Type 0 where
  pub text : List ℕ
  pub text-is : PlanOrderText (judge (least_rows o rows_lent)) o text
  pub put : Put buffer 0 text after r.length
  pub told : r.refused ≡ is_refused (judge (least_rows o rows_lent))

-- of an order at a bound
abbrev pub BoundOutput : Order → ℤ → List ℕ → List ℕ → Output → Type 0
BoundOutput o bound buffer after r =
    Put buffer 0 (bound_line o bound (judge (plan_rows o bound rows_lent))
    (reason_carried (judge (plan_rows o bound rows_lent)) (reason_of o bound))) after r.length
    × (r.refused ≡ is_refused (judge (plan_rows o bound rows_lent)))
