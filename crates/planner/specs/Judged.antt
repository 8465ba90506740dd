-- What is judged before any row is written: the table's verdict, the reason that comes with a 10, and the table of an order that is
-- gone on with.
use Rattle.std.specs.Prelude.{ℕ, ◌≡◌, ℤ, Result, Ok, Err, IfOk}
use Rattle.order.specs.Order.{Order}
use Rattle.order.specs.Lead.{last_due}
use Rattle.order.specs.Refusals.{Verdict, accepted, refused, judge}
use Rattle.order.specs.Table.{refusal_told}
use Rattle.order.specs.declared.Refusal.{Refusal}
use Rattle.profile.specs.Search.{reason_of}
use Rattle.table.specs.Tabled.{Tabled}
use Rattle.table.specs.declared.Table.{Table}
use Rattle.planner.specs.Rows.{least_rows, plan_rows}
use Rattle.planner.specs.Told.{reason_carried, ReasonTold}
use Rattle.planner.specs.declared.NoPlan.{NoPlan}
use Rattle.planner.specs.declared.NoPlan.TheVariants.{Refused, TooTight}

abbrev pub judged_told : Result Table NoPlan → Verdict
judged_told (Ok t) = accepted
judged_told (Err (TooTight reason dues)) = refused 10 0
judged_told (Err (Refused r)) = refusal_told r

abbrev pub least_judged_told : Result Table Refusal → Verdict
least_judged_told (Ok t) = accepted
least_judged_told (Err r) = refusal_told r

-- at a bound, for a buffer of so many numbers
pub record JudgedAt (o : Order) (bound : ℤ) (lent : ℕ) (r : Result Table NoPlan) : Type 0 where
  pub verdict : judged_told r ≡ judge (plan_rows o bound lent)
  pub reason-told : ReasonTold o (reason_carried (judge (plan_rows o bound lent)) (reason_of o bound)) r
  pub table_is : IfOk r (λ t. Tabled last_due o t)

-- for the least lateness
pub record JudgedLeast (o : Order) (lent : ℕ) (r : Result Table Refusal) : Type 0 where
  pub verdict : least_judged_told r ≡ judge (least_rows o lent)
  pub table_is : IfOk r (λ t. Tabled last_due o t)
