-- What the planner's answers stand for. The number of rows is named here; Written says which it is.
use Rattle.std.specs.Prelude.{ℕ, ◌≡◌, [], cond, eqb, ℤ, pos, Some, None, Result, Ok, Err}
use Rattle.order.specs.Order.{Order}
use Rattle.order.specs.Refusals.{Verdict, accepted, refused, Answer, answer, refusal, answer_by}
use Rattle.order.specs.Table.{refusal_told}
use Rattle.order.specs.declared.Refusal.{Refusal}
use Rattle.plan.specs.IsLeast.{IsLeast}
use Rattle.profile.specs.Reason.{Reason}
use Rattle.profile.specs.Search.{Found, nothing}
use Rattle.reason.specs.Told.{sixteen, why_of, why_told}
use Rattle.reason.specs.declared.Why.{Why}
use Rattle.planner.specs.declared.Least.{Least}
use Rattle.planner.specs.declared.NoPlan.{NoPlan}
use Rattle.planner.specs.declared.NoPlan.TheVariants.{Refused, TooTight}

-- at a bound: the number of rows; 10, which carries 0 and comes with its reason; or another refusal
abbrev pub planned_told : Result ℕ NoPlan → Answer ℕ
planned_told (Ok count) = answer count
planned_told (Err (TooTight reason dues)) = refusal 10 0
planned_told (Err (Refused r)) = answer_by (refusal_told r) 0

abbrev pub rows_of : Result ℕ NoPlan → ℕ
rows_of (Ok count) = count
rows_of (Err no_plan) = 0

-- a reason comes with refusal 10 alone
abbrev pub reason_carried : Verdict → Found Reason → Found Reason
reason_carried accepted reason = nothing
reason_carried (refused number carried) reason = cond (eqb number 10) reason nothing

-- the reason of an answer: a bound that is not judged or is met has none
abbrev pub why_not : NoPlan → Why
why_not (TooTight reason dues) = record { reason = Some reason; dues = dues }
why_not (Refused r) = record { reason = None; dues = sixteen [] }

abbrev pub why_in : {A : Type 0} → Result A NoPlan → Why
why_in (Ok x) = record { reason = None; dues = sixteen [] }
why_in (Err no_plan) = why_not no_plan

-- an answer stands for this reason, and holds nothing but it
abbrev pub ReasonTold : {A : Type 0} → Order → Found Reason → Result A NoPlan → Type 0
ReasonTold o reason r = (why_told (why_in r) ≡ reason) × (why_in r ≡ why_of o reason)

-- the least lateness, or a refusal
abbrev pub least_told : Result Least Refusal → Answer ℤ
least_told (Ok least) = answer least.lateness
least_told (Err r) = answer_by (refusal_told r) (pos 0)

abbrev pub least_count : Result Least Refusal → ℕ
least_count (Ok least) = least.rows
least_count (Err r) = 0

-- what is answered is least
abbrev pub LeastIn : Order → Result Least Refusal → Type 0
LeastIn o (Ok least) = IsLeast o least.lateness
LeastIn o (Err r) = Unit {0}
