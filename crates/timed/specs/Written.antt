-- What the timed planner leaves in the lent buffer: the joined layout of the amounts of the frame's run, which keeps the times, and what
-- stood beyond it; where it refuses, what it was lent.
use Rattle.std.specs.Prelude.{ℕ, suc, ◌*◌, ◌≡◌, true, List, ◌++◌, ℤ, length, drop, Option, Some, None, Result, Ok, Err}
use Rattle.order.specs.Order.{Order}
use Rattle.order.specs.Class.{classes}
use Rattle.order.specs.Refusals.{Verdict, accepted, refused, Answer, answer, refusal, answer_by}
use Rattle.order.specs.Table.{refusal_told}
use Rattle.order.specs.declared.Refusal.{Refusal}
use Rattle.engine.specs.Run.{RunOf}
use Rattle.plan.specs.Plan.{Row}
use Rattle.plan.specs.Check.{numbers_of}
use Rattle.plan.specs.Join.{joined}
use Rattle.wrap.specs.Frame.{FeasibleIn, layout_in}
use Rattle.wrap.specs.FrameAt.{Times, RightTimed}
use Rattle.wrap.specs.FrameFlow.{flow_in}
use Rattle.timed.specs.Changes.{timed_frame}

-- the timed planner's plan at a bound
pub record TimedPlanOf (o : Order) (bound : ℤ) (t : Times) (plan : List Row) : Type 0 where
  pub amounts : ℕ → ℕ → ℕ
  pub chosen : RunOf (flow_in o (timed_frame o bound t)) (suc (length (classes o))) (λ j s. amounts (suc j) s) true
  pub feasible : FeasibleIn o (timed_frame o bound t) amounts
  pub plan-is : plan ≡ joined (layout_in o (timed_frame o bound t) amounts)
  pub right : RightTimed 1 o bound t plan

-- it was written: `count` rows
pub record TimedWritten (o : Order) (bound : ℤ) (t : Times) (entry exit : List ℕ) (count : ℕ) : Type 0 where
  pub plan : List Row
  pub plan-of : TimedPlanOf o bound t plan
  pub rows_are : exit ≡ numbers_of plan ++ drop (4 * length plan) entry
  pub count-is : count ≡ length plan

-- the buffer at exit, by what the table answers
abbrev pub TimedBufferBy : Verdict → Order → ℤ → Times → List ℕ → List ℕ → ℕ → Type 0
TimedBufferBy accepted o bound t entry exit count = TimedWritten o bound t entry exit count
TimedBufferBy (refused number carried) o bound t entry exit count = (exit ≡ entry) × (count ≡ 0)

-- what the code's answers stand for: the number of rows, 10 without a reason where there is no plan, or another refusal
abbrev pub timed_told : Result (Option ℕ) Refusal → Answer ℕ
timed_told (Ok (Some count)) = answer count
timed_told (Ok None) = refusal 10 0
timed_told (Err r) = answer_by (refusal_told r) 0

abbrev pub timed_count : Result (Option ℕ) Refusal → ℕ
timed_count (Ok (Some count)) = count
timed_count (Ok None) = 0
timed_count (Err r) = 0

abbrev pub asked_told : Result ℕ Refusal → Answer ℕ
asked_told (Ok rows) = answer rows
asked_told (Err r) = answer_by (refusal_told r) 0
