-- Document 02, §2, of the plan that the planner writes.
use Rattle.std.specs.Prelude.{ℕ, ◌≤◌, ◌≡◌, List, ℤ, length}
use Rattle.std.proofs.Common.{subst, sym}
use Rattle.sums.specs.Lists.{Pairwise}
use Rattle.order.specs.Order.{Order}
use Rattle.plan.specs.Plan.{Row}
use Rattle.plan.specs.Join.{joined}
use Rattle.plan.proofs.JoinLaws.{joined-count}
use Rattle.plan.proofs.JoinAgain.{Separate}
use Rattle.wrap.specs.Layout.{layout}
use Rattle.wrap.proofs.FrameBase.{base_frame}
use Rattle.wrap.proofs.Joined.{BeginsBefore}
use Rattle.wrap.proofs.LayoutJoined.{joined-few, plan-separate, plan-again, plan-ordered}
use Rattle.planner.specs.Rows.{rows_asked}
use Rattle.planner.specs.Written.{PlanOf}

-- a plan of amounts whose layout was joined
pub record JoinedPlan (o : Order) (bound : ℤ) (amounts : ℕ → ℕ → ℕ) (plan : List Row) : Type 0 where
  -- "A joined row stands where its earliest part stood": rows stand by the stretch in which they begin, then by processor order, then
  -- by `from`
  pub ordered : Pairwise (BeginsBefore o (base_frame o bound)) plan
  -- "Row counts never grow; the buffer asked for stays q × (n + m - 1) rows."
  pub never-more : length plan ≤ length (layout o bound amounts)
  pub few : length plan ≤ rows_asked o
  -- "a second joining finds nothing to join"
  pub again : joined plan ≡ plan
  pub separate : Pairwise (λ (r s : Row). Separate r s × Separate s r) plan

-- the planner's plan is such a plan of its amounts; that it is right stands in PlanOf
pub plan-joined : (o : Order) (bound : ℤ) (plan : List Row) (P : PlanOf o bound plan) → JoinedPlan o bound P.amounts plan
plan-joined o bound plan P =
    subst (JoinedPlan o bound P.amounts) (sym P.plan-is)
    (record {
      ordered = plan-ordered o bound P.amounts P.feasible;
      never-more = joined-count (layout o bound P.amounts);
      few = joined-few o bound P.amounts;
      again = plan-again o bound P.amounts P.feasible;
      separate = plan-separate o bound P.amounts P.feasible;
    })
