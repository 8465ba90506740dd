-- What the planner leaves in the lent buffer: its plan and what stood beyond it; where it refuses, what it was lent. The plan is the
-- layout of the amounts that the order has at the bound, joined (document 02, §2), so it is determined (WrittenOne).
use Rattle.std.specs.Prelude.{ℕ, ◌*◌, ◌≡◌, List, ◌++◌, ℤ, length, drop}
use Rattle.order.specs.Order.{Order}
use Rattle.order.specs.Refusals.{Verdict, accepted, refused}
use Rattle.plan.specs.Plan.{Row, Right}
use Rattle.plan.specs.Check.{numbers_of}
use Rattle.plan.specs.Join.{joined}
use Rattle.wrap.specs.Stretches.{FeasibleFor}
use Rattle.wrap.specs.Layout.{layout}
use Rattle.allot.specs.Chosen.{Chosen}

-- the planner's plan at a bound
pub record PlanOf (o : Order) (bound : ℤ) (plan : List Row) : Type 0 where
  pub amounts : ℕ → ℕ → ℕ
  pub chosen : Chosen o bound amounts
  pub feasible : FeasibleFor o bound amounts
  pub plan-is : plan ≡ joined (layout o bound amounts)
  pub right : Right o bound plan

-- it was written: `count` rows
pub record Written (o : Order) (bound : ℤ) (entry exit : List ℕ) (count : ℕ) : Type 0 where
  pub plan : List Row
  pub plan-of : PlanOf o bound plan
  pub rows_are : exit ≡ numbers_of plan ++ drop (4 * length plan) entry
  pub count-is : count ≡ length plan

-- the buffer at exit, by what the table answers
abbrev pub BufferBy : Verdict → Order → ℤ → List ℕ → List ℕ → ℕ → Type 0
BufferBy accepted o bound entry exit count = Written o bound entry exit count
BufferBy (refused number carried) o bound entry exit count = (exit ≡ entry) × (count ≡ 0)
