-- What the least lateness is, in the words of demand 3: one right plan meets it, and every other whole number that any
-- right plan meets is larger; in parts, no right plan meets a whole number below it.
use Rattle.std.specs.Prelude.{ℕ, ◌≤◌, List, ℤ, ◌≤ℤ◌, ◌<ℤ◌}
use Rattle.order.specs.Order.{Order}
use Rattle.plan.specs.Plan.{Row, RightInParts, Meets}

pub record IsLeast (o : Order) (least : ℤ) : Type 0 where
  pub some-plan : (rows : List Row) × Meets o least rows
  pub no_other : (number : ℤ) (rows : List Row) → Meets o number rows → least ≤ℤ number
  pub none-in-parts : (p : ℕ) → 1 ≤ p → (number : ℤ) (rows : List Row) → RightInParts p o number rows → ¬ (number <ℤ least)
