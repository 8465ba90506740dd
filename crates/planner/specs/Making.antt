-- When a plan is made of a table at a bound, and what is then written.
use Rattle.std.specs.Prelude.{ℕ, ◌*◌, ◌≤◌, ◌≡◌, true, List, ℤ, length}
use Rattle.order.specs.Order.{Order}
use Rattle.order.specs.Lead.{last_due}
use Rattle.order.specs.Refusals.{Accepted, bound_in_range}
use Rattle.profile.proofs.ReasonLaws.{NoReason}
use Rattle.table.specs.Tabled.{Tabled}
use Rattle.table.specs.declared.Table.{Table}
use Rattle.planner.specs.Rows.{rows_asked}
use Rattle.planner.specs.Written.{Written}

-- the table is that of an accepted order with no reason against the bound, and so many numbers are room for its rows
pub record MadeOf (o : Order) (t : Table) (bound : ℤ) (lent : ℕ) : Type 0 where
  pub accepted : Accepted o
  pub bound-good : bound_in_range bound ≡ true
  pub no-reason : NoReason o bound
  pub room : 4 * rows_asked o ≤ lent
  pub tabled : Tabled last_due o t

abbrev pub Makeable : Table → ℤ → ℕ → Type 0
Makeable t bound lent = (o : Order) × MadeOf o t bound lent

-- of whatever such order the table is, its plan was written
abbrev pub MadeBy : Table → ℤ → (entry exit : List ℕ) → ℕ → Type 0
MadeBy t bound entry exit count = (o : Order) → MadeOf o t bound (length entry) → Written o bound entry exit count
