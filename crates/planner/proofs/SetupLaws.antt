-- What the planner asks of an order's table: that its counts are small, and the rows that a plan may have.
use Prim.Native.Nat.{ℕ, ◌+◌, ◌-◌, ◌*◌, ◌/◌, ◌≤◌}
use mathlib.Core.Path.{◌≡◌, refl, ap, ◌∙◌}
use mathlib.Core.Bool.{Bool}
use native.Mathlib.Omega.{arith}
use lib.Dec.{ltb}
use Rattle.order.specs.Order.{Order}
use Rattle.order.specs.Lead.{last_due}
use Rattle.order.specs.Refusals.{Accepted}
use Rattle.order.proofs.RefusalLaws.{accepted-iff}
use Rattle.table.specs.Tabled.{Tabled}
use Rattle.table.specs.declared.Table.{Table}
use Rattle.allot.specs.GridMarks.{grid-counted}
use Rattle.planner.specs.Rows.{rows_asked}

module _ (o : Order) (a : Accepted o) (t : Table) (m : Tabled last_due o t) where
  pub counts-small : (t.q ≤ 48) × (1 ≤ t.n) × (t.n ≤ 48) × (t.m ≤ 16)
  counts-small = (m.grid.few, omega (arith, ((accepted-iff o).0 a).some-job, m.jobs), m.few-jobs, m.few-processors)

  pub rows_are : t.q * (t.n + t.m - 1) ≡ rows_asked o
  rows_are = rw (grid-counted last_due o _ m.grid, m.jobs, m.processors) refl

  pub short-is : {b : Bool} (lent : ℕ) → b ≡ ltb (lent / 4) (t.q * (t.n + t.m - 1)) → b ≡ ltb (lent / 4) (rows_asked o)
  short-is lent e = e ∙ ap (ltb (lent / 4)) rows_are
