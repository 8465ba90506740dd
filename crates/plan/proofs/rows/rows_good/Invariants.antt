-- The rows passed so far are whole and good. A row that is read as malformed, or ends late, decides.
use Prim.Native.Nat.{ℕ, ◌<◌}
use mathlib.Core.Path.{◌≡◌}
use mathlib.Core.Bool.{true}
use Rattle.order.specs.Table.{order_of}
use Rattle.plan.proofs.GoodRows.{passes}
use Rattle.plan.proofs.rows.rows_good.Given as goal

abbrev pub invariant-loop-i : goal.invariant-loop-i
invariant-loop-i l = (k : ℕ) → k < l.i → passes (order_of l.order) l.bound l.rows k ≡ true
