use Prim.Native.Nat.{ℕ, ◌<◌, ◌≤◌}
use mathlib.Core.Path.{◌≡◌}
use lib.ListN.{length, get_or}
use Rattle.sums.specs.Arrays.{RowOf}
use Rattle.order.specs.Order.{job_of}
use Rattle.order.specs.Class.{class_of}
use Rattle.order.specs.Table.{order_of}
use Rattle.table.specs.Held.{number_at}
use Rattle.table.proofs.NeedsFall.{need_at}
use Rattle.table.proofs.class.classes_of_jobs.Given as goal

abbrev pub invariant-loop-k : goal.invariant-loop-k
invariant-loop-k l =
    (length l.r ≡ 48) × RowOf (λ k. class_of (order_of l.order) (job_of (order_of l.order) (number_at (order_of l.order) k))) l.k l.r
    × (l.class ≤ l.classes.count) × ((i j : ℕ) → i < l.class → l.k ≤ j → j < l.n → need_at l.order j ≤ get_or l.classes.memories i 0)
