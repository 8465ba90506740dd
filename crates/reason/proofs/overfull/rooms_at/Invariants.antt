use Prim.Native.Nat.{suc, ◌*◌}
use mathlib.Core.Path.{◌≡◌}
use lib.ListN.{length}
use Rattle.sums.specs.Arrays.{RowOf}
use Rattle.reason.specs.Asked.{procs_to}
use Rattle.reason.proofs.overfull.rooms_at.Given as goal

-- the processors of the first k classes, and the rooms up to k
abbrev pub invariant-loop-k : goal.invariant-loop-k
invariant-loop-k l =
    (length l.room-items ≡ 16) × (l.procs ≡ procs_to l.o l.k) × RowOf (λ k. procs_to l.o (suc k) * l.reach) l.k l.room-items
