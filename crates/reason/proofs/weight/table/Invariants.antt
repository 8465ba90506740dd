use Prim.Native.Nat.{ℕ, ◌<◌, ◌≤◌}
use mathlib.Core.Path.{◌≡◌}
use mathlib.Core.List.{[]}
use lib.ListN.{length, get_or}
use Rattle.sums.specs.Arrays.{RowOf}
use Rattle.reason.specs.Asked.{weight}
use Rattle.reason.proofs.weight.table.Given as goal

-- the first i classes are weighed, and the others are as they were
abbrev pub invariant-loop-i : goal.invariant-loop-i
invariant-loop-i l =
    (length l.row-items ≡ 16) × ((k : ℕ) → k < l.i → RowOf (weight l.o k) 48 (get_or l.row-items k []))
    × ((k : ℕ) → l.i ≤ k → get_or l.row-items k [] ≡ get_or l.initial.row-items k [])
