use Rattle.std.proofs.Common.{ℕ, ◌+◌, ◌<◌, ◌≤◌, get_or, ◌≡◌}
use Rattle.engine.proofs.slices.raise.Given as goal

abbrev pub invariant-loop-x : goal.invariant-loop-x
invariant-loop-x l =
    ((k : ℕ) → k < l.x-index → get_or l.xs k 0 ≡ get_or l.initial.xs k 0 + l.d)
    × ((k : ℕ) → l.x-index ≤ k → get_or l.xs k 0 ≡ get_or l.initial.xs k 0)
