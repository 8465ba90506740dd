use Rattle.std.proofs.Common.{ℕ, ◌+◌, ◌≤◌, ◌≡◌}
use Rattle.engine.specs.View.{Aimed}
use Rattle.engine.proofs.moves.aim.Given as goal

abbrev pub invariant-loop-i : goal.invariant-loop-i
invariant-loop-i l =
    (l.h ≡ l.below + 1)
    × ((a : ℕ) → l.i ≤ a → a ≤ l.given.n →
    ¬ Aimed l.given.class.now l.filling.w.now l.filling.height.now l.given.q l.s l.tight l.h a)
