use Rattle.std.proofs.Common.{◌≡◌, ℕ, Bool, false, ◌<◌}
use Rattle.order.proofs.accept.first_number.Given as goal

abbrev pub invariant-loop-j : goal.invariant-loop-j
invariant-loop-j g l =
    (P : ℕ → Bool) → ((j : ℕ) (b : Bool) → j < l.n → goal.F-post g l.test j b → b ≡ P j) → (k : ℕ) → k < l.j → P k ≡ false
