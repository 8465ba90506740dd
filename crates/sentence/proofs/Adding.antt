-- Sums in a loop.
use Prim.Native.Nat.{ℕ, ◌+◌, ◌*◌, ◌≤◌}
use mathlib.Core.Path.{◌≡◌, ap, ◌∙◌}
use native.Mathlib.Omega.{arith}
use native.Mathlib.Nat.{mul-le-mul}
use Rattle.sums.specs.Sum.{sum, sum_more}
use Rattle.order.specs.Lead.{most_reach}

-- one more, and all of them
pub sum_step : (n x v : ℕ) (f : ℕ → ℕ) → x ≡ sum n f → v ≡ f n → x + v ≡ sum (n + 1) f
sum_step n x v f e h = omega (arith, e, h, sum_more n f)

pub sum_to : (n m x : ℕ) (f : ℕ → ℕ) → x ≡ sum n f → n ≡ m → x ≡ sum m f
sum_to n m x f e h = e ∙ ap (λ (k : ℕ). sum k f) h

-- a class's processors times an end
pub hand-small : (p e : ℕ) → p ≤ 16 → e ≤ most_reach → p * e ≤ 16 * most_reach
hand-small p e h k = omega (arith, mul-le-mul h k)
