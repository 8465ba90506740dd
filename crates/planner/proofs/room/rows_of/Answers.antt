use Prim.Native.Nat.{ℕ, ◌+◌, ◌-◌, ◌*◌, ◌≤◌}
use native.Mathlib.Nat.{mul-le-mul}
use native.Mathlib.Omega.{arith}
use mathlib.Core.Path.{refl}
use Rattle.planner.proofs.room.rows_of.Goals as goal

few : (q n m : ℕ) → q ≤ 48 → n ≤ 48 → m ≤ 16 → q * (n + m - 1) ≤ 3024
few q n m a b c = mul-le-mul {n₂ = 48} {m₂ = 63} a (omega arith)

pub overflow_mul-result : goal.overflow_mul-result
overflow_mul-result c = omega (arith, few _ _ _ c.requires.0 c.requires.2 c.requires.3)

pub returns : goal.returns
returns c = (refl, few _ _ _ c.requires.0 c.requires.2 c.requires.3)
