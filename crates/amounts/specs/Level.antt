-- n jobs, one of them above the level n: one of the levels 1 to n is empty. It assumes nothing else of the heights.
-- Counted: a job stands on at most one level, and that one on none of the n.
use Rattle.std.specs.Prelude.{◌≢◌}
use Prim.Native.Nat.{ℕ, suc, ◌-◌, ◌≤◌, ◌<◌}
use Rattle.std.proofs.Math.Decide.{dec_lt}
use native.Mathlib.Omega.{arith}
use Rattle.sums.specs.Sum.{sum, sum-cong, sum-le, sum_lt, sum-const, sum-swap, sum-ge, sum-only}
use Rattle.sums.specs.Gate.{at, at_in, at_out}
use Rattle.amounts.specs.Below.{zero-at, no_zero, first-zero}

module _ (n : ℕ) (h : ℕ → ℕ) where
  -- 1 where job j stands on the level g + 1
  stands : ℕ → ℕ → ℕ
  stands g j = at (h j) (suc g) 1

  stands-once : (j : ℕ) → sum n (λ g. stands g j) ≤ 1
  unfolding stands
  stands-once j =
      elim (dec_lt 0 (h j)) [
        | yes p ↦
            omega (
              arith,
              sum-only n (h j - 1) (λ g. stands g j) (λ g ne. at_out (h j) (suc g) 1 (omega arith)),
              at_in (h j) (suc (h j - 1)) 1 (omega arith),
            )
        | no p ↦
            omega (
              arith,
              sum-const n 0,
              sum-cong n (λ g. stands g j) (λ _. 0) (λ g _. at_out (h j) (suc g) 1 (omega arith)),
            )
      ]

  module _ (j₀ : ℕ) (b : j₀ < n) (high : n < h j₀) where
    pub level-empty : (g : ℕ) × (0 < g) × (g ≤ n) × ((j : ℕ) → j < n → h j ≢ g)
    unfolding stands
    level-empty =
        elim (first-zero (λ g. sum n (stands g)) 0 n) [
          | zero-at g _ c e _ ↦ (
            suc g,
            omega arith,
            c,
            λ j d x. omega (arith, e, sum-ge n j (stands g) d, at_in (h j) (suc g) 1 x),
          )
          | no_zero all ↦
              absurd (omega (
                arith,
                sum-const n 1,
                sum-le n (λ _. 1) (λ g. sum n (stands g)) (λ g c. all g (omega arith) c),
                sum-swap n n stands,
                sum_lt n j₀ (λ j. sum n (λ g. stands g j)) (λ _. 1) (λ j _. stands-once j) b
                    (omega (
                      arith,
                      sum-const n 0,
                      sum-cong n (λ g. stands g j₀) (λ _. 0) (λ g c. at_out (h j₀) (suc g) 1 (omega arith)),
                    )),
              ))
        ]
