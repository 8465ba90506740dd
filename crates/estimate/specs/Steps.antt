-- Numbers that go up by one or stay at each step: none is passed over on the way, and each is first met where those before are below it.
use Rattle.std.specs.Prelude.{ℕ, zero, suc, ◌≤◌, ◌<◌, ◌≡◌}
use Rattle.std.proofs.Common.{ap, arith}
use Rattle.std.proofs.Math.Decide.{dec_le, ℕ_discrete}

abbrev pub Steps : (ℕ → ℕ) → Type 0
Steps f = (k : ℕ) → (f k ≤ f (suc k)) × (f (suc k) ≤ suc (f k))

module _ (f : ℕ → ℕ) (steps : Steps f) where
  -- they never fall
  pub steps-rise : (i k : ℕ) → i ≤ k → f i ≤ f k
  steps-rise i zero h = let e : i ≡ 0 = omega arith in omega (arith, ap f e)
  steps-rise i (suc k) h =
      elim (ℕ_discrete i (suc k)) [
        | yes e ↦ omega (arith, ap f e)
        | no e ↦ omega (arith, (steps k).0, steps-rise i k (omega arith))
      ]

  -- where a number is first reached it is met
  pub reached-met : (x k : ℕ) → f 0 ≤ x → x ≤ f k → ((i : ℕ) → i < k → f i < x) → f k ≡ x
  reached-met x zero low at before = omega arith
  reached-met x (suc k) low at before = omega (arith, before k (omega arith), (steps k).1)

  -- each number from the first to that at n is met by then, and all before are below it
  pub each-met : (x n : ℕ) → f 0 ≤ x → x ≤ f n → (k : ℕ) × (k ≤ n) × (f k ≡ x) × ((i : ℕ) → i < k → f i < x)
  each-met x zero low high = (0, omega arith, omega arith, λ i l. absurd (omega arith))
  each-met x (suc n) low high =
      elim (dec_le x (f n)) [
        | yes h ↦ let r = each-met x n low h in (r.0, omega (arith, r.1), r.2, r.3)
        | no h ↦ (suc n, omega arith, omega (arith, (steps n).1), λ i l. omega (arith, steps-rise i n (omega arith)))
      ]
