-- Searches over the numbers below a bound, for any test that is decided: the first that passes, and the highest.
-- From the first: whether f is positive from c up to e, and where it is 0 first.
use Rattle.std.specs.Prelude.{◌≡◌, ℕ, zero, suc, ◌≤◌, ◌<◌}
use Rattle.std.proofs.Common.{sym, subst, arith}
use Rattle.std.proofs.Math.Logic.Dec.{and as dec_and}
use Rattle.std.proofs.Math.Decide.{dec_le, ℕ_discrete}

-- what holds below n and at n holds below n + 1
below_suc : (Q : ℕ → Type 0) (n : ℕ) → ((i : ℕ) → i < n → Q i) → Q n → (i : ℕ) → i < suc n → Q i
below_suc Q n before here i b =
    elim (ℕ_discrete i n) [ yes e ↦ subst Q (sym e) here | no e ↦ before i (omega arith) ]

pub data First (P : ℕ → Type 0) (n : ℕ) : Type 0 where
  first : (i : ℕ) → i < n → P i → ((k : ℕ) → k < i → ¬ P k) → First P n
  none : ((i : ℕ) → i < n → ¬ P i) → First P n

pub first_below : (P : ℕ → Type 0) → ((i : ℕ) → Dec (P i)) → (n : ℕ) → First P n
first_below P test zero = none (λ i b. absurd (omega arith))
first_below P test (suc n) =
    elim (first_below P test n) [
      | first i b p f ↦ first i (omega arith) p f
      | none f ↦
          elim (test n) [
            | yes p ↦ first n (omega arith) p f
            | no r ↦ none (below_suc (λ i. ¬ P i) n f r)
          ]
    ]

-- of those that pass, one with the highest f
pub data Highest (P : ℕ → Type 0) (f : ℕ → ℕ) (n : ℕ) : Type 0 where
  highest : (j : ℕ) → j < n → P j → ((i : ℕ) → i < n → P i → f i ≤ f j) → Highest P f n
  nobody : ((i : ℕ) → i < n → ¬ P i) → Highest P f n

pub highest-below : (P : ℕ → Type 0) (f : ℕ → ℕ) → ((i : ℕ) → Dec (P i)) → (n : ℕ) → Highest P f n
highest-below P f test zero = nobody (λ i b. absurd (omega arith))
highest-below P f test (suc n) = go (test n) (highest-below P f test n)
  where
    go : Dec (P n) → Highest P f n → Highest P f (suc n)
    go (no r) (nobody z) = nobody (below_suc (λ i. ¬ P i) n z r)
    go (yes p) (nobody z) =
        highest n (omega arith) p (below_suc (λ i. P i → f i ≤ f n) n (λ i b q. absurd (z i b q)) (λ _. omega arith))
    go (no r) (highest j b p top) =
        highest j (omega arith) p (below_suc (λ i. P i → f i ≤ f j) n top (λ q. absurd (r q)))
    go (yes q) (highest j b p top) =
        elim (dec_le (f n) (f j)) [
          | yes l ↦ highest j (omega arith) p (below_suc (λ i. P i → f i ≤ f j) n top (λ _. l))
          | no l ↦
              highest n (omega arith) q
              (below_suc (λ i. P i → f i ≤ f n) n (λ i d r. omega (arith, top i d r)) (λ _. omega arith))
        ]

-- every k with c ≤ k < e has f k > 0
abbrev pub Free : (ℕ → ℕ) → ℕ → ℕ → Type 0
Free f c e = (k : ℕ) → c ≤ k → k < e → 0 < f k

-- the first zero of f from c on, or none below e
pub data Zero (f : ℕ → ℕ) (c e : ℕ) : Type 0 where
  zero-at : (k : ℕ) → c ≤ k → k < e → f k ≡ 0 → Free f c k → Zero f c e
  no_zero : Free f c e → Zero f c e

pub first-zero : (f : ℕ → ℕ) (c e : ℕ) → Zero f c e
first-zero f c e =
    elim (first_below (λ k. (c ≤ k) × (f k ≡ 0)) (λ k. dec_and (dec_le c k) (ℕ_discrete (f k) 0)) e) [
      | first k b p r ↦ zero-at k p.0 b p.1 (λ i a d. positive i (λ z. r i d (a, z)))
      | none r ↦ no_zero (λ i a d. positive i (λ z. r i d (a, z)))
    ]
  where
    positive : (i : ℕ) → ¬ (f i ≡ 0) → 0 < f i
    positive i h = omega arith

pub free-dec : (f : ℕ → ℕ) (c e : ℕ) → Dec (Free f c e)
free-dec f c e =
    elim (first-zero f c e) [ no_zero r ↦ yes r | zero-at k a b z r ↦ no (λ s. omega (arith, s k a b)) ]
