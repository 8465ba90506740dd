-- What a stuck engine shows is a violating cut. X are the jobs above an empty level, κ s is a tight class in s:
-- a job of X has its whole cap where its class is above κ, another nothing where it is not, and one of X is not done.
use Rattle.std.specs.Prelude.{◌≡◌, refl, Bool, true, false, ℕ, suc, ◌+◌, ◌≤◌, ◌<◌}
use Rattle.std.proofs.Common.{◌∙◌}
use Rattle.std.proofs.Math.Decide.{dec_lt}
use native.Mathlib.Omega.{arith}
use Rattle.sums.specs.Sum.{sum, sum-cong, sum_lt, sum-add, sum-swap, sum-const}
use Rattle.sums.specs.Gate.{gate, gate-in, gate-out}
use Rattle.amounts.specs.Flow.{Flow, held, covered, owed_by, left, right, Violating}

pub record Stuck (o : Flow) (w : ℕ → ℕ → ℕ) (κ : ℕ → ℕ) (X : ℕ → Bool) : Type 0 where
  pub full : (j s : ℕ) → j < o.n → s < o.q → X j ≡ true → κ s < o.class j → w j s ≡ o.cap j s
  pub none : (j s : ℕ) → j < o.n → s < o.q → X j ≡ false → o.class j ≤ κ s → w j s ≡ 0
  pub tight : (s : ℕ) → s < o.q → held o w s (κ s) ≡ o.room s (κ s)
  pub within : (j : ℕ) → j < o.n → sum o.q (w j) ≤ o.time j
  pub who : ℕ
  pub who-job : who < o.n
  pub who-in : X who ≡ true
  pub who-left : sum o.q (w who) < o.time who

-- what job j has inside the cut
used : Flow → (ℕ → ℕ → ℕ) → (ℕ → ℕ) → ℕ → ℕ
used o w κ j = sum o.q (λ s. gate (o.class j) (suc (κ s)) (w j s))

module _ (o : Flow) (w : ℕ → ℕ → ℕ) (κ : ℕ → ℕ) (X : ℕ → Bool) (h : Stuck o w κ X) where
  -- a job of X has what is covered and what is used
  used-in : (j : ℕ) → j < o.n → X j ≡ true → sum o.q (w j) ≡ covered o κ j + used o w κ j
  unfolding used covered
  used-in j b e =
      sum-cong o.q (w j) _ term
      ∙ sum-add o.q (λ s. gate (κ s) (o.class j) (o.cap j s)) (λ s. gate (o.class j) (suc (κ s)) (w j s))
    where
      term : (s : ℕ) → s < o.q →
          w j s ≡ gate (κ s) (o.class j) (o.cap j s) + gate (o.class j) (suc (κ s)) (w j s)
      term s d =
          elim (dec_lt (κ s) (o.class j)) [
            | yes y ↦
                omega (
                  arith,
                  gate-in (κ s) (o.class j) (o.cap j s) y,
                  gate-out (o.class j) (suc (κ s)) (w j s) y,
                  h.full j s b d e y,
                )
            | no y ↦
                omega (
                  arith,
                  gate-out (κ s) (o.class j) (o.cap j s) (omega arith),
                  gate-in (o.class j) (suc (κ s)) (w j s) (omega arith),
                )
          ]

  used-out : (j : ℕ) → j < o.n → X j ≡ false → used o w κ j ≡ 0
  unfolding used
  used-out j b e =
      omega (
        arith,
        sum-const o.q 0,
        sum-cong o.q (λ s. gate (o.class j) (suc (κ s)) (w j s)) (λ _. 0) (λ s d.
            elim (dec_lt (κ s) (o.class j)) [
              | yes y ↦ gate-out (o.class j) (suc (κ s)) (w j s) y
              | no y ↦
                  omega (
                    arith,
                    gate-in (o.class j) (suc (κ s)) (w j s) (omega arith),
                    h.none j s b d e (omega arith),
                  )
            ]),
      )

  used-≤ : (j : ℕ) → j < o.n → used o w κ j ≤ owed_by o κ j
  used-≤ j b = go (X j) refl
    where
      go : (x : Bool) → X j ≡ x → used o w κ j ≤ owed_by o κ j
      go true e = omega (arith, used-in j b e, h.within j b)
      go false e = omega (arith, used-out j b e)

  pub stuck-violating : Violating o κ
  unfolding left right used
  stuck-violating =
      omega (
        arith,
        sum-cong o.q _ (λ s. o.room s (κ s)) h.tight,
        sum-swap o.q o.n (λ s j. gate (o.class j) (suc (κ s)) (w j s)),
        sum_lt o.n h.who (used o w κ) (owed_by o κ) used-≤ h.who-job
            (omega (arith, used-in h.who h.who-job h.who-in, h.who-left)),
      )
