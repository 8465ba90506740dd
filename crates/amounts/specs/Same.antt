-- Two flows whose numbers agree where they count have the same violating cuts and the same feasible amounts.
-- They count for the n jobs and the q stretches; rooms, for a cut, at the classes below m.
use Rattle.std.specs.Prelude.{◌≡◌, ℕ, suc, ◌*◌, ◌≤◌, ◌<◌}
use Rattle.std.proofs.Common.{ap, ◌∙◌, mul-le-mul_left}
use native.Mathlib.Omega.{arith}
use Rattle.sums.specs.Sum.{sum-cong}
use Rattle.sums.specs.Gate.{gate}
use Rattle.amounts.specs.Flow.{Flow, covered, owed_by, left, right, Violating, Feasible}

abbrev pub flow : ℕ → ℕ → (ℕ → ℕ) → (ℕ → ℕ) → (ℕ → ℕ → ℕ) → (ℕ → ℕ → ℕ) → Flow
flow n q time class cap room = record { q = q; n = n; time = time; class = class; cap = cap; room = room }

module _ (n q : ℕ) (time time' class class' : ℕ → ℕ) (cap cap' room room' : ℕ → ℕ → ℕ)
    (et : (j : ℕ) → j < n → time j ≡ time' j) (ec : (j : ℕ) → j < n → class j ≡ class' j)
    (ea : (j s : ℕ) → j < n → s < q → cap j s ≡ cap' j s) where
  abbrev here : Flow
  here = flow n q time class cap room

  abbrev there : Flow
  there = flow n q time' class' cap' room'

  same-covered : (κ : ℕ → ℕ) (j : ℕ) → j < n → covered here κ j ≡ covered there κ j
  unfolding covered
  same-covered κ j l = sum-cong q _ _ (λ s b. cc (ec j l, ea j s l b))

  pub same-violating : (m : ℕ) → ((s k : ℕ) → s < q → k < m → room s k ≡ room' s k) →
      (κ : ℕ → ℕ) → ((s : ℕ) → s < q → κ s < m) → Violating here κ → Violating there κ
  unfolding left right
  same-violating m er κ low v =
      omega (
        arith,
        v,
        sum-cong n (owed_by here κ) (owed_by there κ) (λ j l. cc (et j l, same-covered κ j l)),
        sum-cong q (λ s. room s (κ s)) (λ s. room' s (κ s)) (λ s b. er s (κ s) b (low s b)),
      )

  -- and with rooms that are no smaller
  pub same-feasible : ((s k : ℕ) → s < q → room s k ≤ room' s k) →
      (p : ℕ) (a : ℕ → ℕ → ℕ) → Feasible here p a → Feasible there p a
  same-feasible le p a F =
      record {
        parts = F.parts;
        caps = λ j s l b. rw (ea j s l b) at (F.caps j s l b);
        done = λ j l. F.done j l ∙ ap (λ t. p * t) (et j l);
        fits = λ s k b.
            omega (
              arith,
              F.fits s k b,
              mul-le-mul_left p (le s k b),
              sum-cong n (λ j. gate (class j) (suc k) (a j s)) (λ j. gate (class' j) (suc k) (a j s))
                  (λ j l. ap (λ c. gate c (suc k) (a j s)) (ec j l)),
            );
      }
