-- Where no class is above S, rooms beyond S are not needed: feasible amounts fit in rooms that grow no more from S on.
use Rattle.std.specs.Prelude.{ℕ, suc, ◌*◌, ◌≤◌, ◌<◌, min, ◌≡◌}
use Rattle.std.proofs.Common.{ap, sym, ◌∙◌, arith}
use Rattle.std.proofs.Math.Decide.{dec_le}
use Rattle.sums.specs.Sum.{sum-cong}
use Rattle.sums.specs.Gate.{gate-in}
use Rattle.amounts.specs.Flow.{held, Feasible}
use Rattle.amounts.specs.Same.{flow}

module _ (n q : ℕ) (time class : ℕ → ℕ) (cap room : ℕ → ℕ → ℕ) (S : ℕ) (high : (j : ℕ) → j < n → class j ≤ S) where
  held-at-top : (a : ℕ → ℕ → ℕ) (s k : ℕ) → S ≤ k →
      held (flow n q time class cap room) a s k ≡ held (flow n q time class cap room) a s S
  held-at-top a s k b =
      sum-cong n _ _ (λ j l.
      gate-in (class j) (suc k) (a j s) (omega (arith, high j l))
      ∙ sym (gate-in (class j) (suc S) (a j s) (omega (arith, high j l))))

  pub feasible-at-top : (p : ℕ) (a : ℕ → ℕ → ℕ) → Feasible (flow n q time class cap room) p a →
      Feasible (flow n q time class cap (λ s k. room s (min k S))) p a
  feasible-at-top p a F =
      record {
        parts = F.parts;
        caps = F.caps;
        done = F.done;
        fits = λ s k b.
            elim (dec_le k S) [
              | yes l ↦
                  let e : min k S ≡ k = omega arith in
                  omega (arith, F.fits s k b, ap (λ (i : ℕ). p * room s i) e)
              | no l ↦
                  let e : min k S ≡ S = omega arith in
                  omega (arith, F.fits s S b, held-at-top a s k (omega arith), ap (λ (i : ℕ). p * room s i) e)
            ];
      }
