-- A job that may displace nobody rises by one: that keeps the state and lowers the measure.
-- It assumes that the job stands at n or lower and has less than K left.
use Rattle.std.specs.Prelude.{◌≡◌, ◌≢◌}
use Rattle.std.proofs.Math.Path.{ap}
use Rattle.std.proofs.Common.{◌∙◌}
use Prim.Native.Nat.{ℕ, suc, ◌+◌, ◌*◌, ◌-◌, ◌≤◌, ◌<◌}
use Rattle.std.proofs.Math.Nat.{mul-suc}
use Rattle.std.proofs.Math.Decide.{ℕ_discrete}
use native.Mathlib.Omega.{arith}
use Rattle.sums.specs.Sum.{sum-at}
use Rattle.amounts.specs.Flow.{Flow}
use Rattle.amounts.specs.State.{Fill, State, weight, measure, Barred}

abbrev pub risen : Fill → (ℕ → ℕ) → Fill
risen x h = record { w = x.w; slack = x.slack; left = x.left; h = h }

module _ (o : Flow) (m : ℕ) (x : Fill) (h : ℕ → ℕ) (j : ℕ) (S : State o m x) (lj : j < o.n) (low : x.h j ≤ o.n)
    (up : h j ≡ suc (x.h j)) (else : (a : ℕ) → a ≢ j → h a ≡ x.h a) where
  pub rise-state : Barred o x j 0 → State o m (risen x h)
  rise-state B =
      record {
        caps = S.caps;
        rooms = S.rooms;
        idle = S.idle;
        rows = S.rows;
        labels = λ a b t la lb lt sp has fr.
            elim (ℕ_discrete a j) [
              | yes e ↦
                  elim (ℕ_discrete b j) [
                    | yes f ↦ omega (arith, ap h e, ap h f)
                    | no f ↦
                        omega (
                          arith,
                          ap h e,
                          up,
                          ap x.h e,
                          else b f,
                          S.labels a b t la lb lt sp has fr,
                          B.none b t lb (omega arith) lt (rw e at sp) has (rw e at fr),
                        )
                  ]
              | no e ↦
                  elim (ℕ_discrete b j) [
                    | yes f ↦ omega (arith, else a e, ap h f, up, ap x.h f, S.labels a b t la lb lt sp has fr)
                    | no f ↦ omega (arith, else a e, else b f, S.labels a b t la lb lt sp has fr)
                  ]
            ];
        low = λ a la.
            elim (ℕ_discrete a j) [ yes e ↦ omega (arith, ap h e, up) | no e ↦ omega (arith, else a e, S.low a la) ];
        high = λ a la.
            elim (ℕ_discrete a j) [
              | yes e ↦ omega (arith, ap h e, up, low)
              | no e ↦ omega (arith, else a e, S.high a la)
            ];
        grounded = else o.n (λ e. omega (arith, e, lj)) ∙ S.grounded;
      }

  pub rise-less : (K : ℕ) → x.left j < K → measure K o.n (risen x h) < measure K o.n x
  unfolding measure weight
  rise-less K less =
      omega (
        arith,
        sum-at (suc o.n) j (weight K o.n x.left h) (weight K o.n x.left x.h) (omega (arith, lj))
            (λ a ne. ap (λ v. (suc o.n - v) * K + x.left a * v) (else a ne)),
        new,
        old,
      )
    where
      new : weight K o.n x.left h j ≡ (o.n - x.h j) * K + (x.left j * x.h j + x.left j)
      new = let e : suc o.n - suc (x.h j) ≡ o.n - x.h j = omega arith in rw (up, mul-suc, e)

      old : weight K o.n x.left x.h j ≡ K + (o.n - x.h j) * K + x.left j * x.h j
      old = let e : suc o.n - x.h j ≡ suc (o.n - x.h j) = omega (arith, low) in rw e (omega arith)
