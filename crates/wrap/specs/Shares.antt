-- The shares of a stretch: of the jobs in an order, those with an amount. They are the jobs' amounts, none is empty, and
-- where the jobs stand by class each ends within the room of its class.
use Prim.Native.Nat.{ℕ, suc, ◌+◌, ◌*◌, ◌≤◌, ◌<◌}
use Rattle.std.specs.Prelude.{◌≡◌, Bool, cond, ◌≢◌, leb}
use Rattle.std.proofs.Math.Path.{refl, ap, subst}
use Rattle.std.proofs.Math.Bool.{true, false}
use mathlib.Core.List.{List, [], ◌∷◌}
use native.Mathlib.Omega.{arith}
use borrow.Author.Tests.{ltb-true, ltb-false, le-leb}
use Rattle.std.proofs.Math.Dec.{ltb}
use Rattle.std.proofs.Math.ListN.{length}
use Rattle.sums.specs.Lists.{All, Pairwise, total, only}
use Rattle.sums.specs.Members.{All-map, All-both}
use Rattle.wrap.specs.Layout.{Share, shares_of}
use Rattle.wrap.specs.FilledPlaces.{Roomy}

-- the share of a job
abbrev pub share : (job minutes : ℕ) → Share
share job minutes = record { job = job; minutes = minutes }

module _ (a : ℕ → ℕ → ℕ) (s : ℕ) where
  -- what holds of each job with an amount holds of each share
  pub shares-all : (P : ℕ → Type 0) (Q : Share → Type 0) (js : List ℕ) →
      ((j : ℕ) → P j → 0 < a j s → Q (share j (a j s))) → All P js → All Q (shares_of a s js)
  unfolding shares_of
  shares-all P Q [] f h = tt
  shares-all P Q (j ∷ js) f h = go (ltb 0 (a j s)) refl (shares-all P Q js f h.1)
    where
      go : (b : Bool) → ltb 0 (a j s) ≡ b → All Q (shares_of a s js) →
          All Q (cond b (share j (a j s) ∷ shares_of a s js) (shares_of a s js))
      go true e r = (f j h.0 (ltb-true 0 (a j s) e), r)
      go false e r = r

  -- each job has one share
  pub shares-distinct : (js : List ℕ) → Pairwise (λ x y. x ≢ y) js →
      Pairwise (λ (x y : Share). x.job ≢ y.job) (shares_of a s js)
  unfolding shares_of
  shares-distinct [] h = tt
  shares-distinct (j ∷ js) h =
      go (ltb 0 (a j s)) (shares-all (λ i. j ≢ i) (λ (x : Share). j ≢ x.job) js (λ i ne l. ne) h.0)
      (shares-distinct js h.1)
    where
      go : (b : Bool) → All (λ (x : Share). j ≢ x.job) (shares_of a s js) →
          Pairwise (λ (x y : Share). x.job ≢ y.job) (shares_of a s js) →
          Pairwise (λ (x y : Share). x.job ≢ y.job) (cond b (share j (a j s) ∷ shares_of a s js) (shares_of a s js))
      go true k r = (k, r)
      go false k r = r

  -- a sum over the shares is one over the jobs, where no minutes count nothing
  pub shares-total : (g : ℕ → ℕ → ℕ) → ((j : ℕ) → g j 0 ≡ 0) → (js : List ℕ) →
      total (shares_of a s js) (λ (x : Share). g x.job x.minutes) ≡ total js (λ j. g j (a j s))
  unfolding shares_of
  shares-total g none [] = refl
  shares-total g none (j ∷ js) = go (ltb 0 (a j s)) refl (shares-total g none js)
    where
      go : (b : Bool) → ltb 0 (a j s) ≡ b →
          total (shares_of a s js) (λ (x : Share). g x.job x.minutes) ≡ total js (λ j. g j (a j s)) →
          total (cond b (share j (a j s) ∷ shares_of a s js) (shares_of a s js)) (λ (x : Share). g x.job x.minutes)
          ≡ g j (a j s) + total js (λ j. g j (a j s))
      go true e r = omega arith
      go false e r =
          let z : a j s ≡ 0 = omega (arith, ltb-false 0 (a j s) e) in
          omega (arith, ap (g j) z, none j)

  pub shares-few : (js : List ℕ) → length (shares_of a s js) ≤ length js
  unfolding shares_of
  shares-few [] = omega arith
  shares-few (j ∷ js) = go (ltb 0 (a j s)) (shares-few js)
    where
      go : (b : Bool) → length (shares_of a s js) ≤ length js →
          length (cond b (share j (a j s) ∷ shares_of a s js) (shares_of a s js)) ≤ suc (length js)
      go true r = omega arith
      go false r = omega arith

  -- behind S minutes: the jobs up to each one's class have room, and they stand by class
  pub shares-roomy : (class : ℕ → ℕ) (span : ℕ) (room : ℕ → ℕ) (js : List ℕ) (S : ℕ) →
      Pairwise (λ i j. class i ≤ class j) js →
      All (λ i. S + total js (λ j. only (leb (class j) (class i)) (a j s)) ≤ room i * span) js →
      Roomy span room S (shares_of a s js)
  unfolding shares_of
  shares-roomy class span room [] S p h = tt
  shares-roomy class span room (j ∷ js) S p h =
      go (ltb 0 (a j s)) refl (shares-roomy class span room js (S + a j s) p.1
      (All-map _ _ js
      (λ i k. omega (arith, k.1, ap (λ (b : Bool). only b (a j s)) (le-leb (class j) (class i) k.0)))
      (All-both _ _ js p.0 h.1)))
    where
      go : (b : Bool) → ltb 0 (a j s) ≡ b → Roomy span room (S + a j s) (shares_of a s js) →
          Roomy span room S (cond b (share j (a j s) ∷ shares_of a s js) (shares_of a s js))
      go true e r = (
        ltb-true 0 (a j s) e,
        omega (arith, h.0, ap (λ (b : Bool). only b (a j s)) (le-leb (class j) (class j) (omega arith))),
        r,
      )
      go false e r =
          let same : S + a j s ≡ S = omega (arith, ltb-false 0 (a j s) e) in
          subst (λ (z : ℕ). Roomy span room z (shares_of a s js)) same r
