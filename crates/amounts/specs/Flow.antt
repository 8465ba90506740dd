-- Amounts and cuts: n jobs share q stretches of time, over any caps and rooms.
-- Amounts are feasible if every job gets its time, within its caps and within the rooms of the classes.
-- A cut sets a class for each stretch; feasible amounts, in any parts of a minute, leave no violating cut.
use Rattle.std.specs.Prelude.{◌≡◌, ℕ, suc, ◌+◌, ◌*◌, ◌-◌, ◌≤◌, ◌<◌}
use Rattle.std.proofs.Math.Nat.{mul-sub, le_of_mul-le-mul_left}
use Rattle.std.proofs.Math.Decide.{dec_lt}
use native.Mathlib.Omega.{arith}
use Rattle.sums.specs.Sum.{sum, sum-le, sum-add, sum-mul, sum-swap}
use Rattle.sums.specs.Gate.{gate, gate-in}

-- In the stretch s job j may have up to `cap j s` minutes, and the classes 1 to k together up to `room s k`.
pub record Flow : Type 0 where
  pub q : ℕ
  pub n : ℕ
  pub time : ℕ → ℕ
  pub class : ℕ → ℕ
  pub cap : ℕ → ℕ → ℕ
  pub room : ℕ → ℕ → ℕ

-- what the amounts a give to the classes up to k in the stretch s
abbrev pub held : Flow → (ℕ → ℕ → ℕ) → ℕ → ℕ → ℕ
held o a s k = sum o.n (λ j. gate (o.class j) (suc k) (a j s))

-- a j s is job j's amount in the stretch s, in parts, p to the minute
pub record Feasible (o : Flow) (p : ℕ) (a : ℕ → ℕ → ℕ) : Type 0 where
  pub parts : 0 < p
  pub caps : (j s : ℕ) → j < o.n → s < o.q → a j s ≤ p * o.cap j s
  pub done : (j : ℕ) → j < o.n → sum o.q (a j) ≡ p * o.time j
  pub fits : (s k : ℕ) → s < o.q → held o a s k ≤ p * o.room s k

-- what job j can have outside the cut κ: its caps where κ is below its class
unfoldable pub covered : Flow → (ℕ → ℕ) → ℕ → ℕ
covered o κ j = sum o.q (λ s. gate (κ s) (o.class j) (o.cap j s))

-- what job j must have inside the cut
abbrev pub owed_by : Flow → (ℕ → ℕ) → ℕ → ℕ
owed_by o κ j = o.time j - covered o κ j

-- what all jobs must have inside the cut, and the room that is there
unfoldable pub left : Flow → (ℕ → ℕ) → ℕ
left o κ = sum o.n (owed_by o κ)

unfoldable pub right : Flow → (ℕ → ℕ) → ℕ
right o κ = sum o.q (λ s. o.room s (κ s))

abbrev pub Violating : Flow → (ℕ → ℕ) → Type 0
Violating o κ = right o κ < left o κ

-- a violating cut of classes below m
pub record Cut (o : Flow) (m : ℕ) : Type 0 where
  pub κ : ℕ → ℕ
  pub below : (s : ℕ) → κ s < m
  pub violating : Violating o κ

-- an amount is covered, or it counts in the room
amount-parts : (k c v w p : ℕ) → v ≤ p * w → v ≤ p * gate k c w + gate c (suc k) v
amount-parts k c v w p h =
    elim (dec_lt k c) [
      | yes y ↦ rw (gate-in k c w y) (omega arith)
      | no y ↦ omega (arith, gate-in c (suc k) v (omega arith))
    ]

module _ {o : Flow} {p : ℕ} {a : ℕ → ℕ → ℕ} (F : Feasible o p a) (κ : ℕ → ℕ) where
  owed_by-inside : (j : ℕ) → j < o.n →
      p * owed_by o κ j ≤ sum o.q (λ s. gate (o.class j) (suc (κ s)) (a j s))
  unfolding covered
  owed_by-inside j b =
      rw mul-sub
      (omega (
        arith,
        F.done j b,
        sum-mul o.q p (λ s. gate (κ s) (o.class j) (o.cap j s)),
        sum-add o.q (λ s. p * gate (κ s) (o.class j) (o.cap j s)) (λ s. gate (o.class j) (suc (κ s)) (a j s)),
        sum-le o.q (a j) _ (λ s c. amount-parts (κ s) (o.class j) (a j s) (o.cap j s) p (F.caps j s b c)),
      ))

  left-≤-right : left o κ ≤ right o κ
  unfolding left right
  left-≤-right =
      le_of_mul-le-mul_left {k = p}
      (omega (
        arith,
        sum-mul o.n p (owed_by o κ),
        sum-mul o.q p (λ s. o.room s (κ s)),
        sum-le o.n _ _ owed_by-inside,
        sum-swap o.n o.q (λ j s. gate (o.class j) (suc (κ s)) (a j s)),
        sum-le o.q _ _ (λ s c. F.fits s (κ s) c),
      ))
      F.parts

  -- weak duality
  pub feasible-no-cut : ¬ Violating o κ
  feasible-no-cut v = omega (arith, left-≤-right, v)

pub cut-not-feasible : {o : Flow} {m p : ℕ} {a : ℕ → ℕ → ℕ} → Cut o m → ¬ Feasible o p a
cut-not-feasible C F = feasible-no-cut F C.κ C.violating
