-- The number of a processor's last row among rows, and rows of which one is lengthened.
use Prim.Native.Nat.{ℕ, zero, suc, ◌+◌, ◌*◌, ◌≤◌, ◌<◌}
use mathlib.Core.Path.{◌≡◌, refl, ap}
use mathlib.Core.Bool.{Bool}
use mathlib.Core.List.{List, [], ◌∷◌, ◌++◌}
use mathlib.Core.Logic.{◌⊎◌, ◌≢◌, inl, inr}
use native.Mathlib.Omega.{arith}
use native.Mathlib.Decide.{ℕ_discrete, dec_lt}
use borrow.Author.Tests.{eq-eqb, ne_eqb, lt-ltb, le-ltb}
use lib.Dec.{eqb}
use lib.ListN.{length, set}
use Rattle.sums.specs.Lists.{All, In, only}
use Rattle.plan.specs.Plan.{Row}
use Rattle.plan.specs.Check.{numbers_of}
use Rattle.plan.specs.Join.{lengthened}
use Rattle.layout.specs.Sheet.{last_of}

-- a row before others is the last of its processor only where these have none
pub last-case : (r : Row) (rows : List Row) (i : ℕ) →
    ((1 ≤ last_of rows i) × (last_of (r ∷ rows) i ≡ suc (last_of rows i)))
    ⊎ ((last_of rows i ≡ 0) × (last_of (r ∷ rows) i ≡ only (eqb r.processor i) 1))
unfolding last_of
last-case r rows i =
    elim (dec_lt 0 (last_of rows i)) [
      | yes l ↦ inl (l, rw (lt-ltb 0 (last_of rows i) l) refl)
      | no l ↦ inr (omega arith, rw (le-ltb 0 (last_of rows i) (omega arith)) refl)
    ]

-- a processor with a last row has a row, and one with none has none
pub last_some : (rows : List Row) (i : ℕ) → 1 ≤ last_of rows i → (r : Row) × In r rows × (r.processor ≡ i)
unfolding last_of
last_some [] i h = absurd (omega arith)
last_some (r ∷ rows) i h =
    elim (last-case r rows i) [
      | inl c ↦ let k = last_some rows i c.0 in (k.0, inr k.1, k.2)
      | inr c ↦
          elim (ℕ_discrete r.processor i) [
            | yes e ↦ (r, inl refl, e)
            | no ne ↦ absurd (omega (arith, c.1, ap (λ (b : Bool). only b 1) (ne_eqb r.processor i ne)))
          ]
    ]

pub last_none : (rows : List Row) (i : ℕ) → last_of rows i ≡ 0 → All (λ (r : Row). r.processor ≢ i) rows
unfolding last_of
last_none [] i h = tt
last_none (r ∷ rows) i h =
    elim (last-case r rows i) [
      | inl c ↦ absurd (omega (arith, c.1))
      | inr c ↦ (
        (λ e. omega (arith, c.1, ap (λ (b : Bool). only b 1) (eq-eqb r.processor i e))),
        last_none rows i c.0,
      )
    ]

-- behind all rows, a row is the last of its processor
pub last-behind : (rows : List Row) (x : Row) (i : ℕ) →
    ((x.processor ≡ i) × (last_of (rows ++ (x ∷ [])) i ≡ length rows + 1))
    ⊎ ((x.processor ≢ i) × (last_of (rows ++ (x ∷ [])) i ≡ last_of rows i))
unfolding last_of
last-behind [] x i =
    elim (ℕ_discrete x.processor i) [
      | yes e ↦ inl (e, rw (eq-eqb x.processor i e) refl)
      | no ne ↦ inr (ne, rw (ne_eqb x.processor i ne) refl)
    ]
last-behind (r ∷ rows) x i =
    elim (last-behind rows x i) [
      | inl c ↦ inl (c.0, rw (c.1, lt-ltb 0 (length rows + 1) (omega arith)) (omega arith))
      | inr c ↦ inr (c.0, rw c.1 refl)
    ]

-- the row at a place with another end
unfoldable pub lengthen_at : List Row → ℕ → ℕ → List Row
lengthen_at [] k to = []
lengthen_at (r ∷ rows) zero to = lengthened r to ∷ rows
lengthen_at (r ∷ rows) (suc k) to = r ∷ lengthen_at rows k to

pub lengthen-length : (rows : List Row) (k to : ℕ) → length (lengthen_at rows k to) ≡ length rows
unfolding lengthen_at
lengthen-length [] k to = refl
lengthen-length (r ∷ rows) zero to = refl
lengthen-length (r ∷ rows) (suc k) to = ap suc (lengthen-length rows k to)

pub lengthen-last : (rows : List Row) (k to i : ℕ) → last_of (lengthen_at rows k to) i ≡ last_of rows i
unfolding lengthen_at last_of
lengthen-last [] k to i = refl
lengthen-last (r ∷ rows) zero to i = refl
lengthen-last (r ∷ rows) (suc k) to i = rw (lengthen-last rows k to i) refl

pub lengthen-numbers : (rows : List Row) (k to : ℕ) → k < length rows →
    numbers_of (lengthen_at rows k to) ≡ set (numbers_of rows) (4 * k + 3) to
unfolding lengthen_at numbers_of
lengthen-numbers [] k to l = absurd (omega arith)
lengthen-numbers (r ∷ rows) zero to l = refl
lengthen-numbers (r ∷ rows) (suc k) to l =
    let e : 4 * suc k + 3 ≡ suc (suc (suc (suc (4 * k + 3)))) = omega arith in
    rw e
    (ap (λ (xs : List ℕ). r.job ∷ r.processor ∷ r.from ∷ r.to ∷ xs) (lengthen-numbers rows k to (omega arith)))
