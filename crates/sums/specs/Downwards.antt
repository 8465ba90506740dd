-- Laws of a list given downwards: what holds of its members, of each two, and what they are.
use Rattle.std.specs.Prelude.{ℕ, zero, suc, ◌+◌, ◌<◌, ◌≡◌, refl, length, get_or}
use Rattle.std.proofs.Common.{sym, ap, ◌∙◌, inl, inr, arith}
use mathlib.Core.List.{List, [], ◌∷◌, reverse, reverse_aux}
use Rattle.std.proofs.Math.Decide.{ℕ_discrete}
use Rattle.sums.specs.Lists.{All, In, Pairwise, down_to}

module _ {A : Type 0} (f : ℕ → A) where
  All-down : (P : A → Type 0) (n : ℕ) → ((i : ℕ) → i < n → P (f i)) → All P (down_to f n)
  All-down P zero h = tt
  All-down P (suc n) h = (h n (omega arith), All-down P n (λ i l. h i (omega arith)))

  pub Pairwise-down : (R : A → A → Type 0) (n : ℕ) → ((i k : ℕ) → i < k → k < n → R (f k) (f i)) → Pairwise R (down_to f n)
  Pairwise-down R zero h = tt
  Pairwise-down R (suc n) h =
      (All-down (R (f n)) n (λ i l. h i n l (omega arith)), Pairwise-down R n (λ i k l b. h i k l (omega arith)))

  pub down-in : (n : ℕ) (z : A) → In z (down_to f n) → (i : ℕ) × (i < n) × (z ≡ f i)
  down-in zero z i = absurd i
  down-in (suc n) z (inl e) = (n, omega arith, e)
  down-in (suc n) z (inr i) = let r = down-in n z i in (r.0, omega (arith, r.1), r.2)

  pub in-down : (n i : ℕ) → i < n → In (f i) (down_to f n)
  in-down zero i l = absurd (omega arith)
  in-down (suc n) i l =
      elim (ℕ_discrete i n) [ yes e ↦ inl (ap f e) | no e ↦ inr (in-down n i (omega arith)) ]

  pub length-down : (n : ℕ) → length (down_to f n) ≡ n
  length-down zero = refl
  length-down (suc n) = ap suc (length-down n)

-- a list given downwards, turned round: behind its n entries stands what is put before
module _ {A : Type 0} (f : ℕ → A) (d : A) where
  behind : (n k : ℕ) (rs : List A) → get_or (reverse_aux (down_to f n) rs) (n + k) d ≡ get_or rs k d
  behind zero k rs = ap (λ (i : ℕ). get_or rs i d) (omega arith)
  behind (suc n) k rs =
      ap (λ (i : ℕ). get_or (reverse_aux (down_to f n) (f n ∷ rs)) i d) (omega arith) ∙ behind n (suc k) (f n ∷ rs)

  upwards : (n s : ℕ) (rs : List A) → s < n → get_or (reverse_aux (down_to f n) rs) s d ≡ f s
  upwards zero s rs l = absurd (omega arith)
  upwards (suc n) s rs l =
      elim (ℕ_discrete s n) [
        | yes e ↦
            ap (λ (i : ℕ). get_or (reverse_aux (down_to f n) (f n ∷ rs)) i d) (omega arith)
            ∙ (behind n 0 (f n ∷ rs) ∙ ap f (sym e))
        | no e ↦ upwards n s (f n ∷ rs) (omega arith)
      ]

  pub down-reversed : (n s : ℕ) → s < n → get_or (reverse (down_to f n)) s d ≡ f s
  down-reversed n s l = upwards n s [] l
