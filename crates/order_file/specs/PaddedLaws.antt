-- A column of an array, filled from the front: at first every place holds the same, then one place more is stored.
use Prim.Native.Nat.{ℕ, zero, suc, ◌+◌, ◌≤◌, ◌<◌}
use Rattle.std.specs.Prelude.{◌≡◌, set, replicate}
use Rattle.std.proofs.Math.Path.{refl, sym, ap}
use Rattle.std.proofs.Common.{◌∙◌, arith, le_of_suc-le-suc, add-one}
use mathlib.Core.List.{List, ◌∷◌}
use Rattle.std.proofs.Math.Decide.{dec_lt}
use Rattle.std.proofs.Math.ListN.{get_or, get_or-eq_default}
use Rattle.sums.specs.Lists.{tabulate}
use Rattle.sums.specs.Places.{length-tabulate, tabulate-cong, get_d_tabulate}
use Rattle.order_file.specs.Inside.{padded_to}

module _ {A : Type 0} where
  padded-suc : (k i : ℕ) (d : A) (f : ℕ → A) → i < k → set (padded_to k i d f) i (f i) ≡ padded_to k (suc i) d f
  unfolding padded_to
  padded-suc zero i d f l = absurd (omega arith)
  padded-suc (suc k) zero d f l = refl
  padded-suc (suc k) (suc i) d f l = ap (λ (xs : List A). f 0 ∷ xs) (padded-suc k i d (λ j. f (suc j)) (le_of_suc-le-suc l))

  -- at first every place holds the same
  pub padded-none : (k : ℕ) (d : A) (f : ℕ → A) → replicate k d ≡ padded_to k 0 d f
  unfolding padded_to
  padded-none zero d f = refl
  padded-none (suc k) d f = ap (λ (xs : List A). d ∷ xs) (padded-none k d f)

  -- the next place is stored
  pub padded-more : (k i : ℕ) (d : A) (f : ℕ → A) (out : List A) (v : A) → i < k → out ≡ padded_to k i d f → v ≡ f i →
      set out i v ≡ padded_to k (i + 1) d f
  padded-more k i d f out v l e p = rw (e, p, add-one i) (padded-suc k i d f l)

  pub padded-cong : (k n : ℕ) (d : A) (f g : ℕ → A) → ((i : ℕ) → i < n → f i ≡ g i) → padded_to k n d f ≡ padded_to k n d g
  unfolding padded_to
  padded-cong k n d f g h = ap (λ (xs : List A). tabulate k (λ i. get_or xs i d)) (tabulate-cong n f g h)

  -- the places before n
  pub padded-at : (k n : ℕ) (d : A) (f : ℕ → A) (i : ℕ) → i < n → n ≤ k → get_or (padded_to k n d f) i d ≡ f i
  unfolding padded_to
  padded-at k n d f i l h = get_d_tabulate k _ d i (omega arith) ∙ get_d_tabulate n f d i l

  -- where nothing but d stands behind the first n, the whole list
  pub padded-whole : (k n : ℕ) (d : A) (f : ℕ → A) → ((i : ℕ) → n ≤ i → i < k → f i ≡ d) → padded_to k n d f ≡ tabulate k f
  unfolding padded_to
  padded-whole k n d f behind =
      tabulate-cong k (λ i. get_or (tabulate n f) i d) f (λ i l. elim (dec_lt i n) [
        | yes b ↦ get_d_tabulate n f d i b
        | no b ↦ get_or-eq_default (tabulate n f) d (omega (arith, length-tabulate n f)) ∙ sym (behind i (omega arith) l)
      ])
