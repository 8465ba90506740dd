-- Arrays: a list filled up with 0s, the first entries of a row, a list that is filled from the front.
use Rattle.std.specs.Prelude.{ℕ, zero, suc, ◌+◌, ◌≤◌, ◌<◌, ◌≡◌, refl, List, [], ◌∷◌, ◌++◌, length, get_or, set, replicate}
use Rattle.std.proofs.Common.{ap, arith, below_more as more-below, get_or-set_same, get_or-set_other}
use Rattle.std.proofs.lemmas.List.{get_or-replicate}

-- a list of n numbers: xs, and then 0s
unfoldable pub pad : ℕ → List ℕ → List ℕ
pad zero xs = []
pad (suc n) [] = 0 ∷ pad n []
pad (suc n) (x ∷ xs) = x ∷ pad n xs

-- the first n entries of a row are those of f
pub record RowOf (f : ℕ → ℕ) (n : ℕ) (r : List ℕ) : Type 0 where
  pub at : (d : ℕ) → d < n → get_or r d 0 ≡ f d

pub set-pad : (n : ℕ) (xs : List ℕ) (d : ℕ) → length xs < n → set (pad n xs) (length xs) d ≡ pad n (xs ++ (d ∷ []))
unfolding pad
set-pad zero xs d h = absurd (omega arith)
set-pad (suc n) [] d h = refl
set-pad (suc n) (x ∷ xs) d h = ap (λ (l : List ℕ). x ∷ l) (set-pad n xs d (omega arith))

pub get_or-pad : (n d : ℕ) (xs : List ℕ) → d < length xs → length xs ≤ n → get_or (pad n xs) d 0 ≡ get_or xs d 0
unfolding pad
get_or-pad n d [] h l = absurd (omega arith)
get_or-pad zero d (x ∷ xs) h l = absurd (omega arith)
get_or-pad (suc n) zero (x ∷ xs) h l = refl
get_or-pad (suc n) (suc d) (x ∷ xs) h l = get_or-pad n d xs (omega arith) (omega arith)

-- what holds of each element below i, and of v, holds of each below i + 1 after v is stored at i
module _ {A : Type 0} (P : ℕ → A → Type 0) (d : A) where
  pub fill-at : (xs : List A) (i : ℕ) (v : A) → i < length xs → ((k : ℕ) → k < i → P k (get_or xs k d)) → P i v → (k : ℕ) →
      k < i + 1 → P k (get_or (set xs i v) k d)
  fill-at xs i v h old new =
      more-below (λ (k : ℕ). P k (get_or (set xs i v) k d)) i
      (λ k l. rw (get_or-set_other xs i k v d (λ e. omega arith)) (old k l))
      (rw (get_or-set_same xs i v d h) new)

pub zeros-at : (e : ℕ) → e < 48 → ◌≡◌ {A = ℕ} (get_or (replicate 48 0) e 0) 0
zeros-at e h = get_or-replicate 48 e 0 0 h
