-- Laws of what holds of each two members of a list.
use Rattle.std.specs.Prelude.{ℕ, zero, suc, ◌<◌, ◌≡◌, refl, List, [], ◌∷◌, ◌++◌, map, ◌⊎◌, length, get_or}
use Rattle.std.proofs.Common.{sym, ◌∙◌, inl, inr, arith, le_of_suc-le-suc}
use Rattle.sums.specs.Lists.{All, In, Pairwise}
use Rattle.sums.specs.Members.{All-map, All-both, All-append, All-in, in-All, All-at, All-from, All-of-map}

module _ {A : Type 0} where
  pub Pairwise-map : (R S : A → A → Type 0) (xs : List A) → ((x y : A) → R x y → S x y) → Pairwise R xs → Pairwise S xs
  Pairwise-map R S [] f h = tt
  Pairwise-map R S (x ∷ xs) f h = (All-map (R x) (S x) xs (f x) h.0, Pairwise-map R S xs f h.1)

  pub Pairwise-at : (R : A → A → Type 0) (xs : List A) (d : A) → Pairwise R xs → (i k : ℕ) → i < k → k < length xs → R (get_or xs i d)
      (get_or xs k d)
  Pairwise-at R [] d h i k l m = absurd (omega arith)
  Pairwise-at R (x ∷ xs) d h i zero l m = absurd (omega arith)
  Pairwise-at R (x ∷ xs) d h zero (suc k) l m = All-at (R x) xs d h.0 k (le_of_suc-le-suc m)
  Pairwise-at R (x ∷ xs) d h (suc i) (suc k) l m = Pairwise-at R xs d h.1 i k (le_of_suc-le-suc l) (le_of_suc-le-suc m)

  pub Pairwise-from : (R : A → A → Type 0) (xs : List A) (d : A) → ((i k : ℕ) → i < k → k < length xs → R (get_or xs i d) (get_or xs k d)) →
      Pairwise R xs
  Pairwise-from R [] d h = tt
  Pairwise-from R (x ∷ xs) d h = (
    All-from (R x) xs d (λ k m. h 0 (suc k) (omega arith) (omega arith)),
    Pairwise-from R xs d
        (λ i k l m. h (suc i) (suc k) (omega arith) (omega arith)),
  )

  pub Pairwise-append : (R : A → A → Type 0) (xs ys : List A) → Pairwise R xs → Pairwise R ys →
      ((x y : A) → In x xs → In y ys → R x y) → Pairwise R (xs ++ ys)
  Pairwise-append R [] ys h k f = k
  Pairwise-append R (x ∷ xs) ys h k f = (
    All-append (R x) xs ys h.0 (in-All (R x) ys (λ y i. f x y (inl refl) i)),
    Pairwise-append R xs ys h.1 k (λ a b i j. f a b (inr i) j),
  )

module _ {A B : Type 0} (f : A → B) where
  pub Pairwise-of-map : (R : B → B → Type 0) (xs : List A) → Pairwise (λ x y. R (f x) (f y)) xs → Pairwise R (map f xs)
  Pairwise-of-map R [] h = tt
  Pairwise-of-map R (x ∷ xs) h = (All-of-map f (R (f x)) xs h.0, Pairwise-of-map R xs h.1)

pub Pairwise-both : {A : Type 0} (R S : A → A → Type 0) (xs : List A) → Pairwise R xs → Pairwise S xs →
    Pairwise (λ x y. R x y × S x y) xs
Pairwise-both R S [] h k = tt
Pairwise-both R S (x ∷ xs) h k = (All-both (R x) (S x) xs h.0 k.0, Pairwise-both R S xs h.1 k.1)

module _ {A : Type 0} where
  pub Pairwise-with : (P : A → Type 0) (Q R : A → A → Type 0) (xs : List A) →
      ((x y : A) → P x → P y → Q x y → R x y) → All P xs → Pairwise Q xs → Pairwise R xs
  Pairwise-with P Q R [] f h k = tt
  Pairwise-with P Q R (x ∷ xs) f h k = (
    All-map _ (R x) xs (λ y w. f x y h.0 w.0 w.1) (All-both P (Q x) xs h.1 k.0),
    Pairwise-with P Q R xs f h.1 k.1,
  )

  -- two members are one, or one stands before the other
  pub pairs-in : (R : A → A → Type 0) (xs : List A) → Pairwise R xs → (x y : A) → In x xs → In y xs → (x ≡ y) ⊎ (R x y ⊎ R y x)
  pairs-in R [] h x y i k = absurd i
  pairs-in R (z ∷ xs) h x y (inl e) (inl f) = inl (e ∙ sym f)
  pairs-in R (z ∷ xs) h x y (inl e) (inr k) = inr (inl (rw e (All-in (R z) xs h.0 y k)))
  pairs-in R (z ∷ xs) h x y (inr i) (inl f) = inr (inr (rw f (All-in (R z) xs h.0 x i)))
  pairs-in R (z ∷ xs) h x y (inr i) (inr k) = pairs-in R xs h.1 x y i k
