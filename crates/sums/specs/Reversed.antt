-- Laws of a list turned round.
use Rattle.std.specs.Prelude.{ℕ, ◌+◌, ◌≡◌, ◌⊎◌}
use mathlib.Core.List.{List, [], ◌∷◌, reverse, reverse_aux}
use Rattle.std.proofs.Common.{inl, inr, arith}
use Rattle.sums.specs.Lists.{All, In, Pairwise, total}
use Rattle.sums.specs.Members.{All-both, in-All}

module _ {A : Type 0} where
  All-reverse_aux : (P : A → Type 0) (xs rs : List A) → All P xs → All P rs → All P (reverse_aux xs rs)
  All-reverse_aux P [] rs h k = k
  All-reverse_aux P (x ∷ xs) rs h k = All-reverse_aux P xs (x ∷ rs) h.1 (h.0, k)

  pub All-reverse : (P : A → Type 0) (xs : List A) → All P xs → All P (reverse xs)
  All-reverse P xs h = All-reverse_aux P xs [] h tt

  in-reverse_aux : (x : A) (xs rs : List A) → In x xs ⊎ In x rs → In x (reverse_aux xs rs)
  in-reverse_aux x [] rs (inl i) = absurd i
  in-reverse_aux x [] rs (inr i) = i
  in-reverse_aux x (y ∷ ys) rs (inl (inl e)) = in-reverse_aux x ys (y ∷ rs) (inr (inl e))
  in-reverse_aux x (y ∷ ys) rs (inl (inr i)) = in-reverse_aux x ys (y ∷ rs) (inl i)
  in-reverse_aux x (y ∷ ys) rs (inr i) = in-reverse_aux x ys (y ∷ rs) (inr (inr i))

  pub in-reverse : (xs : List A) (x : A) → In x xs → In x (reverse xs)
  in-reverse xs x i = in-reverse_aux x xs [] (inl i)

  Pairwise-reverse_aux : (R : A → A → Type 0) (xs rs : List A) → Pairwise R xs → Pairwise (λ x y. R y x) rs →
      All (λ x. All (λ r. R r x) rs) xs → Pairwise (λ x y. R y x) (reverse_aux xs rs)
  Pairwise-reverse_aux R [] rs h k c = k
  Pairwise-reverse_aux R (x ∷ xs) rs h k c =
      Pairwise-reverse_aux R xs (x ∷ rs) h.1 (c.0, k) (All-both (R x) (λ y. All (λ r. R r y) rs) xs h.0 c.1)

  pub Pairwise-reverse : (R : A → A → Type 0) (xs : List A) → Pairwise R xs → Pairwise (λ x y. R y x) (reverse xs)
  Pairwise-reverse R xs h = Pairwise-reverse_aux R xs [] h tt (in-All _ xs (λ x i. tt))

  total-reverse_aux : (xs rs : List A) (f : A → ℕ) → total (reverse_aux xs rs) f ≡ total xs f + total rs f
  total-reverse_aux [] rs f = omega arith
  total-reverse_aux (x ∷ xs) rs f = omega (arith, total-reverse_aux xs (x ∷ rs) f)

  pub total-reverse : (xs : List A) (f : A → ℕ) → total (reverse xs) f ≡ total xs f
  total-reverse xs f = omega (arith, total-reverse_aux xs [] f)
