-- Laws of the members of a list that pass a test.
use Prim.Native.Nat.{ℕ, suc, ◌+◌, ◌≤◌}
use Rattle.std.specs.Prelude.{◌≡◌, Bool}
use Rattle.std.proofs.Math.Path.{refl, ap}
use Rattle.std.proofs.Math.Bool.{true, false, cond}
use mathlib.Core.List.{List, [], ◌∷◌, ◌++◌}
use native.Mathlib.Omega.{arith}
use Rattle.std.proofs.Math.ListN.{length}
use Rattle.sums.specs.Lists.{All, Pairwise, total, only, keep}
use Rattle.sums.specs.Members.{All-map}
use Rattle.sums.specs.Pairs.{Pairwise-map}

module _ {A : Type 0} (test : A → Bool) where
  -- what holds of each member that passes holds of each that is kept; the same of each two
  pub keep_all : (P : A → Type 0) (xs : List A) → All (λ x. test x ≡ true → P x) xs → All P (keep test xs)
  unfolding keep
  keep_all P [] h = tt
  keep_all P (x ∷ xs) h = go (test x) refl (keep_all P xs h.1)
    where
      go : (b : Bool) → test x ≡ b → All P (keep test xs) → All P (cond b (x ∷ keep test xs) (keep test xs))
      go true e r = (h.0 e, r)
      go false e r = r

  pub keep-passing : (R : A → A → Type 0) (xs : List A) →
      Pairwise (λ x y. test x ≡ true → test y ≡ true → R x y) xs → Pairwise R (keep test xs)
  unfolding keep
  keep-passing R [] h = tt
  keep-passing R (x ∷ xs) h = go (test x) refl (keep-passing R xs h.1)
    where
      go : (b : Bool) → test x ≡ b → Pairwise R (keep test xs) → Pairwise R (cond b (x ∷ keep test xs) (keep test xs))
      go true e r = (keep_all (R x) xs (All-map _ _ xs (λ y k. k e) h.0), r)
      go false e r = r

  pub keep-pairs : (R : A → A → Type 0) (xs : List A) → Pairwise R xs → Pairwise R (keep test xs)
  keep-pairs R xs h = keep-passing R xs (Pairwise-map R _ xs (λ x y k d e. k) h)

  -- their sum and number
  pub keep-total : (g : A → ℕ) (xs : List A) → total (keep test xs) g ≡ total xs (λ x. only (test x) (g x))
  unfolding keep
  keep-total g [] = refl
  keep-total g (x ∷ xs) = go (test x) (keep-total g xs)
    where
      go : (b : Bool) → total (keep test xs) g ≡ total xs (λ x. only (test x) (g x)) →
          total (cond b (x ∷ keep test xs) (keep test xs)) g ≡ only b (g x) + total xs (λ x. only (test x) (g x))
      go true r = omega arith
      go false r = omega arith

  pub keep-few : (xs : List A) → length (keep test xs) ≤ length xs
  unfolding keep
  keep-few [] = omega arith
  keep-few (x ∷ xs) = go (test x) (keep-few xs)
    where
      go : (b : Bool) → length (keep test xs) ≤ length xs → length (cond b (x ∷ keep test xs) (keep test xs)) ≤ suc (length xs)
      go true r = omega arith
      go false r = omega arith

  -- where all pass, all are kept
  pub keep-whole : (xs : List A) → All (λ x. test x ≡ true) xs → keep test xs ≡ xs
  unfolding keep
  keep-whole [] h = refl
  keep-whole (x ∷ xs) h = rw h.0 (ap (λ (ys : List A). x ∷ ys) (keep-whole xs h.1))

  pub keep_append : (xs ys : List A) → keep test (xs ++ ys) ≡ keep test xs ++ keep test ys
  unfolding keep
  keep_append [] ys = refl
  keep_append (x ∷ xs) ys = go (test x) (keep_append xs ys)
    where
      go : (b : Bool) → keep test (xs ++ ys) ≡ keep test xs ++ keep test ys →
          cond b (x ∷ keep test (xs ++ ys)) (keep test (xs ++ ys)) ≡ cond b (x ∷ keep test xs) (keep test xs) ++ keep test ys
      go true e = ap (λ (zs : List A). x ∷ zs) e
      go false e = e

  -- two tests that agree on the members keep the same
  pub keep_same : (test' : A → Bool) (xs : List A) → All (λ x. test x ≡ test' x) xs → keep test xs ≡ keep test' xs
  unfolding keep
  keep_same test' [] h = refl
  keep_same test' (x ∷ xs) h = rw (h.0, keep_same test' xs h.1) refl
