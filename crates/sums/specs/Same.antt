-- Whether two lists are equal, by a test of their members.
use Rattle.std.specs.Prelude.{ℕ, Bool, ◌&&◌, ◌↔◌}
use Rattle.std.proofs.Math.Path.{◌≡◌, refl}
use Rattle.std.proofs.Math.Bool.{true, false}
use mathlib.Core.List.{List, [], ◌∷◌}
use Rattle.std.proofs.Common.{arith}

unfoldable pub same_list : {A : Type 0} → (A → A → Bool) → List A → List A → Bool
same_list same [] [] = true
same_list same [] (y ∷ ys) = false
same_list same (x ∷ xs) [] = false
same_list same (x ∷ xs) (y ∷ ys) = same x y && same_list same xs ys

-- the test says so exactly where two things are equal
abbrev pub Tells : {A : Type 0} → (A → A → Bool) → Type 0
Tells {A} same = (x y : A) → (same x y ≡ true) ↔ (x ≡ y)

-- it then says so of lists too
module _ {A : Type 0} (same : A → A → Bool) (tells : Tells same) where
  list-equal : (xs ys : List A) → same_list same xs ys ≡ true → xs ≡ ys
  unfolding same_list
  list-equal [] [] e = refl
  list-equal [] (y ∷ ys) e = let z : ◌≡◌ {A = ℕ} 0 1 = cc in absurd (omega arith)
  list-equal (x ∷ xs) [] e = let z : ◌≡◌ {A = ℕ} 0 1 = cc in absurd (omega arith)
  list-equal (x ∷ xs) (y ∷ ys) e = at (same x y) refl e (list-equal xs ys)
    where
      at : (b : Bool) → same x y ≡ b → (b && same_list same xs ys) ≡ true → (same_list same xs ys ≡ true → xs ≡ ys) → x ∷ xs ≡ y ∷ ys
      at true f e r = let h = (tells x y).0 f in let t = r e in cc
      at false f e r = let z : ◌≡◌ {A = ℕ} 0 1 = cc in absurd (omega arith)

  list-itself : (xs : List A) → same_list same xs xs ≡ true
  unfolding same_list
  list-itself [] = refl
  list-itself (x ∷ xs) = rw ((tells x x).1 refl) (list-itself xs)

  pub list_tells : Tells (same_list same)
  list_tells xs ys = (list-equal xs ys, λ e. rw e (list-itself ys))
