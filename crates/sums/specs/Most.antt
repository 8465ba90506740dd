-- The largest value on a list, the largest of n numbers, and the quotient that is rounded up.
use Rattle.std.specs.Prelude.{ℕ, zero, suc, ◌+◌, ◌-◌, ◌*◌, ◌/◌, ◌≤◌, ◌<◌, max, ◌≡◌, refl, length, get_or}
use Rattle.std.proofs.Common.{sym, ◌∙◌, inl, inr, div-lt_iff_lt-mul}
use Rattle.std.proofs.Math.Path.{ap}
use mathlib.Core.List.{List, [], ◌∷◌}
use native.Mathlib.Omega.{arith}
use Rattle.std.proofs.Math.Decide.{ℕ_discrete}
use Rattle.sums.specs.Lists.{All, In}

-- the largest value on a list
unfoldable pub largest : {A : Type 0} → (A → ℕ) → List A → ℕ
largest f [] = 0
largest f (x ∷ xs) = max (f x) (largest f xs)

-- the largest of f 0 .. f (n - 1)
unfoldable pub most : ℕ → (ℕ → ℕ) → ℕ
most zero f = 0
most (suc n) f = max (most n f) (f n)

-- a / b, rounded up
abbrev pub ceiling : ℕ → ℕ → ℕ
ceiling a b = (a + (b - 1)) / b

-- the largest is at most r exactly if each is
module _ {A : Type 0} (f : A → ℕ) where
  pub largest-le : (xs : List A) (r : ℕ) → All (λ x. f x ≤ r) xs → largest f xs ≤ r
  unfolding largest
  largest-le [] r h = omega arith
  largest-le (x ∷ xs) r h = omega (arith, h.0, largest-le xs r h.1)

  pub le-largest : (xs : List A) (x : A) → In x xs → f x ≤ largest f xs
  unfolding largest
  le-largest [] x i = absurd i
  le-largest (y ∷ xs) x (inl e) = omega (arith, ap f e)
  le-largest (y ∷ xs) x (inr i) = omega (arith, le-largest xs x i)

pub most-none : (f : ℕ → ℕ) → most 0 f ≡ 0
unfolding most
most-none f = refl

pub most-suc : (n : ℕ) (f : ℕ → ℕ) → most (suc n) f ≡ max (most n f) (f n)
unfolding most
most-suc n f = refl

pub most-cong : (n : ℕ) (f g : ℕ → ℕ) → ((i : ℕ) → i < n → f i ≡ g i) → most n f ≡ most n g
unfolding most
most-cong zero f g h = refl
most-cong (suc n) f g h = rw (most-cong n f g (λ i l. h i (omega arith)), h n (omega arith))

pub most-le : (n x : ℕ) (f : ℕ → ℕ) → ((i : ℕ) → i < n → f i ≤ x) → most n f ≤ x
unfolding most
most-le zero x f h = omega arith
most-le (suc n) x f h = omega (arith, most-le n x f (λ i l. h i (omega arith)), h n (omega arith))

pub most-ge : (n k : ℕ) (f : ℕ → ℕ) → k < n → f k ≤ most n f
unfolding most
most-ge zero k f h = absurd (omega arith)
most-ge (suc n) k f h =
    elim (ℕ_discrete k n) [ yes e ↦ omega (arith, ap f e) | no e ↦ omega (arith, most-ge n k f (omega arith)) ]

most-first : (n : ℕ) (f : ℕ → ℕ) → most (suc n) f ≡ max (f 0) (most n (λ i. f (suc i)))
unfolding most
most-first zero f = omega arith
most-first (suc n) f = omega (arith, most-first n f)

-- the largest on a list, place by place
pub largest-most : {A : Type 0} (xs : List A) (d : A) (f : A → ℕ) → largest f xs ≡ most (length xs) (λ j. f (get_or xs j d))
unfolding largest most
largest-most [] d f = refl
largest-most (x ∷ xs) d f =
    ap (max (f x)) (largest-most xs d f) ∙ sym (most-first (length xs) (λ j. f (get_or (x ∷ xs) j d)))

-- a / b rounded up is at most r exactly if a is at most b times r
pub ceiling-le : (a b r : ℕ) → 1 ≤ b → a ≤ b * r → ceiling a b ≤ r
ceiling-le a b r h l =
    let x : a + (b - 1) < suc r * b = omega arith in
    omega (arith, (div-lt_iff_lt-mul {k = b} {x = a + (b - 1)} {y = suc r} h).1 x)

pub le-ceiling : (a b r : ℕ) → 1 ≤ b → ceiling a b ≤ r → a ≤ b * r
le-ceiling a b r h l =
    let y : (a + (b - 1)) / b < suc r = omega arith in
    omega (arith, (div-lt_iff_lt-mul {k = b} {x = a + (b - 1)} {y = suc r} h).0 y)
