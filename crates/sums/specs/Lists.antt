-- Lists: what holds of each member, what holds of each two, sums over the members, those that pass a test, a list given by
-- its places.
use Rattle.std.specs.Prelude.{ℕ, zero, suc, ◌+◌, Bool, true, false, cond, ◌≡◌, List, [], ◌∷◌, ◌⊎◌, get_or}

-- P holds of each member
abbrev pub All {ℓ} : {A : Type ℓ} → (A → Type 0) → List A → Type 0
All P [] = Unit {0}
All P (x ∷ xs) = P x × All P xs

-- x is a member
abbrev pub In : {A : Type 0} → A → List A → Type 0
In x [] = ⊥
In x (y ∷ ys) = (x ≡ y) ⊎ In x ys

-- R holds of each member and each later one
abbrev pub Pairwise {ℓ} : {A : Type ℓ} → (A → A → Type 0) → List A → Type 0
Pairwise R [] = Unit {0}
Pairwise R (x ∷ xs) = All (R x) xs × Pairwise R xs

-- the sum of f over the members
abbrev pub total {ℓ} : {A : Type ℓ} → List A → (A → ℕ) → ℕ
total [] f = 0
total (x ∷ xs) f = f x + total xs f

-- x where the test is passed, else 0
abbrev pub only : Bool → ℕ → ℕ
only true x = x
only false x = 0

-- those that pass a test, as they stood
unfoldable pub keep : {A : Type 0} → (A → Bool) → List A → List A
keep test [] = []
keep test (x ∷ xs) = cond (test x) (x ∷ keep test xs) (keep test xs)

-- f 0, f 1, .. f (n - 1)
abbrev pub tabulate {ℓ} : {A : Type ℓ} → ℕ → (ℕ → A) → List A
tabulate zero f = []
tabulate (suc n) f = f 0 ∷ tabulate n (λ i. f (suc i))

-- the member with number k, counted from 1; d where there is none
abbrev pub nth {ℓ} : {A : Type ℓ} → List A → ℕ → A → A
nth xs zero d = d
nth xs (suc k) d = get_or xs k d

-- f (n - 1), .. f 1, f 0
abbrev pub down_to {ℓ} : {A : Type ℓ} → (ℕ → A) → ℕ → List A
down_to f zero = []
down_to f (suc n) = f n ∷ down_to f n
