-- The profiles of a falling list of due times are those by places, each place read as its due time; so the first that
-- passes a test, and the largest value, are found by places.
use Rattle.std.specs.Prelude.{ℕ, zero, suc, ◌≤◌, max, ◌≡◌, Bool, ℤ, length}
use Rattle.std.proofs.Math.Path.{refl, ap}
use Rattle.std.proofs.Common.{sym, arith}
use Rattle.std.proofs.Math.Bool.{true, false, cond}
use mathlib.Core.List.{List, [], ◌∷◌, ◌++◌, map}
use Rattle.sums.specs.Lists.{All, down_to}
use Rattle.sums.specs.Members.{All-map, All-append}
use Rattle.profile.specs.Search.{Found, nothing, found, choices, ranked, first_such}
use Rattle.sums.specs.Most.{largest}
use Rattle.stairs.specs.Places.{profiles, ranking}
use Rattle.stairs.specs.PlacesLaws.{Below, below-mono}

-- images of lists
module _ {A B : Type 0} (g : A → B) where
  map-append : (xs ys : List A) → map g (xs ++ ys) ≡ map g xs ++ map g ys
  map-append [] ys = refl
  map-append (x ∷ xs) ys = ap (λ (l : List B). g x ∷ l) (map-append xs ys)

  -- what is found in an image is the image of what is found
  abbrev pub found_map : Found A → Found B
  found_map nothing = nothing
  found_map (found x) = found (g x)

  pub first-image : (test : B → Bool) (xs : List A) → first_such test (map g xs) ≡ found_map (first_such (λ x. test (g x)) xs)
  unfolding first_such
  first-image test [] = refl
  first-image test (x ∷ xs) = at (test (g x)) (first-image test xs)
    where
      at : (b : Bool) → first_such test (map g xs) ≡ found_map (first_such (λ x. test (g x)) xs) →
          cond b (found (g x)) (first_such test (map g xs)) ≡ found_map (cond b (found x) (first_such (λ x. test (g x)) xs))
      at true e = refl
      at false e = e

  pub largest-image : (h : B → ℕ) (xs : List A) → largest h (map g xs) ≡ largest (λ x. h (g x)) xs
  unfolding largest
  largest-image h [] = refl
  largest-image h (x ∷ xs) = ap (max (h (g x))) (largest-image h xs)

-- two tests, or two values, that agree on every member
module _ {A : Type 0} where
  pub first-agree : (p p' : A → Bool) (xs : List A) → All (λ x. p x ≡ p' x) xs → first_such p xs ≡ first_such p' xs
  unfolding first_such
  first-agree p p' [] h = refl
  first-agree p p' (x ∷ xs) h = rw (h.0, first-agree p p' xs h.1)

  pub largest-agree : (g h : A → ℕ) (xs : List A) → All (λ x. g x ≡ h x) xs → largest g xs ≡ largest h xs
  unfolding largest
  largest-agree g h [] k = refl
  largest-agree g h (x ∷ xs) k = rw (k.0, largest-agree g h xs k.1)

-- a list behind d, then read as due times, is the due times behind that of d
cons-image : (f : ℕ → ℤ) (d : ℕ) (xs : List (List ℕ)) →
    map (λ (es : List ℤ). f d ∷ es) (map (map f) xs) ≡ map (map f) (map (λ (ds : List ℕ). d ∷ ds) xs)
cons-image f d [] = refl
cons-image f d (x ∷ xs) = ap (λ (l : List (List ℤ)). (f d ∷ map f x) ∷ l) (cons-image f d xs)

pub choices-places : (f : ℕ → ℤ) (k b : ℕ) → choices k (down_to f b) ≡ map (map f) (profiles k b)
unfolding choices profiles
choices-places f zero b = refl
choices-places f (suc k) zero = refl
choices-places f (suc k) (suc b) =
    rw (choices-places f (suc k) b, choices-places f k (suc b), cons-image f b (profiles k (suc b)))
    (sym (map-append (map f) (profiles (suc k) b) (map (λ (ds : List ℕ). b ∷ ds) (profiles k (suc b)))))

pub ranked-places : (f : ℕ → ℤ) (k b : ℕ) → ranked k (down_to f b) ≡ map (map f) (ranking k b)
unfolding ranked ranking
ranked-places f zero b = refl
ranked-places f (suc k) b =
    rw (ranked-places f k b, choices-places f (suc k) b) (sym (map-append (map f) (ranking k b) (profiles (suc k) b)))

-- profiles by places: how many classes they have, and that their places are below the bound
abbrev pub Sized : ℕ → ℕ → List ℕ → Type 0
Sized k b ds = (length ds ≡ k) × Below b ds

behind : (k b : ℕ) (xs : List (List ℕ)) → All (Sized k (suc b)) xs →
    All (Sized (suc k) (suc b)) (map (λ (ds : List ℕ). b ∷ ds) xs)
behind k b [] h = tt
behind k b (x ∷ xs) h = ((ap suc h.0.0, (omega arith, h.0.1)), behind k b xs h.1)

pub profiles-sized : (k b : ℕ) → All (Sized k b) (profiles k b)
unfolding profiles
profiles-sized zero b = ((refl, tt), tt)
profiles-sized (suc k) zero = tt
profiles-sized (suc k) (suc b) =
    All-append (Sized (suc k) (suc b)) (profiles (suc k) b) _
    (All-map (Sized (suc k) b) (Sized (suc k) (suc b)) (profiles (suc k) b)
    (λ ds h. (h.0, below-mono b (suc b) ds (omega arith) h.1)) (profiles-sized (suc k) b))
    (behind k b (profiles k (suc b)) (profiles-sized k (suc b)))

pub ranking-sized : (s b : ℕ) → All (λ (ds : List ℕ). (length ds ≤ s) × Below b ds) (ranking s b)
unfolding ranking
ranking-sized zero b = tt
ranking-sized (suc s) b =
    All-append (λ (ds : List ℕ). (length ds ≤ suc s) × Below b ds) (ranking s b) (profiles (suc s) b)
    (All-map (λ (ds : List ℕ). (length ds ≤ s) × Below b ds) (λ (ds : List ℕ). (length ds ≤ suc s) × Below b ds)
    (ranking s b)
    (λ ds h. (omega (arith, h.0), h.1)) (ranking-sized s b))
    (All-map (Sized (suc s) b) (λ (ds : List ℕ). (length ds ≤ suc s) × Below b ds) (profiles (suc s) b)
    (λ ds h. (omega (arith, h.0), h.1)) (profiles-sized (suc s) b))
