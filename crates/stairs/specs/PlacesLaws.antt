-- Laws of profiles by places: what is found first among them, and that it is one of them; lists that are filled up with 0s.
use Rattle.std.specs.Prelude.{ℕ, zero, suc, ◌<◌, ◌≤◌, ◌≡◌, refl, Bool, true, false, cond, List, [], ◌∷◌, ◌++◌, map, length, get_or}
use Rattle.std.proofs.Common.{sym, ap, ◌∙◌, arith}
use Rattle.profile.specs.Search.{nothing, found, first_such}
use Rattle.stairs.specs.Places.{profiles, ranking, FoundPlaces}
use Rattle.sums.specs.Arrays.{pad}
use Rattle.stairs.specs.Tables.{put}

abbrev pub or_else : FoundPlaces → FoundPlaces → FoundPlaces
or_else nothing y = y
or_else (found x) y = found x

pub first-append : (p : List ℕ → Bool) (xs ys : List (List ℕ)) →
    first_such p (xs ++ ys) ≡ or_else (first_such p xs) (first_such p ys)
unfolding first_such
first-append p [] ys = refl
first-append p (x ∷ xs) ys = at (p x) (first-append p xs ys)
  where
    at : (b : Bool) → first_such p (xs ++ ys) ≡ or_else (first_such p xs) (first_such p ys) →
        cond b (found x) (first_such p (xs ++ ys)) ≡ or_else (cond b (found x) (first_such p xs)) (first_such p ys)
    at true e = refl
    at false e = e

first-map : (p : List ℕ → Bool) (d : ℕ) (xs : List (List ℕ)) →
    first_such p (map (λ (ds : List ℕ). d ∷ ds) xs) ≡ put d (first_such (λ ds. p (d ∷ ds)) xs)
unfolding first_such
first-map p d [] = refl
first-map p d (x ∷ xs) = at (p (d ∷ x)) (first-map p d xs)
  where
    at : (b : Bool) → first_such p (map (λ (ds : List ℕ). d ∷ ds) xs) ≡ put d (first_such (λ ds. p (d ∷ ds)) xs) →
        cond b (found (d ∷ x)) (first_such p (map (λ (ds : List ℕ). d ∷ ds) xs)) ≡ put d
        (cond b (found x) (first_such (λ ds. p (d ∷ ds)) xs))
    at true e = refl
    at false e = e

pub first_step : (p : List ℕ → Bool) (k b : ℕ) → first_such p (profiles (suc k) (suc b)) ≡ or_else
    (first_such p (profiles (suc k) b)) (put b (first_such (λ ds. p (b ∷ ds)) (profiles k (suc b))))
unfolding profiles
first_step p k b = first-append p (profiles (suc k) b) (map (λ (ds : List ℕ). b ∷ ds) (profiles k (suc b)))
    ∙ ap (or_else (first_such p (profiles (suc k) b))) (first-map p b (profiles k (suc b)))

-- a test may be replaced by one that agrees on lists of length k with indices below b
abbrev pub Below : ℕ → List ℕ → Type 0
Below b [] = Unit {0}
Below b (d ∷ ds) = (d < b) × Below b ds

pub below-mono : (b c : ℕ) (ds : List ℕ) → b ≤ c → Below b ds → Below c ds
below-mono b c [] l h = tt
below-mono b c (d ∷ ds) l h = (omega (arith, h.0), below-mono b c ds l h.1)

pub first_cong : (k b : ℕ) (p p' : List ℕ → Bool) → ((ds : List ℕ) → length ds ≡ k → Below b ds → p ds ≡ p' ds) →
    first_such p (profiles k b) ≡ first_such p' (profiles k b)
unfolding profiles first_such
first_cong zero b p p' h = rw (h [] refl tt)
first_cong (suc k) zero p p' h = refl
first_cong (suc k) (suc b) p p' h =
    let e = first_cong (suc k) b p p' (λ ds l m. h ds l (below-mono b (suc b) ds (omega arith) m)) in
    let f = first_cong k (suc b) (λ ds. p (b ∷ ds)) (λ ds. p' (b ∷ ds)) (λ ds l m. h (b ∷ ds) (ap suc l) (omega arith, m)) in
    first_step p k b ∙ rw (e, f) (sym (first_step p' k b))

-- two tests that agree on every ranked profile find the same
pub ranking-cong : (s q : ℕ) (p p' : List ℕ → Bool) → ((ds : List ℕ) → Below q ds → p ds ≡ p' ds) →
    first_such p (ranking s q) ≡ first_such p' (ranking s q)
unfolding ranking first_such
ranking-cong zero q p p' h = refl
ranking-cong (suc s) q p p' h =
    first-append p (ranking s q) (profiles (suc s) q)
    ∙ rw (ranking-cong s q p p' h, first_cong (suc s) q p p' (λ ds l b. h ds b))
    (sym (first-append p' (ranking s q) (profiles (suc s) q)))

-- indices that never rise, the first below b
abbrev pub Falls : ℕ → List ℕ → Type 0
Falls b [] = Unit {0}
Falls b (d ∷ ds) = (d < b) × Falls (suc d) ds

falls-more : (b c : ℕ) (ds : List ℕ) → b ≤ c → Falls b ds → Falls c ds
falls-more b c [] l f = tt
falls-more b c (d ∷ ds) l f = (omega (arith, f.0), f.1)

-- what is found is a profile
pub first-falls : (p : List ℕ → Bool) (k b : ℕ) (ds : List ℕ) → first_such p (profiles k b) ≡ found ds →
    (length ds ≡ k) × Falls b ds
unfolding first_such profiles
first-falls p zero b ds e = at (p []) e
  where
    at : (t : Bool) → cond t (found []) nothing ≡ found ds → (length ds ≡ 0) × Falls b ds
    at true e = let z : [] ≡ ds = cc in rw (← z) (refl, tt)
    at false e = let z : ◌≡◌ {A = ℕ} 0 1 = cc in absurd (omega arith)
first-falls p (suc k) zero ds e = let z : ◌≡◌ {A = ℕ} 0 1 = cc in absurd (omega arith)
first-falls p (suc k) (suc b) ds e =
    at (first_such p (profiles (suc k) b)) (first_such (λ ds. p (b ∷ ds)) (profiles k (suc b)))
    (first-falls p (suc k) b) (first-falls (λ ds. p (b ∷ ds)) k (suc b)) (sym (first_step p k b) ∙ e)
  where
    at : (x y : FoundPlaces) → ((ds : List ℕ) → x ≡ found ds → (length ds ≡ suc k) × Falls b ds) →
        ((ds : List ℕ) → y ≡ found ds → (length ds ≡ k) × Falls (suc b) ds) → or_else x (put b y) ≡ found ds →
        (length ds ≡ suc k) × Falls (suc b) ds
    at (found xs) y f g e = let r = f ds e in (r.0, falls-more b (suc b) ds (omega arith) r.1)
    at nothing (found ys) f g e = let z : (b ∷ ys) ≡ ds = cc in rw (← z) (ap suc (g ys refl).0, (omega arith, (g ys refl).1))
    at nothing nothing f g e = let z : ◌≡◌ {A = ℕ} 0 1 = cc in absurd (omega arith)

pub ranking-falls : (p : List ℕ → Bool) (s q : ℕ) (ds : List ℕ) → first_such p (ranking s q) ≡ found ds →
    (length ds ≤ s) × Falls q ds
unfolding ranking first_such
ranking-falls p zero q ds e = let z : ◌≡◌ {A = ℕ} 0 1 = cc in absurd (omega arith)
ranking-falls p (suc s) q ds e =
    at (first_such p (ranking s q)) (first_such p (profiles (suc s) q)) (ranking-falls p s q) (first-falls p (suc s) q)
    (sym (first-append p (ranking s q) (profiles (suc s) q)) ∙ e)
  where
    at : (x y : FoundPlaces) → ((ds : List ℕ) → x ≡ found ds → (length ds ≤ s) × Falls q ds) →
        ((ds : List ℕ) → y ≡ found ds → (length ds ≡ suc s) × Falls q ds) → or_else x y ≡ found ds →
        (length ds ≤ suc s) × Falls q ds
    at (found xs) y f g e = let r = f ds e in (omega (arith, r.0), r.1)
    at nothing y f g e = let r = g ds e in (omega (arith, r.0), r.1)

pub pad-below : (n b i : ℕ) (ds : List ℕ) → i < length ds → length ds ≤ n → Falls b ds → get_or (pad n ds) i 0 < b
unfolding pad
pad-below n b i [] h l f = absurd (omega arith)
pad-below zero b i (d ∷ ds) h l f = absurd (omega arith)
pad-below (suc n) b zero (d ∷ ds) h l f = f.0
pad-below (suc n) b (suc i) (d ∷ ds) h l f = omega (arith, f.0, pad-below n (suc d) i ds (omega arith) (omega arith) f.1)
