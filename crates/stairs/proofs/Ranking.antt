-- The search over class counts: what is known as it goes on, and where it stops.
use Prim.Native.Nat.{ℕ, zero, suc, ◌+◌, ◌<◌, ◌≤◌}
use mathlib.Core.Path.{◌≡◌, refl, sym, ap, ◌∙◌}
use mathlib.Core.Bool.{Bool, true, false, cond}
use mathlib.Core.List.{List, [], ◌∷◌}
use native.Mathlib.Omega.{arith}
use native.Mathlib.Nat.{zero-add}
use native.Mathlib.Numerals.{add-one}
use lib.ListN.{length, get_or}
use Rattle.std.specs.Prelude.{Option, Some, None}
use Rattle.profile.specs.Search.{nothing, found, first_such}
use Rattle.stairs.specs.Places.{profiles, FoundPlaces, first_overfull_at, places}
use Rattle.stairs.specs.Tables.{comp, first_from, put, cell, Completed, room_of, staircase_of}
use Rattle.stairs.specs.PlacesLaws.{or_else, first_step}
use Rattle.stairs.specs.CompletionLaws.{finds-where, none_more, hit, overfull-suc, overfull-stays}
use Rattle.stairs.specs.declared.Staircase.{Staircase}

first-length : (p : List ℕ → Bool) (m b : ℕ) (ds : List ℕ) → first_such p (profiles m b) ≡ found ds → length ds ≡ m
unfolding first_such profiles
first-length p zero b ds e = at (p []) e
  where
    at : (t : Bool) → cond t (found []) nothing ≡ found ds → length ds ≡ 0
    at true e = let z : [] ≡ ds = cc in rw (← z)
    at false e = let z : ◌≡◌ {A = ℕ} 0 1 = cc in absurd (omega arith)
first-length p (suc m) zero ds e = let z : ◌≡◌ {A = ℕ} 0 1 = cc in absurd (omega arith)
first-length p (suc m) (suc b) ds e =
    at (first_such p (profiles (suc m) b)) (first_such (λ ds. p (b ∷ ds)) (profiles m (suc b)))
    (first-length p (suc m) b) (first-length (λ ds. p (b ∷ ds)) m (suc b)) (sym (first_step p m b) ∙ e)
  where
    at : (x y : FoundPlaces) → ((ds : List ℕ) → x ≡ found ds → length ds ≡ suc m) →
        ((ds : List ℕ) → y ≡ found ds → length ds ≡ m) → or_else x (put b y) ≡ found ds → length ds ≡ suc m
    at (found xs) y f g e = f ds e
    at nothing (found ys) f g e = let z : (b ∷ ys) ≡ ds = cc in rw (← z) (ap suc (g ys refl))
    at nothing nothing f g e = let z : ◌≡◌ {A = ℕ} 0 1 = cc in absurd (omega arith)

abbrev pub made : ℕ → List ℕ → Option Staircase
made k r = Some (record { count = k; at = r })

module _ (t : List (List ℕ)) (rooms : List ℕ) (s q k d : ℕ) (c : List (List ℕ)) (a : Completed t (suc k) q k c)
    (l : k < s) (b : d < q)
    (e : first_overfull_at (cell t) (room_of rooms) k q ≡ nothing)
    (f : first_from (cell t) (get_or rooms k 0) 0 0 (suc k) d ≡ nothing) where
  at_c : cell c k d ≡ comp (cell t) 1 k (suc d)
  at_c = a.at 1 k d (omega arith) (omega arith) b

  -- no profile begins at d
  pub find-more : cell t 0 d + cell c k d ≤ get_or rooms k 0 →
      first_from (cell t) (get_or rooms k 0) 0 0 (suc k) (d + 1) ≡ nothing
  find-more h = rw add-one (none_more (cell t) (get_or rooms k 0) 0 0 k d f (omega (arith, at_c)))

  -- one does
  pub find-can : get_or rooms k 0 < cell t 0 d + cell c k d → get_or rooms k 0 < cell t 0 d + comp (cell t) 1 k (suc d)
  find-can h = omega (arith, at_c)

  pub find-hit : get_or rooms k 0 < cell t 0 d + cell c k d → (r : List ℕ) →
      r ≡ places (put d (first_from (cell t) (get_or rooms k 0) (cell t 0 d) 1 k (suc d)))
      → made (k + 1) r ≡ staircase_of (first_overfull_at (cell t) (room_of rooms) s q)
  unfolding staircase_of places first_from
  find-hit h r g =
      let x = finds-where (cell t) (get_or rooms k 0) (cell t 0 d) 1 k d (find-can h) in
      let y : first_from (cell t) (get_or rooms k 0) 0 0 (suc k) q ≡ found (d ∷ x.0)
      = hit (cell t) (get_or rooms k 0) 0 0 k d q f (omega (arith, at_c)) b ∙ (rw zero-add (ap (put d) x.1)) in
      let z : first_overfull_at (cell t) (room_of rooms) s q ≡ found (d ∷ x.0)
      = overfull-stays (cell t) (room_of rooms) q (suc k) s (d ∷ x.0) (omega arith)
      (overfull-suc (cell t) (room_of rooms) q k ∙ rw (e, y)) in
      let n : k + 1 ≡ length (d ∷ x.0) = omega (arith, first-length _ k (suc d) x.0 x.1) in
      ap (λ (m : ℕ). made m r) n ∙ (ap (made (length (d ∷ x.0))) (g ∙ ap (λ (v : FoundPlaces). places (put d v)) x.1)
      ∙ sym (ap staircase_of z))

pub find_none : (f : FoundPlaces) → f ≡ nothing → None ≡ staircase_of f
unfolding staircase_of
find_none f e = sym (ap staircase_of e)
