-- The best completion tells whether a search among the profiles finds one; so the first overfull profile is found
-- greedily, and the heaviest profile is the best completion from class 0 on. Only the classes and due times in use count.
use Prim.Native.Nat.{ℕ, zero, suc, ◌+◌, ◌*◌, ◌<◌, ◌≤◌, max}
use Rattle.std.specs.Prelude.{◌≡◌, length}
use Rattle.std.proofs.Math.Path.{refl, sym, ap}
use Rattle.std.proofs.Common.{◌∙◌, zero-add, add-one, length-append}
use mathlib.Core.List.{List, [], ◌∷◌, ◌++◌, map}
use native.Mathlib.Omega.{arith}
use Rattle.std.proofs.Math.Decide.{dec_lt, ℕ_discrete}
use borrow.Author.Tests.{lt-ltb, le-ltb}
use Rattle.std.proofs.Math.Dec.{ltb}
use Rattle.std.proofs.lemmas.List.{length-map}
use Rattle.profile.specs.Search.{nothing, found, first_such}
use Rattle.sums.specs.Most.{largest, most, most-cong, most-le}
use Rattle.stairs.specs.Places.{profiles, ranking, value, overfull_at, FoundPlaces, first_overfull_at, best}
use Rattle.stairs.specs.Tables.{comp, first_from, put}
use Rattle.stairs.specs.PlacesLaws.{or_else, first-append, first_step, Below, first_cong}

pub comp-le : (w : ℕ → ℕ → ℕ) → ((i d : ℕ) → i < 16 → d < 48 → w i d ≤ 40000000) → (i m b : ℕ) → i + m ≤ 16 → b ≤ 48 →
    comp w i m b ≤ m * 40000000
unfolding comp
comp-le w h i zero b l k = omega arith
comp-le w h i (suc m) b l k =
    most-le b (suc m * 40000000) _
    (λ e q. omega (arith, h i e (omega arith) (omega arith), comp-le w h (suc i) m (suc e) (omega arith) (omega arith)))

pub comp-none : (w : ℕ → ℕ → ℕ) (i b : ℕ) → comp w i 0 b ≡ 0
unfolding comp
comp-none w i b = refl

pub comp-suc : (w : ℕ → ℕ → ℕ) (i m b : ℕ) → comp w i (suc m) b ≡ most b (λ e. w i e + comp w (suc i) m (suc e))
unfolding comp
comp-suc w i m b = refl

module _ (w : ℕ → ℕ → ℕ) (room : ℕ) where
  pub first-zero : (acc i m : ℕ) → first_from w room acc i (suc m) 0 ≡ nothing
  unfolding first_from first_such profiles
  first-zero acc i m = refl

  pub first-suc : (acc i m b : ℕ) → first_from w room acc i (suc m) (suc b) ≡ or_else (first_from w room acc i (suc m) b)
      (put b (first_from w room (acc + w i b) (suc i) m (suc b)))
  unfolding first_from value
  first-suc acc i m b =
      first_step (λ ds. ltb room (acc + value w i ds)) m b
      ∙ ap (λ (x : FoundPlaces). or_else (first_from w room acc i (suc m) b) (put b x))
      (first_cong m (suc b) _ _ (λ ds l k. ap (ltb room) (omega arith)))

  pub first_done : (acc i b : ℕ) → room < acc → first_from w room acc i 0 b ≡ found []
  unfolding first_from first_such profiles value
  first_done acc i b h = let e : acc + 0 ≡ acc = omega arith in rw (e, lt-ltb room acc h)

  pub first-fails : (acc i b : ℕ) → acc ≤ room → first_from w room acc i 0 b ≡ nothing
  unfolding first_from first_such profiles value
  first-fails acc i b h = let e : acc + 0 ≡ acc = omega arith in rw (e, le-ltb room acc h)

  pub data Outcome (acc i m b : ℕ) : Type 0 where
    fails : first_from w room acc i m b ≡ nothing → acc + comp w i m b ≤ room → Outcome acc i m b
    finds : (ds : List ℕ) → first_from w room acc i m b ≡ found ds → room < acc + comp w i m b → Outcome acc i m b

  -- the search finds one exactly where the best completion outweighs the room
  pub outcome : (acc i m b : ℕ) → Outcome acc i m (suc b)
  unfolding comp most
  outcome acc i zero b =
      elim (dec_lt room acc) [
        | yes h ↦ finds [] (first_done acc i (suc b) h) (omega arith)
        | no h ↦ fails (first-fails acc i (suc b) (omega arith)) (omega arith)
      ]
  outcome acc i (suc m) zero =
      elim (outcome (acc + w i 0) (suc i) m 0) [
        | fails e l ↦ fails (first-suc acc i m 0 ∙ rw (first-zero acc i m, e)) (omega arith)
        | finds ds e l ↦ finds (0 ∷ ds) (first-suc acc i m 0 ∙ rw (first-zero acc i m, e)) (omega arith)
      ]
  outcome acc i (suc m) (suc b) =
      elim (outcome acc i (suc m) b) [
        | finds ds e l ↦ finds ds (first-suc acc i m (suc b) ∙ rw e) (omega arith)
        | fails e l ↦
            elim (outcome (acc + w i (suc b)) (suc i) m (suc b)) [
              | fails e' l' ↦ fails (first-suc acc i m (suc b) ∙ rw (e, e')) (omega arith)
              | finds ds e' l' ↦ finds (suc b ∷ ds) (first-suc acc i m (suc b) ∙ rw (e, e')) (omega arith)
            ]
      ]

  pub finds-where : (acc i m b : ℕ) → room < acc + comp w i m (suc b) →
      (ds : List ℕ) × (first_from w room acc i m (suc b) ≡ found ds)
  finds-where acc i m b h = elim (outcome acc i m b) [ fails e l ↦ absurd (omega arith) | finds ds e l ↦ (ds, e) ]

  pub none_more : (acc i m d : ℕ) → first_from w room acc i (suc m) d ≡ nothing →
      acc + w i d + comp w (suc i) m (suc d) ≤ room → first_from w room acc i (suc m) (suc d) ≡ nothing
  none_more acc i m d e h =
      elim (outcome (acc + w i d) (suc i) m d) [
        | fails e' l ↦ first-suc acc i m d ∙ rw (e, e')
        | finds ds e' l ↦ absurd (omega arith)
      ]

  pub none_below : (acc i m d : ℕ) → ((e : ℕ) → e < d → acc + w i e + comp w (suc i) m (suc e) ≤ room) →
      first_from w room acc i (suc m) d ≡ nothing
  none_below acc i m zero h = first-zero acc i m
  none_below acc i m (suc d) h = none_more acc i m d (none_below acc i m d (λ e l. h e (omega arith))) (h d (omega arith))

  pub hit : (acc i m d b : ℕ) → first_from w room acc i (suc m) d ≡ nothing →
      room < acc + w i d + comp w (suc i) m (suc d) → d < b →
      first_from w room acc i (suc m) b ≡ put d (first_from w room (acc + w i d) (suc i) m (suc d))
  hit acc i m d zero e h l = absurd (omega arith)
  hit acc i m d (suc b) e h l =
      elim (ℕ_discrete d b) [
        | yes q ↦ rw (← q, first-suc acc i m d, e)
        | no q ↦
            let f = finds-where (acc + w i d) (suc i) m d h in
            first-suc acc i m b ∙ rw (hit acc i m d b e h (omega arith), f.1)
      ]

module _ (w : ℕ → ℕ → ℕ) (room : ℕ → ℕ) (q : ℕ) where
  pub overfull-zero : first_overfull_at w room 0 q ≡ nothing
  unfolding first_overfull_at ranking first_such
  overfull-zero = refl

  pub overfull-suc : (k : ℕ) → first_overfull_at w room (suc k) q ≡ or_else (first_overfull_at w room k q)
      (first_from w (room (suc k)) 0 0 (suc k) q)
  unfolding first_overfull_at ranking overfull_at first_from
  overfull-suc k =
      first-append (overfull_at w room) (ranking k q) (profiles (suc k) q)
      ∙ ap (or_else (first_such (overfull_at w room) (ranking k q)))
      (first_cong (suc k) q _ _ (λ ds l b. rw (l, zero-add)))

  -- the search stops at the first
  pub overfull-stays : (k s : ℕ) (ds : List ℕ) → k ≤ s → first_overfull_at w room k q ≡ found ds →
      first_overfull_at w room s q ≡ found ds
  overfull-stays k zero ds l e = let z : k ≡ 0 = omega arith in rw z at e
  overfull-stays k (suc s) ds l e =
      elim (ℕ_discrete k (suc s)) [
        | yes z ↦ rw z at e
        | no z ↦ overfull-suc s ∙ rw (overfull-stays k s ds (omega arith) e)
      ]

  pub overfull-none : (k : ℕ) → first_overfull_at w room k q ≡ nothing →
      first_from w (room (suc k)) 0 0 (suc k) q ≡ nothing → first_overfull_at w room (k + 1) q ≡ nothing
  overfull-none k e f = rw (add-one, overfull-suc k, e, f)

largest-append : (f : List ℕ → ℕ) (xs ys : List (List ℕ)) → largest f (xs ++ ys) ≡ max (largest f xs) (largest f ys)
unfolding largest
largest-append f [] ys = omega arith
largest-append f (x ∷ xs) ys = omega (arith, largest-append f xs ys)

largest-map : (f : List ℕ → ℕ) (d : ℕ) (xs : List (List ℕ)) →
    largest f (map (λ (ds : List ℕ). d ∷ ds) xs) ≡ largest (λ ds. f (d ∷ ds)) xs
unfolding largest
largest-map f d [] = refl
largest-map f d (x ∷ xs) = omega (arith, largest-map f d xs)

largest-add : (f : List ℕ → ℕ) (c : ℕ) (xs : List (List ℕ)) → 0 < length xs → largest (λ ds. c + f ds) xs ≡ c + largest f xs
unfolding largest
largest-add f c [] h = absurd (omega arith)
largest-add f c (x ∷ []) h = omega arith
largest-add f c (x ∷ y ∷ xs) h = omega (arith, largest-add f c (y ∷ xs) (omega arith))

profiles-some : (m b : ℕ) → 0 < length (profiles m (suc b))
unfolding profiles
profiles-some zero b = omega arith
profiles-some (suc m) b =
    omega (
      arith,
      length-append (profiles (suc m) b) (map (λ (ds : List ℕ). b ∷ ds) (profiles m (suc b))),
      length-map (profiles m (suc b)) (λ (ds : List ℕ). b ∷ ds),
      profiles-some m b,
    )

pub largest-comp : (w : ℕ → ℕ → ℕ) (i m b : ℕ) → largest (value w i) (profiles m b) ≡ comp w i m b
unfolding largest profiles value comp most
largest-comp w i zero b = refl
largest-comp w i (suc m) zero = refl
largest-comp w i (suc m) (suc b) =
    omega (
      arith,
      largest-append (value w i) (profiles (suc m) b) (map (λ (ds : List ℕ). b ∷ ds) (profiles m (suc b))),
      largest-map (value w i) b (profiles m (suc b)),
      largest-add (value w (suc i)) (w i b) (profiles m (suc b)) (profiles-some m b),
      largest-comp w i (suc m) b,
      largest-comp w (suc i) m (suc b),
    )

pub best-comp : (w : ℕ → ℕ → ℕ) (k q : ℕ) → best w k q ≡ comp w 0 k q
unfolding best
best-comp w k q = largest-comp w 0 k q

-- only the classes below s and the due times below q count
module _ (w w' : ℕ → ℕ → ℕ) where
  value-cong : (b i : ℕ) (ds : List ℕ) → ((x d : ℕ) → x < i + length ds → d < b → w x d ≡ w' x d) → Below b ds →
      value w i ds ≡ value w' i ds
  unfolding value
  value-cong b i [] h k = refl
  value-cong b i (d ∷ ds) h k = omega (
    arith,
    h i d (omega arith) k.0,
    value-cong b (suc i) ds
        (λ x d l m. h x d (omega arith) m) k.1,
  )

  pub comp-cong : (i m b : ℕ) → ((x d : ℕ) → x < i + m → d < b → w x d ≡ w' x d) → comp w i m b ≡ comp w' i m b
  unfolding comp
  comp-cong i zero b h = refl
  comp-cong i (suc m) b h =
      most-cong b _ _ (λ e l. omega (
        arith,
        h i e (omega arith) l,
        comp-cong (suc i) m (suc e)
            (λ x d p r. h x d (omega arith) (omega arith)),
      ))

  pub best-cong : (k q : ℕ) → ((x d : ℕ) → x < k → d < q → w x d ≡ w' x d) → best w k q ≡ best w' k q
  best-cong k q h = best-comp w k q ∙ (comp-cong 0 k q (λ x d l m. h x d (omega arith) m) ∙ sym (best-comp w' k q))

  pub overfull-cong : (room room' : ℕ → ℕ) (s q : ℕ) → ((x d : ℕ) → x < s → d < q → w x d ≡ w' x d) →
      ((k : ℕ) → k < s → room (suc k) ≡ room' (suc k))
      → first_overfull_at w room s q ≡ first_overfull_at w' room' s q
  unfolding first_from
  overfull-cong room room' zero q h r = overfull-zero w room q ∙ sym (overfull-zero w' room' q)
  overfull-cong room room' (suc s) q h r =
      overfull-suc w room q s
      ∙ (rw (overfull-cong room room' s q (λ x d l m. h x d (omega arith) m) (λ k l. r k (omega arith)), r s (omega arith))
      (ap (or_else (first_overfull_at w' room' s q))
      (first_cong (suc s) q _ _ (λ ds l b. ap (λ (v : ℕ). ltb (room' (suc s)) (0 + v))
      (value-cong q 0 ds (λ x d p m. h x d (omega (arith, l)) m) b)))
      ∙ sym (overfull-suc w' room' q s)))
