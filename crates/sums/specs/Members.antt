-- Laws of members: what holds of each member of a list, at a place and by its number, of two lists one behind the other, of an image.
use Rattle.std.specs.Prelude.{ℕ, zero, suc, ◌≤◌, ◌<◌, ◌≡◌, refl, List, [], ◌∷◌, ◌++◌, map, ◌⊎◌, length, get_or}
use Rattle.std.proofs.Common.{sym, ap, subst, inl, inr, arith, le_of_suc-le-suc}
use Rattle.sums.specs.Lists.{All, In, nth}

module _ {A : Type 0} where
  pub All-map : (P Q : A → Type 0) (xs : List A) → ((x : A) → P x → Q x) → All P xs → All Q xs
  All-map P Q [] f h = tt
  All-map P Q (x ∷ xs) f h = (f x h.0, All-map P Q xs f h.1)

  pub All-both : (P Q : A → Type 0) (xs : List A) → All P xs → All Q xs → All (λ x. P x × Q x) xs
  All-both P Q [] h k = tt
  All-both P Q (x ∷ xs) h k = ((h.0, k.0), All-both P Q xs h.1 k.1)

  pub All-append : (P : A → Type 0) (xs ys : List A) → All P xs → All P ys → All P (xs ++ ys)
  All-append P [] ys h k = k
  All-append P (x ∷ xs) ys h k = (h.0, All-append P xs ys h.1 k)

  pub All-in : (P : A → Type 0) (xs : List A) → All P xs → (x : A) → In x xs → P x
  All-in P [] h x i = absurd i
  All-in P (y ∷ ys) h x (inl e) = subst P (sym e) h.0
  All-in P (y ∷ ys) h x (inr i) = All-in P ys h.1 x i

  pub in-All : (P : A → Type 0) (xs : List A) → ((x : A) → In x xs → P x) → All P xs
  in-All P [] f = tt
  in-All P (x ∷ xs) f = (f x (inl refl), in-All P xs (λ y i. f y (inr i)))

  -- a member stands at a place, and what stands at a place is a member
  pub in-at : (xs : List A) (d x : A) → In x xs → (i : ℕ) × (i < length xs) × (get_or xs i d ≡ x)
  in-at [] d x i = absurd i
  in-at (y ∷ ys) d x (inl e) = (0, omega arith, sym e)
  in-at (y ∷ ys) d x (inr m) = let r = in-at ys d x m in (suc r.0, omega (arith, r.1), r.2)

  pub at_in : (xs : List A) (d : A) (i : ℕ) → i < length xs → In (get_or xs i d) xs
  at_in [] d i l = absurd (omega arith)
  at_in (y ∷ ys) d zero l = inl refl
  at_in (y ∷ ys) d (suc i) l = inr (at_in ys d i (le_of_suc-le-suc l))

  -- what holds of each member holds at each place, and the other way round
  pub All-at : (P : A → Type 0) (xs : List A) (d : A) → All P xs → (i : ℕ) → i < length xs → P (get_or xs i d)
  All-at P [] d h i l = absurd (omega arith)
  All-at P (x ∷ xs) d h zero l = h.0
  All-at P (x ∷ xs) d h (suc i) l = All-at P xs d h.1 i (le_of_suc-le-suc l)

  pub All-from : (P : A → Type 0) (xs : List A) (d : A) → ((i : ℕ) → i < length xs → P (get_or xs i d)) → All P xs
  All-from P [] d h = tt
  All-from P (x ∷ xs) d h = (h 0 (omega arith), All-from P xs d (λ i l. h (suc i) (omega arith)))

  -- what holds of each member holds of the one that a number names, and that one is a member
  pub All-nth : (P : A → Type 0) (xs : List A) (d : A) → All P xs → (k : ℕ) → 1 ≤ k → k ≤ length xs → P (nth xs k d)
  All-nth P xs d h zero l m = absurd (omega arith)
  All-nth P xs d h (suc k) l m = All-at P xs d h k m

  pub nth_in : (xs : List A) (d : A) (k : ℕ) → 1 ≤ k → k ≤ length xs → In (nth xs k d) xs
  nth_in xs d zero l m = absurd (omega arith)
  nth_in xs d (suc k) l m = at_in xs d k m

  -- where each place has a value of which P holds, a list of such values
  pub choose : (n : ℕ) (d : A) (P : ℕ → A → Type 0) → ((i : ℕ) → i < n → (x : A) × P i x) →
      (xs : List A) × (length xs ≡ n) × ((i : ℕ) → i < n → P i (get_or xs i d))
  choose zero d P f = ([], refl, λ i l. absurd (omega arith))
  choose (suc n) d P f =
      let first = f 0 (omega arith) in
      let rest = choose n d (λ i. P (suc i)) (λ i l. f (suc i) (omega arith)) in
      (first.0 ∷ rest.0, ap suc rest.1, at_place first.0 rest.0 first.1 rest.2)
    where
      at_place : (x : A) (xs : List A) → P 0 x → ((i : ℕ) → i < n → P (suc i) (get_or xs i d)) →
          (i : ℕ) → i < suc n → P i (get_or (x ∷ xs) i d)
      at_place x xs h k zero l = h
      at_place x xs h k (suc i) l = k i (le_of_suc-le-suc l)

  pub in-append : (xs ys : List A) (x : A) → In x (xs ++ ys) → In x xs ⊎ In x ys
  in-append [] ys x i = inr i
  in-append (y ∷ xs) ys x (inl e) = inl (inl e)
  in-append (y ∷ xs) ys x (inr i) = elim (in-append xs ys x i) [ inl m ↦ inl (inr m) | inr m ↦ inr m ]

  pub in_left : (xs ys : List A) (x : A) → In x xs → In x (xs ++ ys)
  in_left [] ys x i = absurd i
  in_left (y ∷ xs) ys x (inl e) = inl e
  in_left (y ∷ xs) ys x (inr i) = inr (in_left xs ys x i)

  pub in_right : (xs ys : List A) (x : A) → In x ys → In x (xs ++ ys)
  in_right [] ys x i = i
  in_right (y ∷ xs) ys x i = inr (in_right xs ys x i)

module _ {A B : Type 0} (f : A → B) where
  pub in_map : (xs : List A) (y : B) → In y (map f xs) → (x : A) × In x xs × (y ≡ f x)
  in_map [] y i = absurd i
  in_map (x ∷ xs) y (inl e) = (x, inl refl, e)
  in_map (x ∷ xs) y (inr i) = let r = in_map xs y i in (r.0, inr r.1, r.2)

  pub map-in : (xs : List A) (x : A) → In x xs → In (f x) (map f xs)
  map-in [] x i = absurd i
  map-in (y ∷ xs) x (inl e) = inl (ap f e)
  map-in (y ∷ xs) x (inr i) = inr (map-in xs x i)

  pub All-of-map : (P : B → Type 0) (xs : List A) → All (λ x. P (f x)) xs → All P (map f xs)
  All-of-map P [] h = tt
  All-of-map P (x ∷ xs) h = (h.0, All-of-map P xs h.1)
