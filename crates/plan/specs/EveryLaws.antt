-- `every` and `every_two` as facts: a test passes for each member, or for each two, exactly if it answers true; on a list that
-- is given by its places one place, or one pair of places, decides.
use Prim.Native.Nat.{ℕ, zero, suc, ◌<◌}
use Rattle.std.specs.Prelude.{◌≡◌, Bool, true, false, get_or}
use Rattle.std.proofs.Math.Path.{refl}
use Rattle.std.proofs.Common.{sym, ap, ◌∙◌, arith, le_of_suc-le-suc}
use Rattle.std.proofs.Math.Bool.{and-false}
use mathlib.Core.List.{List, [], ◌∷◌}
use Rattle.sums.specs.Lists.{All, Pairwise, tabulate}
use Rattle.sums.specs.Members.{All-at}
use Rattle.sums.specs.Pairs.{Pairwise-at}
use Rattle.sums.specs.Places.{length-tabulate, get_d_tabulate}
use Rattle.order.proofs.RefusalLaws.{both_true}
use Rattle.plan.specs.Check.{every, every_two}

module _ {A : Type 0} (test : A → Bool) where
  pub every_true : (xs : List A) → every test xs ≡ true → All (λ x. test x ≡ true) xs
  unfolding every
  every_true [] e = tt
  every_true (x ∷ xs) e = let h = both_true (test x) (every test xs) e in (h.0, every_true xs h.1)

  pub true-every : (xs : List A) → All (λ x. test x ≡ true) xs → every test xs ≡ true
  unfolding every
  true-every [] h = refl
  true-every (x ∷ xs) h = rw h.0 (true-every xs h.1)

  -- each place passes, or one fails
  pub every-places : (n : ℕ) (f : ℕ → A) → ((i : ℕ) → i < n → test (f i) ≡ true) → every test (tabulate n f) ≡ true
  unfolding every
  every-places zero f h = refl
  every-places (suc n) f h = rw (h 0 (omega arith)) (every-places n (λ i. f (suc i)) (λ i l. h (suc i) (omega arith)))

  pub every-fails : (n : ℕ) (f : ℕ → A) (i : ℕ) → i < n → test (f i) ≡ false → every test (tabulate n f) ≡ false
  unfolding every
  every-fails zero f i l h = absurd (omega arith)
  every-fails (suc n) f zero l h = rw h
  every-fails (suc n) f (suc i) l h = rw (every-fails n (λ i. f (suc i)) i (le_of_suc-le-suc l) h, and-false)

  -- a walk over the places that ends at the first that fails
  pub every-walked : (n : ℕ) (f : ℕ → A) (t : Bool) → (t ≡ true → (i : ℕ) → i < n → test (f i) ≡ true) →
      (t ≡ false → (i : ℕ) × (i < n) × (test (f i) ≡ false)) → t ≡ every test (tabulate n f)
  every-walked n f true pass fail = sym (every-places n f (pass refl))
  every-walked n f false pass fail = let h = fail refl in sym (every-fails n f h.0 h.1 h.2)

  -- and what its answer says of the places
  pub every-at : (n : ℕ) (f : ℕ → A) → every test (tabulate n f) ≡ true → (i : ℕ) → i < n → test (f i) ≡ true
  every-at n f e i l =
      ap test (sym (get_d_tabulate n f (f i) i l))
      ∙ All-at (λ x. test x ≡ true) (tabulate n f) (f i) (every_true (tabulate n f) e) i (rw length-tabulate l)

module _ {A : Type 0} (test : A → A → Bool) where
  pub every_two-true : (xs : List A) → every_two test xs ≡ true → Pairwise (λ x y. test x y ≡ true) xs
  unfolding every_two
  every_two-true [] e = tt
  every_two-true (x ∷ xs) e =
      let h = both_true (every (test x) xs) (every_two test xs) e in
      (every_true (test x) xs h.0, every_two-true xs h.1)

  pub true-every_two : (xs : List A) → Pairwise (λ x y. test x y ≡ true) xs → every_two test xs ≡ true
  unfolding every_two
  true-every_two [] h = refl
  true-every_two (x ∷ xs) h = rw (true-every (test x) xs h.0) (true-every_two xs h.1)

  pub every_two-places : (n : ℕ) (f : ℕ → A) → ((k i : ℕ) → k < i → i < n → test (f k) (f i) ≡ true) →
      every_two test (tabulate n f) ≡ true
  unfolding every_two
  every_two-places zero f h = refl
  every_two-places (suc n) f h =
      rw (every-places (test (f 0)) n (λ i. f (suc i)) (λ i l. h 0 (suc i) (omega arith) (omega arith)))
      (every_two-places n (λ i. f (suc i)) (λ k i l m. h (suc k) (suc i) (omega arith) (omega arith)))

  pub every_two-at : (n : ℕ) (f : ℕ → A) → every_two test (tabulate n f) ≡ true → (k i : ℕ) → k < i → i < n → test (f k) (f i) ≡ true
  every_two-at n f e k i l m =
      ap (λ (x : A). test x (f i)) (sym (get_d_tabulate n f (f k) k (omega arith)))
      ∙ ap (test (get_or (tabulate n f) k (f k))) (sym (get_d_tabulate n f (f k) i m))
      ∙ Pairwise-at (λ x y. test x y ≡ true) (tabulate n f) (f k) (every_two-true (tabulate n f) e) k i l (rw length-tabulate m)
