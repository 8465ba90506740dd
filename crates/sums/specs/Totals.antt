-- Laws of sums over the members of a list, and of a number behind a test.
use Rattle.std.specs.Prelude.{ℕ, zero, suc, ◌+◌, ◌*◌, ◌≤◌, ◌≡◌, refl, Bool, true, false, List, [], ◌∷◌, ◌++◌, eqb, length, get_or}
use Rattle.std.proofs.Common.{sym, ap, ◌∙◌, inl, inr, arith, eq-eqb, ne_eqb}
use Rattle.sums.specs.Sum.{sum, sum-cong, sum-add, sum-const, sum-at}
use Rattle.sums.specs.Gate.{gate, gate-add}
use Rattle.sums.specs.Lists.{All, In, total, only, tabulate, nth}
use Rattle.sums.specs.Places.{tabulate-get_or}

pub only-le : (b : Bool) (x : ℕ) → only b x ≤ x
only-le true x = omega arith
only-le false x = omega arith

-- equal, where the test is passed
pub only-cong : (b : Bool) (x y : ℕ) → (b ≡ true → x ≡ y) → only b x ≡ only b y
only-cong true x y h = h refl
only-cong false x y h = refl

-- nothing, where nothing passes the test
pub only_none : (b : Bool) (x : ℕ) → (b ≡ true → x ≡ 0) → only b x ≡ 0
only_none true x h = h refl
only_none false x h = refl

module _ {A : Type 0} where
  pub total-cong : (xs : List A) (f g : A → ℕ) → All (λ x. f x ≡ g x) xs → total xs f ≡ total xs g
  total-cong [] f g h = refl
  total-cong (x ∷ xs) f g h = omega (arith, total-cong xs f g h.1, h.0)

  pub total-le : (xs : List A) (f g : A → ℕ) → All (λ x. f x ≤ g x) xs → total xs f ≤ total xs g
  total-le [] f g h = omega arith
  total-le (x ∷ xs) f g h = omega (arith, total-le xs f g h.1, h.0)

  pub total-append : (xs ys : List A) (f : A → ℕ) → total (xs ++ ys) f ≡ total xs f + total ys f
  total-append [] ys f = omega arith
  total-append (x ∷ xs) ys f = omega (arith, total-append xs ys f)

pub sum_first : (n : ℕ) (f : ℕ → ℕ) → sum (suc n) f ≡ f 0 + sum n (λ i. f (suc i))
unfolding sum
sum_first zero f = omega arith
sum_first (suc n) f = omega (arith, sum_first n f)

pub total-tabulate : {A : Type 0} (n : ℕ) (f : ℕ → A) (g : A → ℕ) → total (tabulate n f) g ≡ sum n (λ i. g (f i))
unfolding sum
total-tabulate zero f g = refl
total-tabulate (suc n) f g = omega (arith, total-tabulate n (λ i. f (suc i)) g, sum_first n (λ i. g (f i)))

-- a sum of totals is the total of the sums
pub sum-total : {A : Type 0} (n : ℕ) (xs : List A) (f : ℕ → A → ℕ) → sum n (λ i. total xs (f i)) ≡ total xs (λ x. sum n (λ i. f i x))
sum-total n [] f = omega (arith, sum-const n 0)
sum-total n (x ∷ xs) f = omega (arith, sum-total n xs f, sum-add n (λ i. f i x) (λ i. total xs (f i)))

-- the sum over the members is the sum over the places
pub total-places : {A : Type 0} (xs : List A) (d : A) (f : A → ℕ) → total xs f ≡ sum (length xs) (λ i. f (get_or xs i d))
total-places xs d f =
    ap (λ (l : List _). total l f) (sym (tabulate-get_or xs d)) ∙ total-tabulate (length xs) (λ i. get_or xs i d) f

module _ {A : Type 0} where
  pub total-none : (xs : List A) (f : A → ℕ) → All (λ x. f x ≡ 0) xs → total xs f ≡ 0
  total-none [] f h = refl
  total-none (x ∷ xs) f h = omega (arith, total-none xs f h.1, h.0)

-- nothing comes through a gate where nothing comes
gate-none : (a b : ℕ) → gate a b 0 ≡ 0
gate-none a b = omega (arith, gate-add a b 0 0)

-- of the numbers 1 to n one is the given one
one_number : (n : ℕ) (rank : ℕ → ℕ) (k v number : ℕ) → 1 ≤ number → number ≤ n →
    sum n (λ i. gate (rank (suc i)) k (only (eqb number (suc i)) v)) ≡ gate (rank number) k v
one_number n rank k v zero l m = absurd (omega arith)
one_number n rank k v (suc p) l m =
    let term : ℕ → ℕ = λ i. gate (rank (suc i)) k (only (eqb (suc p) (suc i)) v) in
    let here : term p ≡ gate (rank (suc p)) k v
    = ap (λ (b : Bool). gate (rank (suc p)) k (only b v)) (eq-eqb (suc p) (suc p) refl) in
    omega (
      arith,
      here,
      sum-const n 0,
      sum-at n p term (λ _. 0) m (λ i ne.
          ap (λ (b : Bool). gate (rank (suc i)) k (only b v)) (ne_eqb (suc p) (suc i) (λ e. omega arith))
          ∙ gate-none (rank (suc i)) k),
    )

-- the sum over the numbers whose rank is below k, of the members with that number, is the sum over the members whose
-- number has a rank below k
pub by_number : {A : Type 0} (n : ℕ) (number : A → ℕ) (rank : ℕ → ℕ) (k : ℕ) (xs : List A) (f : A → ℕ) →
    All (λ x. (1 ≤ number x) × (number x ≤ n)) xs →
    sum n (λ i. gate (rank (suc i)) k (total xs (λ x. only (eqb (number x) (suc i)) (f x))))
    ≡ total xs (λ x. gate (rank (number x)) k (f x))
by_number n number rank k [] f h = omega (arith, sum-const n 0, sum-cong n _ (λ _. 0) (λ i l. gate-none (rank (suc i)) k))
by_number n number rank k (x ∷ xs) f h =
    let one : ℕ → ℕ = λ i. gate (rank (suc i)) k (only (eqb (number x) (suc i)) (f x)) in
    let more : ℕ → ℕ = λ i. gate (rank (suc i)) k (total xs (λ x. only (eqb (number x) (suc i)) (f x))) in
    omega (
      arith,
      sum-cong n _ (λ i. one i + more i) (λ i l. gate-add (rank (suc i)) k (only (eqb (number x) (suc i)) (f x)) _),
      sum-add n one more,
      one_number n rank k (f x) (number x) h.0.0 h.0.1,
      by_number n number rank k xs f h.1,
    )

-- a sum behind a test
pub sum-only-out : (n : ℕ) (b : Bool) (f : ℕ → ℕ) → sum n (λ i. only b (f i)) ≡ only b (sum n f)
sum-only-out n true f = refl
sum-only-out n false f = omega (arith, sum-const n 0)

-- a member counts in a total, and a total is at most as many times the most that a member counts
pub total-ge : {A : Type 0} (xs : List A) (f : A → ℕ) (x : A) → In x xs → f x ≤ total xs f
total-ge [] f x i = absurd i
total-ge (y ∷ xs) f x (inl e) = omega (arith, ap f e)
total-ge (y ∷ xs) f x (inr i) = omega (arith, total-ge xs f x i)

pub total-most : {A : Type 0} (xs : List A) (f : A → ℕ) (c : ℕ) → All (λ x. f x ≤ c) xs → total xs f ≤ length xs * c
total-most [] f c h = omega arith
total-most (x ∷ xs) f c h = omega (arith, total-most xs f c h.1, h.0)

-- a sum over the members is one over their numbers
pub total-numbers : {A : Type 0} (xs : List A) (d : A) (f : A → ℕ) →
    total xs f ≡ total (tabulate (length xs) suc) (λ i. f (nth xs i d))
total-numbers xs d f =
    total-places xs d f ∙ sym (total-tabulate (length xs) suc (λ i. f (nth xs i d)))

pub total-ones : {A : Type 0} (xs : List A) → total xs (λ x. 1) ≡ length xs
total-ones [] = refl
total-ones (x ∷ xs) = omega (arith, total-ones xs)
