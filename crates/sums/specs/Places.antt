-- Laws of lists given by their places, and of the numbers 1 to n.
use Rattle.std.specs.Prelude.{ℕ, zero, suc, ◌+◌, ◌≤◌, ◌<◌, ◌≡◌, refl, List, [], ◌∷◌, ◌++◌, map, ◌≢◌, length, get_or, take, set, replicate}
use Rattle.std.proofs.Common.{ap, ◌∙◌, subst, arith, le_of_suc-le-suc, add-one}
use Rattle.sums.specs.Lists.{All, In, Pairwise, tabulate}
use Rattle.sums.specs.Members.{at_in, All-from}
use Rattle.sums.specs.Pairs.{Pairwise-from}

module _ {A : Type 0} where
  pub length-tabulate : (n : ℕ) (f : ℕ → A) → length (tabulate n f) ≡ n
  length-tabulate zero f = refl
  length-tabulate (suc n) f = ap suc (length-tabulate n (λ i. f (suc i)))

  pub get_d_tabulate : (n : ℕ) (f : ℕ → A) (d : A) (i : ℕ) → i < n → get_or (tabulate n f) i d ≡ f i
  get_d_tabulate zero f d i l = absurd (omega arith)
  get_d_tabulate (suc n) f d zero l = refl
  get_d_tabulate (suc n) f d (suc i) l = get_d_tabulate n (λ i. f (suc i)) d i (le_of_suc-le-suc l)

  pub tabulate-cong : (n : ℕ) (f g : ℕ → A) → ((i : ℕ) → i < n → f i ≡ g i) → tabulate n f ≡ tabulate n g
  tabulate-cong zero f g h = refl
  tabulate-cong (suc n) f g h =
      cc (h 0 (omega arith), tabulate-cong n (λ i. f (suc i)) (λ i. g (suc i)) (λ i l. h (suc i) (omega arith)))

  tabulate-suc : (n : ℕ) (f : ℕ → A) → tabulate (suc n) f ≡ tabulate n f ++ (f n ∷ [])
  tabulate-suc zero f = refl
  tabulate-suc (suc n) f = ap (λ (l : List A). f 0 ∷ l) (tabulate-suc n (λ i. f (suc i)))

  -- one place more stands at the end
  pub tabulate-more : (n : ℕ) (f : ℕ → A) → tabulate (n + 1) f ≡ tabulate n f ++ (f n ∷ [])
  tabulate-more n f = ap (λ (k : ℕ). tabulate k f) (add-one n) ∙ tabulate-suc n f

  -- a function of each place
  pub get_or-tabulate-map : {B : Type 0} (g : A → B) (n : ℕ) (f : ℕ → A) (d : A) (i : ℕ) →
      g (get_or (tabulate n f) i d) ≡ get_or (tabulate n (λ k. g (f k))) i (g d)
  get_or-tabulate-map g zero f d i = refl
  get_or-tabulate-map g (suc n) f d zero = refl
  get_or-tabulate-map g (suc n) f d (suc i) = get_or-tabulate-map g n (λ k. f (suc k)) d i

  -- a list is given by its places
  pub tabulate-get_or : (xs : List A) (d : A) → tabulate (length xs) (λ i. get_or xs i d) ≡ xs
  tabulate-get_or [] d = refl
  tabulate-get_or (x ∷ xs) d = ap (λ (l : List A). x ∷ l) (tabulate-get_or xs d)

-- the numbers 1 to n: each is there, no other, and they rise
pub numbers-are : (n : ℕ) → All (λ k. (1 ≤ k) × (k ≤ n)) (tabulate n suc)
numbers-are n =
    All-from _ (tabulate n suc) 0
    (λ i l. let b : i < n = rw length-tabulate at l in omega (arith, get_d_tabulate n suc 0 i b))

pub numbers-in : (n k : ℕ) → 1 ≤ k → k ≤ n → In k (tabulate n suc)
numbers-in n zero h l = absurd (omega arith)
numbers-in n (suc k) h l =
    subst (λ (x : ℕ). In x (tabulate n suc)) (get_d_tabulate n suc 0 k l)
    (at_in (tabulate n suc) 0 k (omega (arith, length-tabulate n suc)))

pub numbers-rise : (n : ℕ) → Pairwise (λ x y. x < y) (tabulate n suc)
numbers-rise n =
    Pairwise-from _ (tabulate n suc) 0
    (λ i k l m. let b : k < n = rw length-tabulate at m in
    omega (arith, get_d_tabulate n suc 0 i (omega arith), get_d_tabulate n suc 0 k b))

module _ {A B : Type 0} (f : A → B) where
  pub get_d_map : (xs : List A) (d : B) (e : A) (i : ℕ) → i < length xs → get_or (map f xs) i d ≡ f (get_or xs i e)
  get_d_map [] d e i l = absurd (omega arith)
  get_d_map (x ∷ xs) d e zero l = refl
  get_d_map (x ∷ xs) d e (suc i) l = get_d_map xs d e i (le_of_suc-le-suc l)

-- a list given by its places, with one of them changed
pub set-tabulate : {A : Type 0} (n : ℕ) (f g : ℕ → A) (i : ℕ) (v : A) → g i ≡ v → ((k : ℕ) → k < n → k ≢ i → f k ≡ g k) →
    set (tabulate n f) i v ≡ tabulate n g
set-tabulate zero f g i v e h = refl
set-tabulate (suc n) f g zero v e h =
    cc (e, tabulate-cong n (λ k. f (suc k)) (λ k. g (suc k)) (λ k l. h (suc k) (omega arith) (omega arith)))
set-tabulate (suc n) f g (suc i) v e h =
    cc (
      h 0 (omega arith) (omega arith),
      set-tabulate n (λ k. f (suc k)) (λ k. g (suc k)) i v e (λ k l d. h (suc k) (omega arith) (omega arith)),
    )

pub replicate-tabulate : {A : Type 0} (n : ℕ) (a : A) → replicate n a ≡ tabulate n (λ _. a)
replicate-tabulate zero a = refl
replicate-tabulate (suc n) a = ap (λ (l : List _). a ∷ l) (replicate-tabulate n a)

-- the places of a list, and more behind them: the first ones are the list
pub take-tabulate : {A : Type 0} (xs : List A) (k : ℕ) (d : A) → length xs ≤ k →
    take (length xs) (tabulate k (λ i. get_or xs i d)) ≡ xs
take-tabulate [] k d h = refl
take-tabulate (x ∷ xs) zero d h = absurd (omega arith)
take-tabulate (x ∷ xs) (suc k) d h = ap (λ (l : List _). x ∷ l) (take-tabulate xs k d (le_of_suc-le-suc h))

-- the image of a list given by its places
pub map-tabulate : {A B : Type 0} (g : A → B) (n : ℕ) (f : ℕ → A) → map g (tabulate n f) ≡ tabulate n (λ i. g (f i))
map-tabulate g zero f = refl
map-tabulate g (suc n) f = ap (λ (l : List _). g (f 0) ∷ l) (map-tabulate g n (λ i. f (suc i)))

-- the front of a list by its places
pub front-tabulate : {A : Type 0} (xs : List A) (n : ℕ) (d : A) → n ≤ length xs → take n xs ≡ tabulate n (λ i. get_or xs i d)
front-tabulate xs zero d h = refl
front-tabulate [] (suc n) d h = absurd (omega arith)
front-tabulate (x ∷ xs) (suc n) d h = ap (λ (l : List _). x ∷ l) (front-tabulate xs n d (le_of_suc-le-suc h))
