-- Findings: what a search through a list comes to, numbers that stand for a finding, a time in and out of range.
use Rattle.std.specs.Prelude.{ℕ, zero, suc, ◌+◌, ◌≤◌, ◌<◌, ◌≡◌, refl, Bool, true, false, not, List, [], ◌∷◌, length, get_or}
use Rattle.std.proofs.Common.{sym, ap, ◌∙◌, arith, le_of_suc-le-suc, add-one, le-leb}
use Rattle.std.proofs.Math.Bool.{and-false}
use Rattle.std.proofs.lemmas.Bool.{lt-leb}
use Rattle.sums.specs.Lists.{All, tabulate}
use Rattle.order.specs.Refusals.{clear, holds, first_after, first, time_in_range}
use Rattle.order.specs.Table.{finding_of}
use Rattle.order.proofs.RefusalLaws.{first-tabulate, none-tabulate}

-- no member passes a test, or the one at the place i does, and none before it
pub data Outcome {A : Type 0} (test : A → Bool) (d : A) (k : ℕ) (xs : List A) : Type 0 where
  none_passes : first_after k test xs ≡ clear → All (λ x. test x ≡ false) xs → Outcome test d k xs
  passes_at : (i : ℕ) → first_after k test xs ≡ holds (suc (k + i)) → i < length xs →
      ((e : ℕ) → e < i → test (get_or xs e d) ≡ false) → test (get_or xs i d) ≡ true → Outcome test d k xs

pub outcome : {A : Type 0} (test : A → Bool) (d : A) (k : ℕ) (xs : List A) → Outcome test d k xs
unfolding first_after
outcome test d k [] = none_passes refl tt
outcome {A} test d k (x ∷ xs) = go (test x) refl (outcome test d (suc k) xs)
  where
    earlier : (i : ℕ) → test x ≡ false → ((e : ℕ) → e < i → test (get_or xs e d) ≡ false) → (e : ℕ) → e < suc i →
        test (get_or (x ∷ xs) e d) ≡ false
    earlier i t f zero l = t
    earlier i t f (suc e) l = f e (le_of_suc-le-suc l)

    go : (b : Bool) → test x ≡ b → Outcome test d (suc k) xs → Outcome test d k (x ∷ xs)
    go true t r =
        passes_at 0 (rw t (ap (λ (n : ℕ). holds (suc n)) (omega arith))) (omega arith) (λ e l. absurd (omega arith)) t
    go false t (none_passes e a) = none_passes (rw t e) (t, a)
    go false t (passes_at i e l f p) =
        passes_at (suc i) (rw t (e ∙ ap (λ (n : ℕ). holds (suc n)) (omega arith))) (omega arith) (earlier i t f) p

-- the first that passes, found in a walk over the places of a list; or none is found
module _ {A : Type 0} (test : A → Bool) (n : ℕ) (f : ℕ → A) (j : ℕ) (before : (e : ℕ) → e < j → test (f e) ≡ false) where
  pub walk-found : j < n → test (f j) ≡ true → finding_of (j + 1) ≡ first test (tabulate n f)
  walk-found l here = rw add-one (sym (first-tabulate test n f j l before here))

  pub walk_none : n ≤ j → finding_of 0 ≡ first test (tabulate n f)
  walk_none l = sym (none-tabulate test n f (λ e b. before e (omega arith)))

-- two searches through lists as long find the same where their tests agree
agree_after : {A B : Type 0} (p : A → Bool) (q : B → Bool) (k n : ℕ) (f : ℕ → A) (g : ℕ → B) → ((i : ℕ) → p (f i) ≡ q (g i)) →
    first_after k p (tabulate n f) ≡ first_after k q (tabulate n g)
unfolding first_after
agree_after p q k zero f g agree = refl
agree_after p q k (suc n) f g agree =
    rw (agree 0, agree_after p q (suc k) n (λ i. f (suc i)) (λ i. g (suc i)) (λ i. agree (suc i)))

pub first-agree : {A B : Type 0} (p : A → Bool) (q : B → Bool) (n : ℕ) (f : ℕ → A) (g : ℕ → B) → ((i : ℕ) → p (f i) ≡ q (g i)) →
    first p (tabulate n f) ≡ first q (tabulate n g)
first-agree p q n f g agree = agree_after p q 0 n f g agree

-- a number that stands for a finding
pub finding-some : (j : ℕ) → 0 < j → finding_of j ≡ holds j
finding-some zero h = absurd (omega arith)
finding-some (suc j) h = refl

pub finding-none : (j : ℕ) → j ≤ 0 → finding_of j ≡ clear
finding-none zero h = refl
finding-none (suc j) h = absurd (omega arith)

pub time-low : (t : ℕ) → t < 1 → not (time_in_range t) ≡ true
time-low t h = rw (lt-leb 1 t h)

pub time-high : (t : ℕ) → 100000 < t → not (time_in_range t) ≡ true
time-high t h = rw (lt-leb t 100000 h, and-false)

pub time-good : (t : ℕ) → 1 ≤ t → t ≤ 100000 → not (time_in_range t) ≡ false
time-good t h k = rw (le-leb 1 t h, le-leb t 100000 k)

-- what a test says that stands for another
pub not-of : (b t : Bool) → t ≡ b → not t ≡ false → not b ≡ false
not-of b t e f = rw (sym e) f

pub not_of_false : (b t : Bool) → t ≡ b → not t ≡ true → not b ≡ true
not_of_false b t e f = rw (sym e) f
