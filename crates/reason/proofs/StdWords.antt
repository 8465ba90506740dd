-- What std's methods answer, in this crate's words: the largest of n numbers, a quotient that is rounded up, what a filter keeps.
use Rattle.std.specs.Prelude.{ℕ, zero, suc, ◌+◌, ◌-◌, ◌/◌, ◌%◌, min, ◌<◌, ◌≤◌, ◌≡◌, refl, Bool, true, false, Option, Some, None, List, [], ◌∷◌, length, get_or}
use Rattle.std.specs.Option.{MatchOption, unwrap_or, option_map}
use Rattle.std.specs.List.{filter}
use Rattle.std.specs.Iterator.Runs.{Run}
use Rattle.std.proofs.Common.{sym, ap, ◌∙◌, arith, div-lt_iff_lt-mul}
use Rattle.std.proofs.lemmas.Grind.{div_ceil_times}
use Rattle.sums.specs.Most.{most, ceiling, most-none, most-le, most-ge}

-- the largest of f 0 .. f (n - 1), where there is one: none of them is above it, and it is one of them
abbrev pub Largest : ℕ → (ℕ → ℕ) → Option ℕ → Type 0
Largest n f top = MatchOption top (n ≡ 0) (λ m. ((j : ℕ) → j < n → f j ≤ m) × ((j : ℕ) × (j < n) × (f j ≡ m)))

pub largest-most : (n : ℕ) (f : ℕ → ℕ) (top : Option ℕ) → Largest n f top → unwrap_or top 0 ≡ most n f
largest-most n f None e = rw e (sym (most-none f))
largest-most n f (Some m) h = omega (arith, most-le n m f h.0, most-ge n h.1.0 f h.1.1, h.1.2)

pub ceiling-is : (a b : ℕ) → 0 < b → a / b + min 1 (a % b) ≡ ceiling a b
ceiling-is a b p =
    let t = div_ceil_times a b p in
    let c : ℕ = a / b + min 1 (a % b) in
    let below : ceiling a b < suc c = (div-lt_iff_lt-mul {k = b} {x = a + (b - 1)} {y = suc c} p).1 (omega (arith, t.0)) in
    let not-below : ¬ (ceiling a b < c) = λ h. omega (arith, (div-lt_iff_lt-mul {k = b} {x = a + (b - 1)} {y = c} p).0 h, t.1) in
    omega arith

-- of a number that is given otherwise
pub ceiling-as : {a b r : ℕ} → r ≡ a / b + min 1 (a % b) → 0 < b → (c : ℕ) → a ≡ c → r ≡ ceiling c b
ceiling-as {a} {b} {r} h p c e = h ∙ ceiling-is a b p ∙ ap (λ (x : ℕ). ceiling x b) e

-- a member that passes a test is kept
filter-keeps : (test : ℕ → Bool) (xs : List ℕ) (j : ℕ) → j < length xs → test (get_or xs j 0) ≡ true →
    (k : ℕ) × (k < length (filter test xs)) × (get_or (filter test xs) k 0 ≡ get_or xs j 0)
filter-keeps test [] j l e = absurd (omega arith)
filter-keeps test (x ∷ xs) zero l e = rw e (0, omega arith, refl)
filter-keeps test (x ∷ xs) (suc j) l e = at (test x) refl (filter-keeps test xs j (omega arith) e)
  where
    at : (b : Bool) → test x ≡ b → (k : ℕ) × (k < length (filter test xs)) × (get_or (filter test xs) k 0 ≡ get_or xs j 0) →
        (k : ℕ) × (k < length (filter test (x ∷ xs))) × (get_or (filter test (x ∷ xs)) k 0 ≡ get_or xs j 0)
    at true b h = rw b (suc h.0, omega (arith, h.1), h.2)
    at false b h = rw b h

-- what a run of q gives and passes the test is given by p
pub kept : {S T : Type 0} {steps : S → Option ℕ → S → Type 0} {source : T → Option ℕ → T → Type 0} (p : Run steps) (q : Run source)
    (test : ℕ → Bool) → p.items ≡ filter test q.items →
    (j x : ℕ) → j < q.len → option_map (λ y. y) (q.at j) ≡ Some x → test x ≡ true →
    (k : ℕ) × (k < p.len) × (option_map (λ y. y) (p.at k) ≡ Some x)
kept p q test e j x l is passes =
    let same : get_or q.items j 0 ≡ x = cc (q.reads j 0 l) in
    let h = filter-keeps test q.items j (omega (arith, q.long)) (ap test same ∙ passes) in
    let within : h.0 < p.len = omega (arith, h.1, p.long, ap length e) in
    (h.0, within, p.reads h.0 0 within ∙ ap Some (ap (λ (xs : List ℕ). get_or xs h.0 0) e ∙ h.2 ∙ same))
