-- An array made by `array::from_fn`, whose closure changes nothing that it reads: its element at each place is the closure's answer.
use Rattle.std.specs.Prelude.{ℕ, zero, suc, ◌+◌, ◌<◌, ◌≤◌, ◌≡◌, List, length, get_or}
use Rattle.std.specs.Fn.{Called, Mut}
use Rattle.std.specs.Array.{IsFromFnResult, IsFromFnResultFrom}
use Rattle.std.proofs.Common.{arith, ap, sym, subst, ◌∙◌}
use Rattle.std.proofs.Math.Decide.{dec_lt}
use Rattle.sums.specs.Arrays.{RowOf}
use Rattle.sums.specs.Lists.{tabulate}
use Rattle.sums.specs.Places.{tabulate-get_or, tabulate-cong}

module _ {F B : Type 0} (g : Mut F (ℕ × Unit {0}) B) (first : F) (h : ℕ → B) where
  -- each call from the first state, at a place below n, answers h there and leaves the state as it was
  abbrev pub Answers : ℕ → Type 0
  Answers n = (i : ℕ) (y : B) (q : F) → i < n → Called g first (i, tt) y q → (y ≡ h i) × (q ≡ first)

  each-from : (n i m : ℕ) (ys : List B) → i + m ≤ n → Answers n → IsFromFnResultFrom g first ys i m → (j : ℕ) (d : B) → i ≤ j →
      j < i + m → get_or ys j d ≡ h j
  each-from n i zero ys le answers each j d low high = absurd (omega arith)
  each-from n i (suc m) ys le answers (q, y, at, call, rest) j d low high =
      let step : (y ≡ h i) × (q ≡ first) = answers i y q (omega arith) call in
      let later : IsFromFnResultFrom g first ys (i + 1) m = subst (λ (p : F). IsFromFnResultFrom g p ys (i + 1) m) step.1 rest in
      elim (dec_lt i j) as (λ _. get_or ys j d ≡ h j) [
        | yes l ↦ each-from n (i + 1) m ys (omega arith) answers later j d (omega arith) (omega arith)
        | no l ↦ let same : j ≡ i = omega arith in rw same (rw (at.1 d) step.0)
      ]

  module _ {n : ℕ} (r : List B) (answers : Answers n) (made : IsFromFnResult g first r n) where
    -- the element at each place
    pub from_fn-at : (j : ℕ) (d : B) → j < n → get_or r j d ≡ h j
    from_fn-at j d l = each-from n 0 n r (omega arith) answers made.each j d (omega arith) (omega arith)

    -- the array as a list
    pub from_fn-list : r ≡ tabulate n h
    from_fn-list =
        let long : length r ≡ n = made.long in
        sym (tabulate-get_or r (h 0)) ∙ (ap (λ (k : ℕ). tabulate k (λ i. get_or r i (h 0))) long
        ∙ tabulate-cong n (λ i. get_or r i (h 0)) h (λ j l. from_fn-at j (h 0) l))

module _ {F : Type 0} (g : Mut F (ℕ × Unit {0}) ℕ) (first : F) (h : ℕ → ℕ) where
  -- the array as a row
  pub from_fn-row : {n : ℕ} (r : List ℕ) → Answers g first h n → IsFromFnResult g first r n → RowOf h n r
  from_fn-row r answers made = record { at = λ d l. from_fn-at g first h r answers made d 0 l }
