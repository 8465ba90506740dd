-- An array made by `array::from_fn`, whose closure answers for the first n places, gives the same thing at the others, and changes nothing
-- that it reads.
use Rattle.std.specs.Prelude.{ℕ, zero, suc, ◌<◌, ◌≤◌, ◌≡◌, refl, List, get_or}
use Rattle.std.specs.Fn.{Called, Mut}
use Rattle.std.specs.Array.{IsFromFnResult}
use Rattle.std.proofs.Common.{arith, ◌∙◌, sym}
use Rattle.std.proofs.Math.Decide.{dec_lt}
use Rattle.sums.specs.Arrays.{RowOf}
use Rattle.sums.specs.FromFn.{from_fn-list}
use Rattle.sums.specs.Lists.{tabulate}
use Rattle.sums.specs.Places.{get_d_tabulate}

-- beyond the places of a list
pub beyond-tabulate {ℓ} : {A : Type ℓ} (n : ℕ) (f : ℕ → A) (d : A) (i : ℕ) → n ≤ i → get_or (tabulate n f) i d ≡ d
beyond-tabulate zero f d i l = refl
beyond-tabulate (suc n) f d zero l = absurd (omega arith)
beyond-tabulate (suc n) f d (suc i) l = beyond-tabulate n (λ k. f (suc k)) d i (omega arith)

module _ {F B : Type 0} (g : Mut F (ℕ × Unit {0}) B) (first : F) (n : ℕ) (d : B) (h : ℕ → B) where
  -- each call from the first state, at a place below N, answers h there if it is below n, else d, and leaves the state as it was
  abbrev pub AnswersFirst : ℕ → Type 0
  AnswersFirst N =
      (i : ℕ) (y : B) (q : F) → i < N → Called g first (i, tt) y q → (i < n → y ≡ h i) × (n ≤ i → y ≡ d) × (q ≡ first)

  -- the array as a list
  pub from_fn-first : {N : ℕ} (r : List B) → AnswersFirst N → IsFromFnResult g first r N → r ≡ tabulate N (λ i. get_or (tabulate n h) i d)
  from_fn-first r answers made =
      from_fn-list g first (λ i. get_or (tabulate n h) i d) r
      (λ i y q l call.
      let a = answers i y q l call in (
        elim (dec_lt i n) [
          | yes b ↦ a.0 b ∙ sym (get_d_tabulate n h d i b)
          | no b ↦ a.1 (omega arith) ∙ sym (beyond-tabulate n h d i (omega arith))
        ],
        a.2,
      ))
      made

module _ {F : Type 0} (g : Mut F (ℕ × Unit {0}) ℕ) (first : F) (n : ℕ) (h : ℕ → ℕ) where
  -- the first n elements as a row
  pub from_fn-first-row : {N : ℕ} (r : List ℕ) → n ≤ N → AnswersFirst g first n 0 h N → IsFromFnResult g first r N → RowOf h n r
  from_fn-first-row {N} r few answers made =
      record {
        at = λ j l.
            rw (from_fn-first g first n 0 h r answers made) (get_d_tabulate N (λ i. get_or (tabulate n h) i 0) 0 j (omega arith)
            ∙ get_d_tabulate n h 0 j l);
      }
