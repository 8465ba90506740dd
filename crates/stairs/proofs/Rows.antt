-- The table of completions as it is filled, row by row, and the heaviest profile in its last entry.
use Prim.Native.Nat.{ℕ, suc, ◌+◌, ◌-◌, ◌*◌, ◌<◌, ◌≤◌}
use mathlib.Core.Path.{◌≡◌, sym, ap, ◌∙◌}
use mathlib.Core.List.{List, []}
use native.Mathlib.Omega.{arith}
use native.Mathlib.Decide.{ℕ_discrete}
use native.Mathlib.Numerals.{add-one}
use lib.ListN.{length, get_or, set}
use lib.Seq.{get_or-set_same, get_or-set_other}
use Rattle.sums.specs.Most.{most, most-cong}
use Rattle.sums.specs.Arrays.{RowOf}
use Rattle.stairs.specs.Places.{best}
use Rattle.stairs.specs.Tables.{cell, Small, Completed}
use Rattle.stairs.specs.CompletionLaws.{comp-le, comp-none, comp-suc, best-comp}

-- the table of completions at first: all 0
pub completed-none : (t c : List (List ℕ)) (s q : ℕ) → ((e : ℕ) → e < q → cell c 0 e ≡ 0) → Completed t s q 0 c
completed-none t c s q h =
    record { at = λ i m e p l b. let z : m ≡ 0 = omega arith in rw z (h e b ∙ sym (comp-none (cell t) i (suc e))) }

pub completed-more : (t c : List (List ℕ)) (s q m x : ℕ) (r : List ℕ) → m + 1 < length c → x + (m + 1) ≡ s →
    Completed t s q m c
    → RowOf (λ e. most (suc e) (λ y. cell t x y + cell c m y)) q r → Completed t s q (m + 1) (set c (m + 1) r)
completed-more t c s q m x r b p a f =
    record {
      at = λ i m' e p' l h.
          elim (ℕ_discrete m' (m + 1)) [
            | yes z ↦
                let xi : i ≡ x = omega arith in
                rw (z, xi, get_or-set_same c (m + 1) r [] b, add-one m, comp-suc (cell t) x m (suc e))
                (f.at e h ∙ most-cong (suc e) _ _
                (λ y k. ap (λ (v : ℕ). cell t x y + v) (a.at (suc x) m y (omega arith) (omega arith) (omega arith))))
            | no z ↦ rw (get_or-set_other c (m + 1) m' r [] z) (a.at i m' e p' (omega arith) h)
          ];
    }

pub completed-le : (t c : List (List ℕ)) (s q k i m e : ℕ) → Small t → Completed t s q k c → s ≤ 16 → q ≤ 48 → i + m ≡ s →
    m ≤ k → e < q → cell c m e ≤ m * 40000000
completed-le t c s q k i m e h a l b p n d =
    omega (arith, a.at i m e p n d, comp-le (cell t) h.at i m (suc e) (omega arith) (omega arith))

-- the last entry of the row in front is the heaviest profile's weight
pub heavy : (t c : List (List ℕ)) (k q : ℕ) (r : List ℕ) → 0 < q → Completed t (suc k) q k c →
    RowOf (λ e. most (suc e) (λ x. cell t 0 x + cell c k x)) q r → get_or r (q - 1) 0 ≡ best (cell t) (suc k) q
heavy t c k q r h a f =
    let z : suc (q - 1) ≡ q = omega arith in
    f.at (q - 1) (omega arith)
    ∙ (rw (z, best-comp (cell t) (suc k) q, comp-suc (cell t) 0 k q)
    (most-cong q _ _ (λ x l. ap (λ (v : ℕ). cell t 0 x + v) (a.at 1 k x (omega arith) (omega arith) l))))

pub heavy-le : (t : List (List ℕ)) (k q : ℕ) → Small t → k < 16 → q ≤ 48 → best (cell t) (suc k) q ≤ 640000000
heavy-le t k q h l m = omega (arith, best-comp (cell t) (suc k) q, comp-le (cell t) h.at 0 (suc k) q (omega arith) m)
