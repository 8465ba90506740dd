-- What a number names; values by place, stored one after the other at their numbers.
use Prim.Native.Nat.{ℕ, zero, suc, ◌-◌, ◌≤◌, ◌<◌}
use mathlib.Core.Path.{◌≡◌, sym, ap, ◌∙◌}
use mathlib.Core.List.{List}
use native.Mathlib.Omega.{arith}
use lib.ListN.{get_or}
use Rattle.sums.specs.Arrays.{RowOf}
use Rattle.sums.specs.Lists.{nth}
use Rattle.table.specs.Held.{EachOnce, beside, value_of}
use Rattle.table.specs.HeldLaws.{value-at}

-- what a number names
pub named : (values : List ℕ) (x : ℕ) → 1 ≤ x → get_or values (x - 1) 0 ≡ nth values x 0
named values zero h = absurd (omega arith)
named values (suc x) h = ap (λ (i : ℕ). get_or values i 0) (omega arith)

module _ (numbers : List ℕ) (n : ℕ) (E : EachOnce n (beside numbers)) (few : n ≤ 48) (values : List ℕ) where
  -- those of the first k places stand at their numbers
  abbrev pub Scattered : ℕ → List ℕ → Type 0
  Scattered k r = (i : ℕ) → i < k → get_or r (beside numbers i - 1) 0 ≡ get_or values i 0

  -- with all stored, each number has the value at its place
  pub scatter-all : (r : List ℕ) → Scattered n r → RowOf (λ j. value_of numbers n values (suc j)) n r
  scatter-all r h =
      record {
        at = λ j l.
            let p = E.place (suc j) (omega arith, l) in
            let e : j ≡ beside numbers p.0 - 1 = omega (arith, p.2) in
            ap (λ (x : ℕ). get_or r x 0) e ∙ h p.0 p.1 ∙ sym (value-at numbers n E values p.0 p.1)
            ∙ ap (value_of numbers n values) p.2;
      }
