-- What the plan check's answer says of the verdict.
use Rattle.std.specs.Prelude.{Result, Ok, Err}
use Prim.Native.Nat.{ℕ}
use mathlib.Core.Path.{◌≡◌, refl, subst}
use mathlib.Core.Bool.{Bool, true, false, cond}
use mathlib.Core.List.{List, [], ◌∷◌, ◌++◌}
use lib.IntN.{ℤ}
use mir.Val.{bool_byte}
use lib.ListN.{length}
use Rattle.order.specs.Order.{Order}
use Rattle.order.specs.Refusals.{limits, accepted, judge, answer_by, order_rows, bound_row, rows_to_check_row}
use Rattle.order.specs.Table.{refusal_told}
use Rattle.order.specs.declared.Refusal.{Refusal}
use Rattle.plan.specs.Check.{is_right, check_rows}
use Rattle.plan.specs.Told.{checked_told}
use Rattle.order.proofs.TableLaws.{verdict-refused, verdict-accepted}

pub check-begins : (o : Order) (bound : ℤ) (n : ℕ) →
    check_rows o bound n ≡ order_rows limits o ++ (bound_row bound ∷ rows_to_check_row n ∷ [])
unfolding check_rows
check-begins o bound n = refl

abbrev pub CheckTold : Order → ℤ → List ℕ → Result Bool Refusal → Type 0
CheckTold o bound rows c = checked_told c ≡ answer_by (judge (check_rows o bound (length rows))) (is_right o bound rows)

pub check-moved : (o o' : Order) (read bound : ℤ) (rows : List ℕ) (c : Result Bool Refusal) → o ≡ o' → read ≡ bound →
    CheckTold o read rows c → CheckTold o' bound rows c
check-moved o o' read bound rows c e f t =
    subst (λ (z : ℤ). CheckTold o' z rows c) f (subst (λ (x : Order). CheckTold x read rows c) e t)

module _ (o : Order) (bound : ℤ) (rows : List ℕ) (c : Result Bool Refusal) (t : CheckTold o bound rows c) where
  pub check-refused : (why : Refusal) → c ≡ Err why → judge (check_rows o bound (length rows)) ≡ refusal_told why
  check-refused why e = verdict-refused _ why false (is_right o bound rows) (subst (CheckTold o bound rows) e t)

  pub check-done : (right : Bool) → c ≡ Ok right → (judge (check_rows o bound (length rows)) ≡ accepted) × (right ≡ is_right o bound rows)
  check-done right e = verdict-accepted _ right (is_right o bound rows) (subst (CheckTold o bound rows) e t)

-- yes and no as a number
pub number-told : (right : Bool) → bool_byte right ≡ cond right 1 0
number-told true = refl
number-told false = refl
