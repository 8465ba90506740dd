-- What the booked planners' answers say, of the order as it was read and as the file has it, of the bound as it was passed and as the
-- machine reads it back, and of the counts as they were copied and as they were lent.
use Rattle.std.specs.Prelude.{Result, Ok, Err}
use Prim.Native.Nat.{ℕ}
use mathlib.Core.Path.{◌≡◌, subst}
use mathlib.Core.List.{List}
use lib.IntN.{ℤ}
use lib.ListN.{length}
use Rattle.order.specs.Order.{Order}
use Rattle.order.specs.Refusals.{Verdict, accepted, refused, judge}
use Rattle.order.specs.Table.{refusal_told}
use Rattle.order.specs.declared.Refusal.{Refusal}
use Rattle.book.specs.Book.{booked_by}
use Rattle.planner.specs.AnswerLaws.{PlanToldBy, refused-by-plan, tight-by-plan, rows-by-plan, LeastToldBy, refused-by-least, at-by-least}
use Rattle.planner.specs.Rows.{booked_least_rows, booked_plan_rows}
use Rattle.planner.specs.Written.{Written}
use Rattle.planner.specs.declared.Least.{Least}
use Rattle.planner.specs.declared.NoPlan.{NoPlan}
use Rattle.planner.specs.declared.NoPlan.TheVariants.{Refused, TooTight}
use Rattle.profile.specs.Least.{least_lateness}
use Rattle.reason.specs.declared.Reason.{Reason}

-- at a bound: what was answered, and the counts that the book was left with
abbrev pub BookTold : Order → ℤ → List ℕ → List ℕ → List ℕ → List ℕ → Result ℕ NoPlan → Type 0
BookTold o bound rows rows' counts left p =
    PlanToldBy (judge (booked_plan_rows o bound (length rows) counts)) o bound rows rows' p
    × (left ≡ booked_by (judge (booked_plan_rows o bound (length rows) counts)) o counts)

pub book-moved : (o o' : Order) (read bound : ℤ) (rows rows' counts counts' left : List ℕ) (p : Result ℕ NoPlan) → o ≡ o' →
    read ≡ bound → counts ≡ counts' → BookTold o read rows rows' counts left p → BookTold o' bound rows rows' counts' left p
book-moved o o' read bound rows rows' counts counts' left p e f g t =
    subst (λ (cs : List ℕ). BookTold o' bound rows rows' cs left p) g
    (subst (λ (z : ℤ). BookTold o' z rows rows' counts left p) f (subst (λ (x : Order). BookTold x read rows rows' counts left p) e t))

module _ (o : Order) (bound : ℤ) (rows rows' counts left : List ℕ) (p : Result ℕ NoPlan) (t : BookTold o bound rows rows' counts left p) where
  abbrev v : Verdict
  v = judge (booked_plan_rows o bound (length rows) counts)

  pub booked-refused : (why : Refusal) → p ≡ Err (Refused why) → (v ≡ refusal_told why) × (rows' ≡ rows)
  booked-refused = refused-by-plan v o bound rows rows' p t.0

  pub booked-tight : (reason : Reason) (dues : List ℤ) → p ≡ Err (TooTight reason dues) → (v ≡ refused 10 0) × (rows' ≡ rows)
  booked-tight = tight-by-plan v o bound rows rows' p t.0

  pub booked-rows : (count : ℕ) → p ≡ Ok count → (v ≡ accepted) × Written o bound rows rows' count
  booked-rows = rows-by-plan v o bound rows rows' p t.0

-- at the least lateness
abbrev pub LeastBookTold : Order → List ℕ → List ℕ → List ℕ → List ℕ → Result Least Refusal → Type 0
LeastBookTold o rows rows' counts left l =
    LeastToldBy (judge (booked_least_rows o (length rows) counts)) o rows rows' l
    × (left ≡ booked_by (judge (booked_least_rows o (length rows) counts)) o counts)

pub least-book-moved : (o o' : Order) (rows rows' counts counts' left : List ℕ) (l : Result Least Refusal) → o ≡ o' → counts ≡ counts' →
    LeastBookTold o rows rows' counts left l → LeastBookTold o' rows rows' counts' left l
least-book-moved o o' rows rows' counts counts' left l e g t =
    subst (λ (cs : List ℕ). LeastBookTold o' rows rows' cs left l) g
    (subst (λ (x : Order). LeastBookTold x rows rows' counts left l) e t)

module _ (o : Order) (rows rows' counts left : List ℕ) (l : Result Least Refusal) (t : LeastBookTold o rows rows' counts left l) where
  abbrev w : Verdict
  w = judge (booked_least_rows o (length rows) counts)

  pub least-book-refused : (why : Refusal) → l ≡ Err why → (w ≡ refusal_told why) × (rows' ≡ rows)
  least-book-refused = refused-by-least w o rows rows' l t.0

  pub least-book-at : (k : Least) → l ≡ Ok k →
      (w ≡ accepted) × (k.lateness ≡ least_lateness o) × Written o (least_lateness o) rows rows' k.rows
  least-book-at = at-by-least w o rows rows' l t.0
