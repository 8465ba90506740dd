-- What the planner's answers say of the verdict and of the lent rows. The order is told twice, as it was read and as the file has
-- it, and the bound as it was passed and as the machine reads it back.
use Rattle.std.specs.Prelude.{ℕ, ◌≡◌, refl, false, List, [], ◌∷◌, ◌++◌, eqb, ℤ, length, Result, Ok, Err}
use Rattle.std.proofs.Common.{sym, ap, ◌∙◌, subst, append_assoc}
use Rattle.order.specs.Order.{Order}
use Rattle.order.specs.Refusals.{limits, TableRow, Verdict, accepted, refused, judge, answer_by, order_rows, bound_row, tight_row}
use Rattle.order.specs.Table.{refusal_told, number_by}
use Rattle.order.proofs.TableLaws.{refused-told, not-ten, refused-by, verdict-refused, verdict-accepted}
use Rattle.order.specs.declared.Refusal.{Refusal}
use Rattle.profile.specs.Least.{least_lateness}
use Rattle.profile.specs.Reason.{Reason as TightReason}
use Rattle.profile.specs.Search.{Found, nothing, reason_of}
use Rattle.book.specs.Book.{book_row}
use Rattle.planner.specs.Rows.{buffer_row, is_found, least_rows, earlier_rows, plan_rows, booked_least_rows, booked_plan_rows}
use Rattle.planner.specs.Told.{planned_told, rows_of, reason_carried, least_told, least_count}
use Rattle.planner.specs.Written.{Written, BufferBy}
use Rattle.planner.specs.declared.Least.{Least}
use Rattle.planner.specs.declared.NoPlan.{NoPlan}
use Rattle.planner.specs.declared.NoPlan.TheVariants.{Refused, TooTight}
use Rattle.reason.specs.declared.Reason.{Reason}

-- no refusal of the code is 10, so none comes with a reason
pub carried_none : (rf : Refusal) (f : Found TightReason) → reason_carried (refusal_told rf) f ≡ nothing
carried_none rf f =
    let t = refused-told rf in
    let n : eqb t.0 10 ≡ false = sym (ap (λ (v : Verdict). eqb (number_by v) 10) t.2) ∙ not-ten rf in
    ap (λ (v : Verdict). reason_carried v f) t.2 ∙ rw n

-- both tables begin with the order's rows
pub least-begins : (o : Order) (n : ℕ) → least_rows o n ≡ order_rows limits o ++ (buffer_row o n ∷ [])
unfolding least_rows
least-begins o n = refl

pub plan-begins : (o : Order) (bound : ℤ) (n : ℕ) →
    plan_rows o bound n ≡ order_rows limits o ++ (bound_row bound ∷ buffer_row o n ∷ tight_row (is_found (reason_of o bound)) ∷ [])
unfolding plan_rows earlier_rows
plan-begins o bound n =
    append_assoc (order_rows limits o) (bound_row bound ∷ buffer_row o n ∷ []) (tight_row (is_found (reason_of o bound)) ∷ [])

-- and so do the booked ones
pub booked-least-begins : (o : Order) (n : ℕ) (counts : List ℕ) →
    booked_least_rows o n counts ≡ order_rows limits o ++ (buffer_row o n ∷ book_row o counts ∷ [])
unfolding least_rows
booked-least-begins o n counts = append_assoc (order_rows limits o) (buffer_row o n ∷ []) (book_row o counts ∷ [])

pub booked-plan-begins : (o : Order) (bound : ℤ) (n : ℕ) (counts : List ℕ) →
    booked_plan_rows o bound n counts
    ≡ order_rows limits o ++ (bound_row bound ∷ buffer_row o n ∷ tight_row (is_found (reason_of o bound)) ∷ book_row o counts ∷ [])
booked-plan-begins o bound n counts =
    ap (λ (rows : List TableRow). rows ++ (book_row o counts ∷ [])) (plan-begins o bound n)
    ∙ append_assoc (order_rows limits o) (bound_row bound ∷ buffer_row o n ∷ tight_row (is_found (reason_of o bound)) ∷ [])
    (book_row o counts ∷ [])

kept : (v : Verdict) (number job : ℕ) → v ≡ refused number job → (o : Order) (bound : ℤ) (rows rows' : List ℕ) (count : ℕ) →
    BufferBy v o bound rows rows' count → rows' ≡ rows
kept v number job e o bound rows rows' count b = (rw e at b).0

filled : (v : Verdict) → v ≡ accepted → (o : Order) (bound : ℤ) (rows rows' : List ℕ) (count : ℕ) →
    BufferBy v o bound rows rows' count → Written o bound rows rows' count
filled v e o bound rows rows' count b = rw e at b

-- at a bound, by what a table answers
abbrev pub PlanToldBy : Verdict → Order → ℤ → List ℕ → List ℕ → Result ℕ NoPlan → Type 0
PlanToldBy v o bound rows rows' p = (planned_told p ≡ answer_by v (rows_of p)) × BufferBy v o bound rows rows' (rows_of p)

module _ (v : Verdict) (o : Order) (bound : ℤ) (rows rows' : List ℕ) (p : Result ℕ NoPlan) (t : PlanToldBy v o bound rows rows' p) where
  told-as : (q : Result ℕ NoPlan) → p ≡ q → PlanToldBy v o bound rows rows' q
  told-as q e = subst (PlanToldBy v o bound rows rows') e t

  pub refused-by-plan : (why : Refusal) → p ≡ Err (Refused why) → (v ≡ refusal_told why) × (rows' ≡ rows)
  refused-by-plan why e =
      let u = told-as (Err (Refused why)) e in
      let w = verdict-refused v why 0 0 u.0 in
      let r = refused-told why in
      (w, kept v r.0 r.1 (w ∙ r.2) o bound rows rows' 0 u.1)

  pub tight-by-plan : (reason : Reason) (dues : List ℤ) → p ≡ Err (TooTight reason dues) → (v ≡ refused 10 0) × (rows' ≡ rows)
  tight-by-plan reason dues e =
      let u = told-as (Err (TooTight reason dues)) e in
      let w = refused-by v 10 0 0 u.0 in
      (w, kept v 10 0 w o bound rows rows' 0 u.1)

  pub rows-by-plan : (count : ℕ) → p ≡ Ok count → (v ≡ accepted) × Written o bound rows rows' count
  rows-by-plan count e =
      let u = told-as (Ok count) e in
      let w = (verdict-accepted v count count u.0).0 in
      (w, filled v w o bound rows rows' count u.1)

-- of the planner without a book
abbrev pub PlanTold : Order → ℤ → List ℕ → List ℕ → Result ℕ NoPlan → Type 0
PlanTold o bound rows rows' p = PlanToldBy (judge (plan_rows o bound (length rows))) o bound rows rows' p

pub plan-moved : (o o' : Order) (read bound : ℤ) (rows rows' : List ℕ) (p : Result ℕ NoPlan) → o ≡ o' → read ≡ bound →
    PlanTold o read rows rows' p → PlanTold o' bound rows rows' p
plan-moved o o' read bound rows rows' p e f t =
    subst (λ (z : ℤ). PlanTold o' z rows rows' p) f (subst (λ (x : Order). PlanTold x read rows rows' p) e t)

module _ (o : Order) (bound : ℤ) (rows rows' : List ℕ) (p : Result ℕ NoPlan) (t : PlanTold o bound rows rows' p) where
  abbrev v : Verdict
  v = judge (plan_rows o bound (length rows))

  pub planned-refused : (why : Refusal) → p ≡ Err (Refused why) → (v ≡ refusal_told why) × (rows' ≡ rows)
  planned-refused = refused-by-plan v o bound rows rows' p t

  pub planned-tight : (reason : Reason) (dues : List ℤ) → p ≡ Err (TooTight reason dues) → (v ≡ refused 10 0) × (rows' ≡ rows)
  planned-tight = tight-by-plan v o bound rows rows' p t

  pub planned-rows : (count : ℕ) → p ≡ Ok count → (v ≡ accepted) × Written o bound rows rows' count
  planned-rows = rows-by-plan v o bound rows rows' p t

-- at the least lateness
abbrev pub LeastToldBy : Verdict → Order → List ℕ → List ℕ → Result Least Refusal → Type 0
LeastToldBy v o rows rows' l =
    (least_told l ≡ answer_by v (least_lateness o)) × BufferBy v o (least_lateness o) rows rows' (least_count l)

module _ (v : Verdict) (o : Order) (rows rows' : List ℕ) (l : Result Least Refusal) (t : LeastToldBy v o rows rows' l) where
  least-as : (k : Result Least Refusal) → l ≡ k → LeastToldBy v o rows rows' k
  least-as k e = subst (LeastToldBy v o rows rows') e t

  pub refused-by-least : (why : Refusal) → l ≡ Err why → (v ≡ refusal_told why) × (rows' ≡ rows)
  refused-by-least why e =
      let u = least-as (Err why) e in
      let x = verdict-refused v why _ _ u.0 in
      let r = refused-told why in
      (x, kept v r.0 r.1 (x ∙ r.2) o _ rows rows' 0 u.1)

  pub at-by-least : (k : Least) → l ≡ Ok k →
      (v ≡ accepted) × (k.lateness ≡ least_lateness o) × Written o (least_lateness o) rows rows' k.rows
  at-by-least k e =
      let u = least-as (Ok k) e in
      let x = verdict-accepted v k.lateness (least_lateness o) u.0 in
      (x.0, x.1, filled v x.0 o _ rows rows' k.rows u.1)

abbrev pub LeastTold : Order → List ℕ → List ℕ → Result Least Refusal → Type 0
LeastTold o rows rows' l = LeastToldBy (judge (least_rows o (length rows))) o rows rows' l

pub least-moved : (o o' : Order) (rows rows' : List ℕ) (l : Result Least Refusal) → o ≡ o' → LeastTold o rows rows' l → LeastTold o' rows rows' l
least-moved o o' rows rows' l e t = subst (λ (x : Order). LeastTold x rows rows' l) e t

module _ (o : Order) (rows rows' : List ℕ) (l : Result Least Refusal) (t : LeastTold o rows rows' l) where
  abbrev w : Verdict
  w = judge (least_rows o (length rows))

  pub least-refused : (why : Refusal) → l ≡ Err why → (w ≡ refusal_told why) × (rows' ≡ rows)
  least-refused = refused-by-least w o rows rows' l t

  pub least_at : (k : Least) → l ≡ Ok k →
      (w ≡ accepted) × (k.lateness ≡ least_lateness o) × Written o (least_lateness o) rows rows' k.rows
  least_at = at-by-least w o rows rows' l t
