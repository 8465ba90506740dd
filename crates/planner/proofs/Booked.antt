-- How the booked planners put their answers together: where the earlier rows refuse, the answer is theirs and the book as it was; where
-- they accept, the book's row decides.
use Rattle.std.specs.Prelude.{ℕ, ◌≡◌, true, false, List, [], ◌∷◌, ◌++◌, ℤ, Result, Ok, Err}
use Rattle.std.proofs.Common.{refl, sym, ap, ◌∙◌, subst}
use Rattle.order.specs.Order.{Order}
use Rattle.order.specs.Refusals.{TableRow, Verdict, accepted, refused, judge, answer_by}
use Rattle.order.proofs.RefusalLaws.{judge-refused-append, judge-accepted-append}
use Rattle.order.proofs.TableLaws.{refused-told}
use Rattle.order.specs.declared.Refusal.{Refusal}
use Rattle.order.specs.declared.Refusal.TheVariants.{BookFull}
use Rattle.book.specs.Book.{booked, book_row, booked_by, over_booked}
use Rattle.plan.specs.IsLeast.{IsLeast}
use Rattle.profile.specs.Least.{least_lateness}
use Rattle.profile.specs.Search.{reason_of}
use Rattle.table.specs.declared.Table.{Table}
use Rattle.planner.specs.Judged.{judged_told, JudgedAt, JudgedLeast}
use Rattle.planner.specs.Rows.{least_rows, plan_rows, booked_least_rows, booked_plan_rows}
use Rattle.planner.specs.Told.{planned_told, rows_of, reason_carried, ReasonTold, least_told, least_count, LeastIn}
use Rattle.planner.specs.Written.{Written, BufferBy}
use Rattle.planner.specs.declared.Least.{Least}
use Rattle.planner.specs.declared.NoPlan.{NoPlan}
use Rattle.planner.specs.declared.NoPlan.TheVariants.{Refused, TooTight}
use Rattle.planner.proofs.Answers.{
  EnsuredBy,
  refused-ensured,
  opened,
  rows-ensured,
  LeastEnsuredBy,
  least-refused,
  least-opened,
  least-ensured,
}

-- the book's row after rows that refuse, and after rows that accept
module _ (rows : List TableRow) (o : Order) (counts : List ℕ) where
  abbrev with-book : List TableRow
  with-book = rows ++ (book_row o counts ∷ [])

  refused-with : (number carried : ℕ) → judge rows ≡ refused number carried → judge with-book ≡ refused number carried
  refused-with number carried e = judge-refused-append rows (book_row o counts ∷ []) number carried e

  full-with : judge rows ≡ accepted → over_booked o counts ≡ true → judge with-book ≡ refused 14 0
  unfolding judge
  full-with e h = judge-accepted-append rows (book_row o counts ∷ []) e ∙ rw h

  room-with : judge rows ≡ accepted → over_booked o counts ≡ false → judge with-book ≡ accepted
  unfolding judge
  room-with e h = judge-accepted-append rows (book_row o counts ∷ []) e ∙ rw h

-- at a bound, with a book of these counts
module _ (o : Order) (bound : ℤ) (n : ℕ) (counts : List ℕ) where
  abbrev v : Verdict
  v = judge (booked_plan_rows o bound n counts)

  -- what plan_booked ensures
  abbrev pub BookEnsured : List ℕ → List ℕ → List ℕ → Result ℕ NoPlan → Type 0
  BookEnsured entry exit after r =
      (planned_told r ≡ answer_by v (rows_of r))
      × (ReasonTold o (reason_carried v (reason_of o bound)) r × (BufferBy v o bound entry exit (rows_of r) × (after ≡ booked_by v o counts)))

  -- where the table answers w, from what holds of the answer at w
  put-together : (w : Verdict) → v ≡ w → (entry exit after : List ℕ) (r : Result ℕ NoPlan) → EnsuredBy w o bound entry exit r →
      after ≡ booked_by w o counts → BookEnsured entry exit after r
  put-together w e entry exit after r told kept = rw e (told.0, (told.1.0, (told.1.1, kept)))

  module _ (j : Result Table NoPlan) (judged : JudgedAt o bound n j) (entry : List ℕ) where
    refused-as : (number carried : ℕ) → judge (plan_rows o bound n) ≡ refused number carried → (r : Result ℕ NoPlan) →
        EnsuredBy (judge (plan_rows o bound n)) o bound entry entry r → BookEnsured entry entry counts r
    refused-as number carried w r told =
        put-together (refused number carried) (refused-with (plan_rows o bound n) o counts number carried w) entry entry counts r
        (subst (λ (x : Verdict). EnsuredBy x o bound entry entry r) w told) refl

    pub refused-booked : (no_plan : NoPlan) → j ≡ Err no_plan → BookEnsured entry entry counts (Err no_plan)
    refused-booked (Refused rf) e =
        let t = refused-told rf in
        refused-as t.0 t.1 (sym judged.verdict ∙ (ap judged_told e ∙ t.2)) (Err (Refused rf)) (refused-ensured o bound n j judged entry (Refused rf) e)
    refused-booked (TooTight reason dues) e =
        refused-as 10 0 (sym judged.verdict ∙ ap judged_told e) (Err (TooTight reason dues)) (refused-ensured o bound n j judged entry (TooTight reason dues) e)

    module _ (t : Table) (e : j ≡ Ok t) where
      pub full-booked : over_booked o counts ≡ true → BookEnsured entry entry counts (Err (Refused BookFull))
      full-booked h =
          put-together (refused 14 0) (full-with (plan_rows o bound n) o counts (opened o bound n j judged t e) h) entry entry counts
          (Err (Refused BookFull)) (refl, ((refl, refl), (refl, refl))) refl

      pub rows-booked : over_booked o counts ≡ false → (exit : List ℕ) (count : ℕ) (after : List ℕ) →
          Written o bound entry exit count → after ≡ booked o counts → BookEnsured entry exit after (Ok count)
      rows-booked h exit count after written =
          put-together accepted (room-with (plan_rows o bound n) o counts (opened o bound n j judged t e) h) entry exit after (Ok count)
          (subst (λ (x : Verdict). EnsuredBy x o bound entry exit (Ok count)) (opened o bound n j judged t e)
          (rows-ensured o bound n j judged t e entry exit count written))

-- at the least lateness
module _ (o : Order) (n : ℕ) (counts : List ℕ) where
  abbrev w : Verdict
  w = judge (booked_least_rows o n counts)

  -- what least_booked ensures
  abbrev pub LeastBookEnsured : List ℕ → List ℕ → List ℕ → Result Least Refusal → Type 0
  LeastBookEnsured entry exit after r =
      (least_told r ≡ answer_by w (least_lateness o))
      × (LeastIn o r × (BufferBy w o (least_lateness o) entry exit (least_count r) × (after ≡ booked_by w o counts)))

  least-together : (x : Verdict) → w ≡ x → (entry exit after : List ℕ) (r : Result Least Refusal) → LeastEnsuredBy x o entry exit r →
      after ≡ booked_by x o counts → LeastBookEnsured entry exit after r
  least-together x e entry exit after r told kept = rw e (told.0, (told.1.0, (told.1.1, kept)))

  module _ (j : Result Table Refusal) (judged : JudgedLeast o n j) (entry : List ℕ) where
    pub least-refused-booked : (rf : Refusal) → j ≡ Err rf → LeastBookEnsured entry entry counts (Err rf)
    least-refused-booked rf e =
        let t = refused-told rf in
        let x : judge (least_rows o n) ≡ refused t.0 t.1 = sym (subst (JudgedLeast o n) e judged).verdict ∙ t.2 in
        least-together (refused t.0 t.1) (refused-with (least_rows o n) o counts t.0 t.1 x) entry entry counts (Err rf)
        (subst (λ (y : Verdict). LeastEnsuredBy y o entry entry (Err rf)) x (least-refused o n j judged entry rf e)) refl

    module _ (t : Table) (e : j ≡ Ok t) where
      pub least-full-booked : over_booked o counts ≡ true → LeastBookEnsured entry entry counts (Err BookFull)
      least-full-booked h =
          least-together (refused 14 0) (full-with (least_rows o n) o counts (least-opened o n j judged t e) h) entry entry counts
          (Err BookFull) (refl, (tt, (refl, refl))) refl

      pub least-booked : over_booked o counts ≡ false → IsLeast o (least_lateness o) → (exit : List ℕ) (k : Least) (after : List ℕ) →
          k.lateness ≡ least_lateness o → Written o (least_lateness o) entry exit k.rows → after ≡ booked o counts →
          LeastBookEnsured entry exit after (Ok k)
      least-booked h least exit k after f written =
          least-together accepted (room-with (least_rows o n) o counts (least-opened o n j judged t e) h) entry exit after (Ok k)
          (subst (λ (y : Verdict). LeastEnsuredBy y o entry exit (Ok k)) (least-opened o n j judged t e)
          (least-ensured o n j judged t e least entry exit k f written))
