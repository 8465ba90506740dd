-- What each entry point has to answer and leave behind by a verdict, and that it does where the counts are refused.
use Rattle.std.specs.Prelude.{Bool, Option, Result, Err, IfOk}
use Prim.Native.Nat.{ℕ, ◌≤◌}
use mathlib.Core.Path.{◌≡◌, refl, sym}
use mathlib.Core.List.{List}
use native.Mathlib.Omega.{arith}
use lib.IntN.{ℤ}
use lib.ListN.{length}
use Rattle.order.specs.Order.{Order}
use Rattle.order.specs.Refusals.{Verdict, answer_by, left_by}
use Rattle.order.specs.Table.{refusal_told}
use Rattle.order.proofs.TableLaws.{same-refusal}
use Rattle.order.specs.declared.Refusal.{Refusal}
use Rattle.order_file.specs.File.{file_length, written_by, ReadBackBy}
use Rattle.order_file.specs.Told.{written_told}
use Rattle.book.specs.Book.{booked_by}
use Rattle.plan.specs.Check.{is_right}
use Rattle.plan.specs.Told.{checked_told}
use Rattle.profile.specs.Least.{least_lateness}
use Rattle.profile.specs.Search.{nothing, reason_of}
use Rattle.reason.specs.Told.{why_of}
use Rattle.reason.specs.declared.Why.{Why}
use Rattle.planner.specs.AnswerLaws.{carried_none}
use Rattle.planner.specs.Told.{least_told, least_count, LeastIn, planned_told, rows_of, reason_carried, ReasonTold}
use Rattle.planner.specs.Written.{BufferBy}
use Rattle.planner.specs.declared.Least.{Least}
use Rattle.planner.specs.declared.NoPlan.{NoPlan}
use Rattle.planner.specs.declared.NoPlan.TheVariants.{Refused}
use Rattle.wrap.specs.FrameAt.{Times}
use Rattle.timed.specs.Changes.{timed_rows_asked}
use Rattle.timed.specs.Check.{is_right_timed}
use Rattle.timed.specs.Written.{asked_told, timed_told, timed_count, TimedBufferBy}
use Rattle.sentence.specs.Handed.{handed}
use Rattle.sentence.specs.Line.{composed, read_back}
use Rattle.sentence.specs.Told.{composed_told, length_told, recovered_told}
use Rattle.callers.proofs.Passing.{told}

abbrev pub Writes : Order → (out out' : List ℕ) → Result ℕ Refusal → Verdict → Type 0
Writes o out out' r v = (written_told r ≡ answer_by v (file_length o)) × ((out' ≡ written_by v o out) × ReadBackBy v o out')

abbrev pub Checks : Order → List ℕ → Result Bool Refusal → Verdict → ℤ → Type 0
Checks o rows r v z = checked_told r ≡ answer_by v (is_right o z rows)

abbrev pub Leasts : Order → (rows rows' : List ℕ) → Result Least Refusal → Verdict → Type 0
Leasts o rows rows' r v =
    (least_told r ≡ answer_by v (least_lateness o)) × (LeastIn o r × BufferBy v o (least_lateness o) rows rows' (least_count r))

abbrev pub Plans : Order → (rows rows' : List ℕ) → Result ℕ NoPlan → Verdict → ℤ → Type 0
Plans o rows rows' r v z =
    (planned_told r ≡ answer_by v (rows_of r))
    × (ReasonTold o (reason_carried v (reason_of o z)) r × BufferBy v o z rows rows' (rows_of r))

abbrev pub LeastBooks : Order → (rows rows' : List ℕ) → (book book' : List ℕ) → Result Least Refusal → Verdict → Type 0
LeastBooks o rows rows' book book' r v =
    (least_told r ≡ answer_by v (least_lateness o))
    × (LeastIn o r × (BufferBy v o (least_lateness o) rows rows' (least_count r) × (book' ≡ booked_by v o book)))

abbrev pub PlanBooks : Order → (rows rows' : List ℕ) → (book book' : List ℕ) → Result ℕ NoPlan → Verdict → ℤ → Type 0
PlanBooks o rows rows' book book' r v z =
    (planned_told r ≡ answer_by v (rows_of r))
    × (ReasonTold o (reason_carried v (reason_of o z)) r × (BufferBy v o z rows rows' (rows_of r) × (book' ≡ booked_by v o book)))

abbrev pub Asks : Order → Times → Result ℕ Refusal → Verdict → ℤ → Type 0
Asks o t r v z = asked_told r ≡ answer_by v (timed_rows_asked o z t)

abbrev pub TimedPlans : Order → Times → (rows rows' : List ℕ) → Result (Option ℕ) Refusal → Verdict → ℤ → Type 0
TimedPlans o t rows rows' r v z = (timed_told r ≡ answer_by v (timed_count r)) × TimedBufferBy v o z t rows rows' (timed_count r)

abbrev pub TimedChecks : Order → Times → List ℕ → Result Bool Refusal → Verdict → ℤ → Type 0
TimedChecks o t rows r v z = checked_told r ≡ answer_by v (is_right_timed o z t rows)

abbrev pub Composes : Order → Why → (line line' : List ℕ) → Result ℕ Refusal → Verdict → ℤ → Type 0
Composes o why line line' r v z =
    (composed_told r ≡ answer_by v (length (composed o z (handed o why))))
    × ((line' ≡ left_by v (composed o z (handed o why)) line) × (length_told r ≤ 598))

abbrev pub Recovers : Order → List ℕ → Result Why Refusal → Verdict → ℤ → Type 0
Recovers o line r v z = (recovered_told r ≡ v) × IfOk r (λ why. why ≡ why_of o (read_back o z line))

-- a refusal answers its number, and leaves behind what was lent
module _ (o : Order) (why : Refusal) where
  -- no value comes with it
  pub no_value : {A : Type 0} (a b : A) → answer_by (refusal_told why) a ≡ answer_by (refusal_told why) b
  no_value a b = same-refusal (refusal_told why) why a b refl

  pub write-refused : (out : List ℕ) → Writes o out out (Err why) (refusal_told why)
  write-refused out =
      (no_value _ _, told (λ (v : Verdict). (out ≡ written_by v o out) × ReadBackBy v o out) why (λ number carried. (refl, tt)))

  rows-kept : (rows : List ℕ) (z : ℤ) → BufferBy (refusal_told why) o z rows rows 0
  rows-kept rows z = told (λ (v : Verdict). BufferBy v o z rows rows 0) why (λ number carried. (refl, refl))

  book-kept : (book : List ℕ) → book ≡ booked_by (refusal_told why) o book
  book-kept book = told (λ (v : Verdict). book ≡ booked_by v o book) why (λ number carried. refl)

  pub least-refused : (rows : List ℕ) → Leasts o rows rows (Err why) (refusal_told why)
  least-refused rows = (no_value _ _, (tt, rows-kept rows (least_lateness o)))

  pub least-book-refused : (rows book : List ℕ) → LeastBooks o rows rows book book (Err why) (refusal_told why)
  least-book-refused rows book = (no_value _ _, (tt, (rows-kept rows (least_lateness o), book-kept book)))

  -- no reason comes with it, as it is not 10
  no-reason : (z : ℤ) → ReasonTold {A = ℕ} o (reason_carried (refusal_told why) (reason_of o z)) (Err (Refused why))
  no-reason z =
      let none : nothing ≡ reason_carried (refusal_told why) (reason_of o z) = sym (carried_none why (reason_of o z)) in
      rw (sym none) (refl, refl)

  pub plan-refused : (rows : List ℕ) (z : ℤ) → Plans o rows rows (Err (Refused why)) (refusal_told why) z
  plan-refused rows z = (no_value _ _, (no-reason z, rows-kept rows z))

  pub plan-book-refused : (rows book : List ℕ) (z : ℤ) → PlanBooks o rows rows book book (Err (Refused why)) (refusal_told why) z
  plan-book-refused rows book z = (no_value _ _, (no-reason z, (rows-kept rows z, book-kept book)))

  pub timed-refused : (t : Times) (rows : List ℕ) (z : ℤ) → TimedPlans o t rows rows (Err why) (refusal_told why) z
  timed-refused t rows z =
      (no_value _ _, told (λ (v : Verdict). TimedBufferBy v o z t rows rows 0) why (λ number carried. (refl, refl)))

  pub compose-refused : (handed-in : Why) (line : List ℕ) (z : ℤ) →
      Composes o handed-in line line (Err why) (refusal_told why) z
  compose-refused handed-in line z = (
    no_value _ _,
    (
      told (λ (v : Verdict). line ≡ left_by v (composed o z (handed o handed-in)) line) why (λ number carried. refl),
      omega arith,
    ),
  )

  pub back-refused : (line : List ℕ) (z : ℤ) → Recovers o line (Err why) (refusal_told why) z
  back-refused line z = (refl, tt)
