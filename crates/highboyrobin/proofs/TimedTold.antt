-- What the answers of the timed planner, its check and its count of rows say of the verdict and of the lent rows.
use Rattle.std.specs.Prelude.{Option, Some, None, Result, Ok, Err}
use Prim.Native.Nat.{ℕ, suc, ◌+◌, ◌-◌, ◌*◌, ◌≤◌}
use mathlib.Core.Path.{◌≡◌, refl, ap, ◌∙◌, subst}
use mathlib.Core.Bool.{Bool, false}
use mathlib.Core.List.{List, [], ◌∷◌, ◌++◌, map, append_assoc}
use native.Mathlib.Omega.{arith}
use native.Mathlib.Nat.{mul-le-mul_left, mul-le-mul_right}
use lib.IntN.{ℤ, pos}
use lib.ListN.{length, length-append, length-map}
use lib.Signed.{lt_z}
use Rattle.sums.specs.Lists.{tabulate}
use Rattle.sums.specs.Places.{length-tabulate}
use Rattle.order.specs.Order.{Order, processor_count, job_count, job_of, end_of}
use Rattle.order.specs.Refusals.{
  limits,
  Verdict,
  accepted,
  refused,
  judge,
  answer_by,
  order_rows,
  bound_row,
  tight_row,
  rows_up_to_row,
  Accepted,
}
use Rattle.order.proofs.RefusalLaws.{accepted-iff}
use Rattle.order.specs.SortedLaws.{distinct-length}
use Rattle.order.specs.Table.{refusal_told}
use Rattle.order.proofs.TableLaws.{refused-told, refused-by, verdict-refused, verdict-accepted}
use Rattle.order.specs.declared.Refusal.{Refusal}
use Rattle.plan.specs.Told.{checked_told}
use Rattle.wrap.specs.FrameAt.{Times}
use Rattle.wrap.proofs.Joined.{joined-count-in}
use Rattle.timed.proofs.ChangeLaws.{timed-rising}
use Rattle.timed.specs.Changes.{changes, change_times, change_count, timed_frame, timed_rows_asked}
use Rattle.timed.specs.Check.{is_right_timed}
use Rattle.timed.specs.Rows.{asked_rows, timed_buffer, earlier_timed, timed_rows, none_timed, most_timed_rows, timed_check_rows}
use Rattle.timed.specs.Times.{ready_row, window_row}
use Rattle.timed.specs.Written.{TimedWritten, TimedBufferBy, timed_told, timed_count, asked_told}

-- the three tables begin with the order's rows
module _ (o : Order) (bound : ℤ) (t : Times) where
  pub asked-begins : asked_rows o bound t ≡ order_rows limits o ++ (ready_row o t ∷ window_row o t ∷ bound_row bound ∷ [])
  unfolding asked_rows
  asked-begins = refl

  pub timed-begins : (n : ℕ) →
      timed_rows o bound t n
      ≡ order_rows limits o
      ++ (ready_row o t ∷ window_row o t ∷ bound_row bound ∷ timed_buffer o bound t n ∷ tight_row (none_timed o bound t) ∷ [])
  unfolding asked_rows earlier_timed timed_rows
  timed-begins n =
      append_assoc (order_rows limits o ++ (ready_row o t ∷ window_row o t ∷ bound_row bound ∷ [])) (timed_buffer o bound t n ∷ [])
      (tight_row (none_timed o bound t) ∷ [])
      ∙ append_assoc (order_rows limits o) (ready_row o t ∷ window_row o t ∷ bound_row bound ∷ [])
      (timed_buffer o bound t n ∷ tight_row (none_timed o bound t) ∷ [])

  pub timed-check-begins : (n : ℕ) →
      timed_check_rows o bound t n
      ≡ order_rows limits o ++ (ready_row o t ∷ window_row o t ∷ bound_row bound ∷ rows_up_to_row most_timed_rows n ∷ [])
  unfolding asked_rows timed_check_rows
  timed-check-begins n =
      append_assoc (order_rows limits o) (ready_row o t ∷ window_row o t ∷ bound_row bound ∷ []) (rows_up_to_row most_timed_rows n ∷ [])

-- the count of rows
abbrev pub AskedTold : Result ℕ Refusal → Order → ℤ → Times → Type 0
AskedTold a o bound t = asked_told a ≡ answer_by (judge (asked_rows o bound t)) (timed_rows_asked o bound t)

module _ (o : Order) (bound : ℤ) (t : Times) where
  pub asked-refused : (why : Refusal) → AskedTold (Err why) o bound t → judge (asked_rows o bound t) ≡ refusal_told why
  asked-refused why h = verdict-refused _ why 0 (timed_rows_asked o bound t) h

  pub asked-rows : (rows : ℕ) → AskedTold (Ok rows) o bound t →
      (judge (asked_rows o bound t) ≡ accepted) × (rows ≡ timed_rows_asked o bound t)
  asked-rows rows h = verdict-accepted _ rows (timed_rows_asked o bound t) h

-- the check
abbrev pub TimedCheckTold : List ℕ → Result Bool Refusal → Order → ℤ → Times → Type 0
TimedCheckTold rows c o bound t =
    checked_told c ≡ answer_by (judge (timed_check_rows o bound t (length rows))) (is_right_timed o bound t rows)

module _ (rows : List ℕ) (o : Order) (bound : ℤ) (t : Times) where
  pub timed-check-refused : (why : Refusal) → TimedCheckTold rows (Err why) o bound t →
      judge (timed_check_rows o bound t (length rows)) ≡ refusal_told why
  timed-check-refused why h = verdict-refused _ why false (is_right_timed o bound t rows) h

  pub timed-checked : (right : Bool) → TimedCheckTold rows (Ok right) o bound t →
      (judge (timed_check_rows o bound t (length rows)) ≡ accepted) × (right ≡ is_right_timed o bound t rows)
  timed-checked right h = verdict-accepted _ right (is_right_timed o bound t rows) h

-- the planner
abbrev pub TimedPlanTold : List ℕ → List ℕ → Result (Option ℕ) Refusal → Order → ℤ → Times → Type 0
TimedPlanTold rows rows' p o bound t =
    (timed_told p ≡ answer_by (judge (timed_rows o bound t (length rows))) (timed_count p))
    × TimedBufferBy (judge (timed_rows o bound t (length rows))) o bound t rows rows' (timed_count p)

module _ (v : Verdict) (o : Order) (bound : ℤ) (t : Times) (rows rows' : List ℕ) (count : ℕ)
    (b : TimedBufferBy v o bound t rows rows' count) where
  kept : (number job : ℕ) → v ≡ refused number job → rows' ≡ rows
  kept number job e = (rw e at b).0

  filled : v ≡ accepted → TimedWritten o bound t rows rows' count
  filled e = rw e at b

module _ (rows rows' : List ℕ) (p : Result (Option ℕ) Refusal) (o : Order) (bound : ℤ) (t : Times)
    (h : TimedPlanTold rows rows' p o bound t) where
  abbrev v : Verdict
  v = judge (timed_rows o bound t (length rows))

  told-plan : (q : Result (Option ℕ) Refusal) → p ≡ q → TimedPlanTold rows rows' q o bound t
  told-plan q e = subst (λ (p : Result (Option ℕ) Refusal). TimedPlanTold rows rows' p o bound t) e h

  pub timed-plan-refused : (why : Refusal) → p ≡ Err why →
      (judge (timed_rows o bound t (length rows)) ≡ refusal_told why) × (rows' ≡ rows)
  timed-plan-refused why e =
      let u = told-plan (Err why) e in
      let w = verdict-refused v why 0 0 u.0 in
      let r = refused-told why in
      (w, kept v o bound t rows rows' 0 u.1 r.0 r.1 (w ∙ r.2))

  pub timed-plan-tight : p ≡ Ok None → (judge (timed_rows o bound t (length rows)) ≡ refused 10 0) × (rows' ≡ rows)
  timed-plan-tight e =
      let u = told-plan (Ok None) e in
      let w = refused-by v 10 0 0 u.0 in
      (w, kept v o bound t rows rows' 0 u.1 10 0 w)

  pub timed-plan-rows : (count : ℕ) → p ≡ Ok (Some count) →
      (judge (timed_rows o bound t (length rows)) ≡ accepted) × TimedWritten o bound t rows rows' count
  timed-plan-rows count e =
      let u = told-plan (Ok (Some count)) e in
      let w = (verdict-accepted v count count u.0).0 in
      (w, filled v o bound t rows rows' count u.1 w)

-- two changes to a job and two to a processor at most
changes-few : (o : Order) (bound : ℤ) (t : Times) → change_count o bound t ≤ 2 * job_count o + 2 * processor_count o
unfolding changes change_times
changes-few o bound t =
    let n = tabulate (job_count o) suc in
    let m = tabulate (processor_count o) suc in
    let readies = map (λ j. pos (t.ready j)) n in
    let ends = map (λ j. end_of bound (job_of o j)) n in
    let openings = map (λ i. pos (t.opens i)) m in
    let closings = map (λ i. pos (t.closes i)) m in
    omega (
      arith,
      distinct-length lt_z (readies ++ (ends ++ (openings ++ closings))),
      length-append readies (ends ++ (openings ++ closings)),
      length-append ends (openings ++ closings),
      length-append openings closings,
      length-map n (λ j. pos (t.ready j)),
      length-map n (λ j. end_of bound (job_of o j)),
      length-map m (λ i. pos (t.opens i)),
      length-map m (λ i. pos (t.closes i)),
      length-tabulate (job_count o) suc,
      length-tabulate (processor_count o) suc,
    )

-- an accepted order asks for at most 8,064 rows
pub asked-most : (o : Order) (bound : ℤ) (t : Times) → Accepted o → timed_rows_asked o bound t ≤ 8064
asked-most o bound t h =
    let a = (accepted-iff o).0 h in
    let most : job_count o + processor_count o - 1 ≤ 63 = omega (arith, a.few-jobs, a.few-processors) in
    let few : change_count o bound t ≤ 128 = omega (arith, changes-few o bound t, a.few-jobs, a.few-processors) in
    omega (
      arith,
      mul-le-mul_right (job_count o + processor_count o - 1) few,
      mul-le-mul_left 128 most,
    )

-- so many rows were written at most
pub timed-few : {o : Order} {bound : ℤ} {t : Times} {entry exit : List ℕ} {count : ℕ} → Accepted o →
    TimedWritten o bound t entry exit count → count ≤ 8064
timed-few {o} {bound} {t} a w =
    let p = w.plan-of in
    omega (
      arith,
      w.count-is,
      ap length p.plan-is,
      joined-count-in o (timed_frame o bound t) (timed-rising o bound t) p.amounts,
      asked-most o bound t a,
    )
