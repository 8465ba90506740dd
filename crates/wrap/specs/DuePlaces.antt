-- The place of a job's due time among the distinct due times upwards: the number of those that are at most it is the number
-- of stretches that end by its deadline; and each distinct due time is some job's.
use Rattle.std.specs.Prelude.{ℕ, zero, suc, ◌≤◌, ◌<◌, ◌≡◌, refl, Bool, true, false, List, [], ◌∷◌, ℤ, pos, negsuc, length, get_or}
use Rattle.std.proofs.Math.Path.{sym, ap}
use Rattle.std.proofs.Common.{◌∙◌, le_of_suc-le-suc, ltb-true, le-leb}
use native.Mathlib.Omega.{arith}
use Rattle.std.proofs.lemmas.Bool.{lt-leb}
use Rattle.std.proofs.Math.ListN.{length-reverse}
use Rattle.std.specs.Int.Signed.{lt_z, le_z}
use Rattle.sums.specs.Lists.{In, Pairwise, total, only}
use Rattle.sums.specs.Members.{All-map, All-at, in-All, in-at, at_in, map-in, in_map}
use Rattle.sums.specs.Reversed.{All-reverse, in-reverse, total-reverse}
use Rattle.sums.specs.Totals.{total-none}
use Rattle.order.specs.Order.{Job, Order, no_job, job_count, job_of, end_at, end_of}
use Rattle.order.specs.Sorted.{due_times}
use Rattle.order.specs.SortedLaws.{lt_z-strict, in-distinct, distinct-in}
use Rattle.order.specs.Deadline.{cut, deadline_of}
use Rattle.wrap.specs.Stretches.{stretch_count, mark}
use Rattle.wrap.specs.Marks.{dues_up, due_up, dues_up-rise, mark-is}

-- how many distinct due times are at most that of job number j + 1
unfoldable pub due_index : Order → ℕ → ℕ
due_index o j = total (due_times o) (λ due. only (le_z due (job_of o (suc j)).due) 1)

le_z-self : (x : ℤ) → le_z x x ≡ true
le_z-self (pos n) = le-leb n n (omega arith)
le_z-self (negsuc n) = le-leb n n (omega arith)

lt_z-le_z : (x y : ℤ) → lt_z x y ≡ true → (le_z x y ≡ true) × (le_z y x ≡ false)
lt_z-le_z (pos a) (pos b) h =
    let l = ltb-true a b h in
    (le-leb a b (omega arith), lt-leb b a l)
lt_z-le_z (pos a) (negsuc b) h = let e : ◌≡◌ {A = ℕ} 0 1 = cc in absurd (omega arith)
lt_z-le_z (negsuc a) (pos b) h = (refl, refl)
lt_z-le_z (negsuc a) (negsuc b) h =
    let l = ltb-true b a h in
    (le-leb b a (omega arith), lt-leb a b l)

-- of rising numbers, those at most the one at place i are i + 1
count-up-to : (xs : List ℤ) → Pairwise (λ x y. lt_z x y ≡ true) xs → (d : ℤ) (i : ℕ) → i < length xs →
    total xs (λ x. only (le_z x (get_or xs i d)) 1) ≡ suc i
count-up-to [] h d i l = absurd (omega arith)
count-up-to (x ∷ xs) h d zero l =
    omega (
      arith,
      ap (λ (t : Bool). only t 1) (le_z-self x),
      total-none xs (λ y. only (le_z y x) 1)
          (All-map _ _ xs (λ y k. ap (λ (t : Bool). only t 1) (lt_z-le_z x y k).1) h.0),
    )
count-up-to (x ∷ xs) h d (suc i) l =
    let b = le_of_suc-le-suc l in
    omega (
      arith,
      ap (λ (t : Bool). only t 1) (lt_z-le_z x (get_or xs i d) (All-at _ xs d h.0 i b)).0,
      count-up-to xs h.1 d i b,
    )

module _ (o : Order) where
  -- each job's due time has a place
  due-at : (j : ℕ) → j < job_count o → (i : ℕ) × (i < stretch_count o) × (due_up o i ≡ (job_of o (suc j)).due)
  unfolding due_times
  due-at j l =
      let job = job_of o (suc j) in
      let found = in-distinct lt_z lt_z-strict job.due _
      (map-in (λ (job : Job). job.due) o.jobs job (at_in o.jobs no_job j l)) in
      let r = in-at (dues_up o) (pos 0) job.due (in-reverse (due_times o) job.due found) in
      (r.0, omega (arith, r.1, length-reverse (due_times o)), r.2)

  -- and it is the due index less one
  due_index-at : (j i : ℕ) → i < stretch_count o → due_up o i ≡ (job_of o (suc j)).due → due_index o j ≡ suc i
  unfolding due_index
  due_index-at j i l e =
      ap (λ (z : ℤ). total (due_times o) (λ due. only (le_z due z) 1)) (sym e)
      ∙ sym (total-reverse (due_times o) (λ due. only (le_z due (due_up o i)) 1))
      ∙ count-up-to (dues_up o) (dues_up-rise o) (pos 0) i (omega (arith, length-reverse (due_times o)))

  -- the mark at the due index is the job's deadline
  pub due_index-mark : (bound : ℤ) (j : ℕ) → j < job_count o →
      (0 < due_index o j) × (due_index o j ≤ stretch_count o)
      × (mark o bound (due_index o j) ≡ deadline_of bound (job_of o (suc j)))
  unfolding deadline_of end_of
  due_index-mark bound j l =
      let r = due-at j l in
      let e = due_index-at j r.0 r.1 r.2 in (
        omega arith,
        omega (arith, r.1),
        ap (mark o bound) e ∙ mark-is o bound r.0 r.1 ∙ ap (λ (due : ℤ). cut (end_at bound due)) r.2,
      )

  -- every mark but the first is a job's deadline
  pub mark-met : (bound : ℤ) (s : ℕ) → s < stretch_count o →
      (j : ℕ) × (j < job_count o) × (deadline_of bound (job_of o (suc j)) ≡ mark o bound (suc s))
  unfolding deadline_of end_of due_times
  mark-met bound s l =
      let found = All-at (λ due. In due (due_times o)) (dues_up o) (pos 0)
      (All-reverse _ (due_times o) (in-All _ (due_times o) (λ due i. i))) s
      (omega (arith, length-reverse (due_times o))) in
      let job = in_map (λ (job : Job). job.due) o.jobs (due_up o s) (distinct-in lt_z lt_z-strict (due_up o s) _ found) in
      let r = in-at o.jobs no_job job.0 job.1 in (
        r.0,
        r.1,
        ap (λ (job : Job). cut (end_at bound job.due)) r.2 ∙ ap (λ (due : ℤ). cut (end_at bound due)) (sym job.2)
            ∙ sym (mark-is o bound s l),
      )
