-- What is told of a table is document 01's reason: the same job is over its end, and where none is, the same profile is
-- the first overfull one.
use Rattle.std.specs.Prelude.{Some}
use Prim.Native.Nat.{ℕ, zero, suc, ◌+◌, ◌*◌, ◌≤◌, ◌<◌}
use Rattle.std.specs.Prelude.{◌≡◌, refl, Bool, true, false, cond, ltb, ℤ, pos, get_or}
use Rattle.std.proofs.Math.Path.{sym, ap}
use Rattle.std.proofs.Common.{◌∙◌, subst, arith}
use mathlib.Core.List.{List, [], ◌∷◌, map}
use borrow.Author.Tests.{ltb-false}
use Rattle.std.proofs.Math.ListN.{length}
use Rattle.std.proofs.lemmas.List.{length-map}
use Rattle.std.specs.Int.Signed.{lt_z}
use Rattle.sums.specs.Lists.{All, In, tabulate}
use Rattle.sums.specs.Members.{All-map, All-at, All-from}
use Rattle.order.specs.Order.{Order, Job, job_count, job_of, no_job, end_of}
use Rattle.order.specs.Sorted.{due_times}
use Rattle.order.specs.Refusals.{Finding, clear, holds, first_after, first}
use Rattle.order.proofs.RefusalLaws.{Acceptable, first-clear}
use Rattle.profile.specs.Search.{Found, nothing, found, is_overfull, first_overfull, first_over_end, reason_by, reason_of}
use Rattle.order.specs.Lead.{lead, reach_at, last_due, Workable}
use Rattle.order.proofs.LeadLaws.{late-reach, workable}
use Rattle.sums.specs.Downwards.{in-down}
use Rattle.profile.proofs.Threshold.{overfull-reach}
use Rattle.table.specs.Held.{Reading, by_number, ReadingOf}
use Rattle.table.specs.HeldLaws.{held-read}
use Rattle.table.specs.Tabled.{TabledBy, Tabled}
use Rattle.table.specs.declared.Table.{Table}
use Rattle.stairs.specs.Places.{FoundPlaces, ranking, overfull_at, first_overfull_at}
use Rattle.stairs.specs.PlacesLaws.{Below}
use Rattle.reason.specs.Told.{sixteen, why_of}
use Rattle.reason.specs.Asked.{weight, procs_to, first_of, late, told_at, told_by, told_from, told_of}
use Rattle.reason.specs.Choices.{found_map, first-image, first-agree, ranked-places, ranking-sized}
use Rattle.reason.specs.Matching.{due_in, value_same, procs-same}
use Rattle.reason.specs.declared.Reason.TheVariants.{Job as JobReason, Stairs}

-- a condition about single ones, asked place by place
first-places : {A B : Type 0} (test : A → Bool) (xs : List A) (d : A) (test' : B → Bool) (n : ℕ) (g : ℕ → B) (k : ℕ) →
    length xs ≡ n → ((i : ℕ) → i < n → test (get_or xs i d) ≡ test' (g i)) →
    first_after k test xs ≡ first_after k test' (tabulate n g)
unfolding first_after
first-places test [] d test' zero g k e h = refl
first-places test [] d test' (suc n) g k e h = absurd (omega arith)
first-places test (x ∷ xs) d test' zero g k e h = absurd (omega arith)
first-places test (x ∷ xs) d test' (suc n) g k e h =
    rw (
      h 0 (omega arith),
      first-places test xs d test' n (λ i. g (suc i)) (suc k) (omega arith)
          (λ i l. h (suc i) (omega arith)),
    )

-- what it finds is a member's number; where it finds nothing, the condition holds of none
first_holds : {A : Type 0} (test : A → Bool) (xs : List A) (k c : ℕ) → first_after k test xs ≡ holds c →
    (i : ℕ) × (i < length xs) × (c ≡ suc (k + i))
unfolding first_after
first_holds test [] k c e = let z : ◌≡◌ {A = ℕ} 0 1 = cc in absurd (omega arith)
first_holds test (x ∷ xs) k c e = at (test x) e (first_holds test xs (suc k) c)
  where
    at : (b : Bool) → cond b (holds (suc k)) (first_after (suc k) test xs) ≡ holds c →
        (first_after (suc k) test xs ≡ holds c → (i : ℕ) × (i < length xs) × (c ≡ suc (suc k + i))) →
        (i : ℕ) × (i < suc (length xs)) × (c ≡ suc (k + i))
    at true e f = let q : c ≡ suc k = cc in (0, omega arith, omega arith)
    at false e f = let r = f e in (suc r.0, omega (arith, r.1), omega (arith, r.2))

module _ {number : ℕ → ℕ} (o : Order) (t : Table) (m : TabledBy number last_due o t) (r : Reading) (R : ReadingOf last_due o r)
    (a : Acceptable o) (bound : ℤ) where
  abbrev reach : ℕ
  reach = reach_at last_due bound

  work : Workable last_due o
  work = workable o a

  over : Job → Bool
  over job = lt_z (end_of bound job) (pos job.time)

  over-late : (j : ℕ) → j < job_count o →
      over (job_of o (suc j)) ≡ ltb reach ((job_of o (suc j)).time + lead last_due (job_of o (suc j)).due)
  unfolding over end_of
  over-late j l =
      late-reach last_due bound (job_of o (suc j)).due (All-at _ o.jobs no_job work.dues j l) (job_of o (suc j)).time
      (All-at _ o.jobs no_job work.times j l)

  -- the same job is over its end
  pub same-job : first_over_end o bound ≡ first (late r reach) (tabulate t.n (λ j. j))
  unfolding over
  same-job =
      first-places over o.jobs no_job (late r reach) t.n (λ j. j) 0 (sym m.jobs)
      (λ j b.
      let l : j < job_count o = omega (arith, m.jobs) in
      over-late j l ∙ ap (ltb reach) (omega (arith, R.times j l, R.leads j l)))

  module _ (c : first_over_end o bound ≡ clear) where
    in-time : All (λ (job : Job). job.time + lead last_due job.due ≤ reach) o.jobs
    unfolding over
    in-time =
        All-from _ o.jobs no_job (λ j l.
        ltb-false reach _ (sym (over-late j l)
        ∙ All-at (λ (job : Job). over job ≡ false) o.jobs no_job (first-clear over o.jobs 0 c) j l))

    dues_in : (ds : List ℕ) → Below t.q ds → All (λ (d : ℤ). In d (due_times o)) (map (due_in o t m) ds)
    dues_in [] h = tt
    dues_in (d ∷ ds) h = (
      subst (λ (es : List ℤ). In (due_in o t m d) es) (sym m.grid.dues) (in-down (due_in o t m) t.q d h.0),
      dues_in ds h.1,
    )

    overfull-same : (ds : List ℕ) → length ds ≤ t.s → Below t.q ds →
        is_overfull o bound (map (due_in o t m) ds) ≡ overfull_at (weight t) (λ k. procs_to t k * reach) ds
    unfolding overfull_at
    overfull-same ds l b =
        let n : length ds ≤ 16 = omega (arith, m.few-classes) in
        overfull-reach last_due o work bound in-time (map (due_in o t m) ds) (dues_in ds b)
        ∙ rw (length-map ds (due_in o t m), procs-same o t m (length ds) n, value_same o t m 0 ds (omega arith))

    -- the same profile is the first overfull one
    same-profile : first_overfull o bound ≡ found_map (map (due_in o t m)) (first_of t reach)
    unfolding first_overfull first_of first_overfull_at
    same-profile =
        rw (
          m.grid.dues,
          ← m.classed,
          ranked-places (due_in o t m) t.s t.q,
          first-image (map (due_in o t m)) (is_overfull o bound) (ranking t.s t.q),
        )
        (ap (found_map (map (due_in o t m)))
        (first-agree (λ (ds : List ℕ). is_overfull o bound (map (due_in o t m) ds))
        (overfull_at (weight t) (λ k. procs_to t k * reach))
        (ranking t.s t.q)
        (All-map (λ (ds : List ℕ). (length ds ≤ t.s) × Below t.q ds) _ (ranking t.s t.q)
        (λ ds h. overfull-same ds h.0 h.1) (ranking-sized t.s t.q))))

    told-profile : why_of o (reason_by clear (first_overfull o bound)) ≡ told_at t (first_of t reach)
    told-profile = ap (λ (f : Found (List ℤ)). why_of o (reason_by clear f)) same-profile ∙ at (first_of t reach)
      where
        at : (f : FoundPlaces) → why_of o (reason_by clear (found_map (map (due_in o t m)) f)) ≡ told_at t f
        at nothing = refl
        at (found ds) =
            ap (λ (n : ℕ). record { reason = Some (Stairs n); dues = sixteen (map (due_in o t m) ds) }) (length-map ds (due_in o t m))

  told-by : (f : Finding) → first_over_end o bound ≡ f → why_of o (reason_by f (first_overfull o bound)) ≡ told_by r t f
      (first_of t reach)
  unfolding over
  told-by clear e = told-profile e
  told-by (holds j) e =
      let h = first_holds over o.jobs 0 j e in
      let q : j ≡ suc h.0 = omega (arith, h.2) in
      ap (λ (x : ℕ). record { reason = Some (JobReason j x); dues = sixteen [] })
      (rw q (sym (R.times h.0 h.1)))

  -- what is told is the reason
  pub told-from : told_from r t reach ≡ why_of o (reason_of o bound)
  unfolding told_from reason_of
  told-from =
      ap (λ (f : Finding). told_by r t f (first_of t reach)) (sym same-job) ∙ sym (told-by (first_over_end o bound) refl)

-- and so it is of §8's table
pub told_is : (o : Order) (t : Table) → Tabled last_due o t → Acceptable o → (bound : ℤ) →
    told_of t (reach_at last_due bound) ≡ why_of o (reason_of o bound)
told_is o t m a bound = told-from o t m (by_number t) (held-read o t m) a bound
