-- A table that is an order's, wherever its jobs lie: its weights are the order's, and so its least reach is the order's.
use Prim.Native.Nat.{ℕ, suc, ◌+◌, ◌*◌, ◌≤◌, ◌<◌}
use Rattle.std.specs.Prelude.{◌≡◌, eqb, ℤ, length}
use Rattle.std.proofs.Math.Path.{refl, sym, ap}
use Rattle.std.proofs.Common.{◌∙◌}
use mathlib.Core.List.{List, [], ◌∷◌, map}
use native.Mathlib.Omega.{arith}
use Rattle.std.proofs.Math.ListN.{get_or}
use Rattle.sums.specs.Sum.{sum, sum-cong}
use Rattle.sums.specs.Lists.{total, only}
use Rattle.sums.specs.Members.{All-map}
use Rattle.sums.specs.Totals.{total-places}
use Rattle.order.specs.Order.{Order, Job, job_count, job_of, no_job}
use Rattle.order.specs.Class.{classes, class_of, processors_in, processors_to}
use Rattle.profile.specs.Least.{owed_at, weight_at, weight_from, heaviest, least_reach}
use Rattle.order.specs.Lead.{lead, due_at, last_due}
use Rattle.sums.specs.Most.{largest, ceiling, most, most-cong, largest-most}
use Rattle.table.specs.HeldLaws.{most-once}
use Rattle.table.specs.Tabled.{TabledBy}
use Rattle.table.specs.declared.Table.{Table}
use Rattle.stairs.specs.Places.{profiles, value, best}
use Rattle.reason.specs.Asked.{owed_by, minutes_at, weight, procs_to, latest_of, least_for, least_reach_of}
use Rattle.order.proofs.LeadLaws.{lead-due}
use Rattle.reason.specs.Choices.{largest-image, largest-agree, choices-places, profiles-sized, Sized}

module _ {number : ℕ → ℕ} (o : Order) (t : Table) (m : TabledBy number last_due o t) where
  -- the due time at a place
  abbrev pub due_in : ℕ → ℤ
  due_in d = due_at last_due (get_or t.grid d 0)

  -- what the jobs of a class owe by the time of a lead
  pub owes_same : (k g : ℕ) →
      total o.jobs (λ (job : Job). only (eqb (class_of o job) k) (owed_at last_due g job))
      ≡ sum t.n (λ j. only (eqb (get_or t.classes j 0) k) (owed_by (get_or t.times j 0) (get_or t.leads j 0) g))
  owes_same k g =
      total-places o.jobs no_job (λ (job : Job). only (eqb (class_of o job) k) (owed_at last_due g job))
      ∙ sym (m.each-once.sums (λ j. only (eqb (class_of o (job_of o j)) k) (owed_at last_due g (job_of o j))))
      ∙ (sum-cong (job_count o) _ (λ j. only (eqb (get_or t.classes j 0) k) (owed_by (get_or t.times j 0) (get_or t.leads j 0) g))
      (λ j l. rw (m.times j l, m.leads j l, m.classes-of j l) refl)
      ∙ ap (λ (n : ℕ). sum n (λ j. only (eqb (get_or t.classes j 0) k) (owed_by (get_or t.times j 0) (get_or t.leads j 0) g)))
      (sym m.jobs))

  minutes-same : (k g d : ℕ) → g ≡ get_or t.grid d 0 →
      total o.jobs (λ (job : Job). only (eqb (class_of o job) k) (owed_at last_due g job)) ≡ minutes_at t k d
  unfolding minutes_at
  minutes-same k g d e =
      owes_same k g
      ∙ ap (λ (x : ℕ). sum t.n (λ j. only (eqb (get_or t.classes j 0) k) (owed_by (get_or t.times j 0) (get_or t.leads j 0) x))) e

  weight-same : (i d : ℕ) → i < 16 → weight_at last_due o (suc i) (lead last_due (due_in d)) ≡ weight t i d
  unfolding weight_at weight
  weight-same i d l =
      let g = lead-due last_due (get_or t.grid d 0) in
      omega (
        arith,
        minutes-same (suc i) (lead last_due (due_in d)) d g,
        ap (λ (x : ℕ). processors_in o (suc i) * x) g,
        ap (λ (x : ℕ). x * get_or t.grid d 0) (m.procs i l),
      )

  pub value_same : (i : ℕ) (ds : List ℕ) → i + length ds ≤ 16 → weight_from last_due o (suc i) (map due_in ds) ≡ value (weight t) i ds
  unfolding weight_from value
  value_same i [] l = refl
  value_same i (d ∷ ds) l = omega (arith, weight-same i d (omega arith), value_same (suc i) ds (omega arith))

  pub procs-same : (k : ℕ) → k ≤ 16 → processors_to o k ≡ procs_to t k
  unfolding processors_to procs_to
  procs-same k l = sum-cong k _ _ (λ i b. sym (m.procs i (omega arith)))

  heaviest-same : (k : ℕ) → k ≤ 16 → heaviest last_due o k ≡ best (weight t) k t.q
  unfolding heaviest best
  heaviest-same k l =
      rw (m.grid.dues, choices-places due_in k t.q, largest-image (map due_in) (weight_from last_due o 1) (profiles k t.q))
      (largest-agree (λ (ds : List ℕ). weight_from last_due o 1 (map due_in ds)) (value (weight t) 0) (profiles k t.q)
      (All-map (Sized k t.q) _ (profiles k t.q) (λ ds h. value_same 0 ds (omega (arith, h.0)))
      (profiles-sized k t.q)))

  pub reach-same : least_reach last_due o ≡ least_reach_of t
  unfolding least_reach least_reach_of
  reach-same =
      let a : largest (λ (job : Job). job.time + lead last_due job.due) o.jobs ≡ latest_of t
      = largest-most o.jobs no_job (λ (job : Job). job.time + lead last_due job.due)
      ∙ sym (most-once (job_count o) number m.each-once (λ j. (job_of o j).time + lead last_due (job_of o j).due))
      ∙ (most-cong (job_count o) _ (λ j. get_or t.times j 0 + get_or t.leads j 0)
      (λ j l. omega (arith, m.times j l, m.leads j l))
      ∙ ap (λ (n : ℕ). most n (λ j. get_or t.times j 0 + get_or t.leads j 0)) (sym m.jobs)) in
      let b : most (length (classes o)) (λ k. ceiling (heaviest last_due o (suc k)) (processors_to o (suc k))) ≡ most t.s
      (λ k. least_for t (suc k))
      = ap (λ (n : ℕ). most n (λ k. ceiling (heaviest last_due o (suc k)) (processors_to o (suc k)))) (sym m.classed)
      ∙ most-cong t.s _ _ (λ k l.
      let n : suc k ≤ 16 = omega (arith, m.few-classes) in
      rw (heaviest-same (suc k) n, procs-same (suc k) n)) in
      rw (a, b)
