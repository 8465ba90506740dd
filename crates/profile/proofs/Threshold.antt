-- The least lateness is where a bound ceases to be too tight: for every order that the mathematics takes, with `top` a minute that no
-- due time exceeds, and for every whole number as the bound there is a reason, in document 01's sense, exactly if the bound is below
-- the formula's number.
use Rattle.std.specs.Prelude.{ℕ, zero, suc, ◌+◌, ◌*◌, ◌≤◌, ◌<◌, ◌≡◌, refl, List, [], ◌∷◌, ◌↔◌, ℤ, pos, ltb, length, ◌≤ℤ◌, ◌<ℤ◌}
use Rattle.std.proofs.Common.{sym, ap, inl, inr, arith}
use Rattle.std.proofs.Math.Decide.{dec_le}
use Rattle.std.specs.Int.Signed.{clash_ℤ}
use Rattle.sums.specs.Lists.{All, In}
use Rattle.sums.specs.Members.{All-map, All-both, All-at}
use Rattle.order.specs.Order.{Job, Order, job_count, Numbers, no_job, job_of, end_at, end_of}
use Rattle.order.specs.Sorted.{due_times}
use Rattle.order.specs.Class.{classes, processors_to}
use Rattle.order.specs.Lead.{lead, reach_at, Workable}
use Rattle.order.proofs.LeadLaws.{in-time-reach, below-reach}
use Rattle.order.specs.Whole.{le-or-lt, pos-cut}
use Rattle.profile.specs.Profile.{minutes_owed, minutes_on_hand, Overfull}
use Rattle.profile.specs.Reason.{Reason, InTime, IsReason}
use Rattle.profile.specs.Search.{choices, Found, nothing, found, is_overfull, reason_of}
use Rattle.profile.specs.Least.{weight_from, least_reach, least_from}
use Rattle.profile.proofs.Ranking.{choices-in}
use Rattle.profile.proofs.SearchLaws.{due_times-fall, in-due, profile-chosen, chosen-profile, overfull-some}
use Rattle.profile.proofs.ReasonLaws.{NoReason, in-time-all, reason-found, reason-none}
use Rattle.profile.specs.LeastLaws.{reach-le, times-reached, weights-reached}
use Rattle.profile.proofs.Weights.{Reached, exceeds-weight, overfull-weighs}

module _ (top : ℤ) (o : Order) (a : Workable top o) (bound : ℤ) where
  -- every job is in time exactly if each time and lead are at most the reach
  all-reach : All (InTime bound) o.jobs ↔ All (λ (job : Job). job.time + lead top job.due ≤ reach_at top bound) o.jobs
  unfolding end_of
  all-reach = (
    λ h. All-map _ _ o.jobs (λ (job : Job) x. x.0.0 x.1) (All-both _ _ o.jobs each h),
    λ h. All-map _ _ o.jobs (λ (job : Job) x. x.0.1 x.1) (All-both _ _ o.jobs each h),
  )
    where
      each : All (λ (job : Job). InTime bound job ↔ (job.time + lead top job.due ≤ reach_at top bound)) o.jobs
      each =
          All-map _ _ o.jobs (λ (job : Job) x. in-time-reach top bound job.due x.1 job.time x.0)
          (All-both _ _ o.jobs a.times a.dues)

  module _ (t : All (λ (job : Job). job.time + lead top job.due ≤ reach_at top bound) o.jobs) where
    jobs-reached : All (λ (job : Job). Reached top (reach_at top bound) job.due) o.jobs
    jobs-reached =
        All-map _ _ o.jobs (λ (job : Job) x. record { at_most = x.1; within = omega (arith, x.0) })
        (All-both _ _ o.jobs t a.dues)

    due-reached : (d : ℤ) → In d (due_times o) → Reached top (reach_at top bound) d
    due-reached d i = let j = in-due o d i in rw j.2 (by_number j.0 j.1)
      where
        by_number : (j : ℕ) → Numbers (job_count o) j → Reached top (reach_at top bound) (job_of o j).due
        by_number zero b = absurd (omega (arith, b.0))
        by_number (suc j) b =
            All-at (λ (job : Job). Reached top (reach_at top bound) job.due) o.jobs no_job jobs-reached j b.1

    reach-is : end_at bound top ≡ pos (reach_at top bound)
    reach-is =
        sym (pos-cut (end_at bound top)
        (omega (arith, All-at _ o.jobs no_job t 0 a.some-job, All-at _ o.jobs no_job a.times 0 a.some-job)))

    -- a profile is overfull exactly if its weight exceeds the processors of its classes times the reach
    pub exceeds-reach : (dues : List ℤ) → All (λ (d : ℤ). In d (due_times o)) dues →
        (minutes_on_hand o bound dues <ℤ pos (minutes_owed o bound dues))
        ↔ (processors_to o (length dues) * reach_at top bound < weight_from top o 1 dues)
    exceeds-reach dues c =
        exceeds-weight top bound (reach_at top bound) reach-is o jobs-reached dues (All-map _ _ dues due-reached c)

    pub overfull-reach : (dues : List ℤ) → All (λ (d : ℤ). In d (due_times o)) dues →
        is_overfull o bound dues ≡ ltb (processors_to o (length dues) * reach_at top bound) (weight_from top o 1 dues)
    overfull-reach dues c =
        overfull-weighs top bound (reach_at top bound) reach-is o jobs-reached dues (All-map _ _ dues due-reached c)

  -- there is no reason exactly from the least reach on
  no-reason-reach : NoReason o bound → least_reach top o ≤ reach_at top bound
  no-reason-reach h = reach-le o top (reach_at top bound) t not-heavier
    where
      t : All (λ (job : Job). job.time + lead top job.due ≤ reach_at top bound) o.jobs
      t = all-reach.0 ((in-time-all o bound).0 h.0)

      not-heavier : (k : ℕ) → k < length (classes o) → (es : List ℤ) → In es (choices (suc k) (due_times o)) →
          weight_from top o 1 es ≤ processors_to o (suc k) * reach_at top bound
      not-heavier k l es i =
          let c = (choices-in (suc k) (due_times o) (due_times-fall o) es).0 i in
          elim (dec_le (weight_from top o 1 es) (processors_to o (suc k) * reach_at top bound)) [
            | yes w ↦ w
            | no w ↦
                absurd (h.1 es (record {
                  profile = chosen-profile o bound es (omega (arith, c.0)) c.1;
                  exceeds = (exceeds-reach t es c.1.members).1
                      (omega (arith, ap (λ (n : ℕ). processors_to o n * reach_at top bound) c.0));
                }))
          ]

  reach-no-reason : least_reach top o ≤ reach_at top bound → NoReason o bound
  reach-no-reason h = ((in-time-all o bound).1 (all-reach.1 t), none)
    where
      t : All (λ (job : Job). job.time + lead top job.due ≤ reach_at top bound) o.jobs
      t = times-reached o top (reach_at top bound) h

      none : (dues : List ℤ) → ¬ Overfull o bound dues
      none [] f = omega (arith, overfull-some o bound [] f)
      none (d ∷ ds) f =
          let c = profile-chosen o bound (d ∷ ds) f.profile in
          let i = (choices-in (suc (length ds)) (due_times o) (due_times-fall o) (d ∷ ds)).1 (refl, c) in
          omega (
            arith,
            (exceeds-reach t (d ∷ ds) c.members).0 f.exceeds,
            weights-reached o top (reach_at top bound) h (length ds) f.profile.of-classes (d ∷ ds) i,
          )

  -- some job takes a minute
  some-reach : 1 ≤ least_reach top o
  some-reach =
      omega (
        arith,
        All-at _ o.jobs no_job a.times 0 a.some-job,
        All-at _ o.jobs no_job (times-reached o top (least_reach top o) (omega arith)) 0 a.some-job,
      )

  -- a bound is below the least lateness exactly if its reach is below the least reach
  below-least : (bound <ℤ least_from top o) ↔ (reach_at top bound < least_reach top o)
  below-least = below-reach top bound (least_reach top o) some-reach

  -- where every job is in time, a profile's minutes owed exceed those on hand exactly if its weight, which does not mention
  -- the bound, exceeds the processors of its classes times the reach
  pub exceeds-iff : ((j : ℕ) → Numbers (job_count o) j → InTime bound (job_of o j)) →
      (dues : List ℤ) → All (λ (d : ℤ). In d (due_times o)) dues →
      (minutes_on_hand o bound dues <ℤ pos (minutes_owed o bound dues))
      ↔ (processors_to o (length dues) * reach_at top bound < weight_from top o 1 dues)
  exceeds-iff h dues c = exceeds-reach (all-reach.0 ((in-time-all o bound).0 h)) dues c

  pub overfull-iff : ((j : ℕ) → Numbers (job_count o) j → InTime bound (job_of o j)) →
      (dues : List ℤ) → All (λ (d : ℤ). In d (due_times o)) dues →
      is_overfull o bound dues ≡ ltb (processors_to o (length dues) * reach_at top bound) (weight_from top o 1 dues)
  overfull-iff h dues c = overfull-reach (all-reach.0 ((in-time-all o bound).0 h)) dues c

  -- below the least lateness there is a reason
  pub reason-below : bound <ℤ least_from top o → (r : Reason) × IsReason o bound r
  reason-below l = go (reason_of o bound) refl
    where
      go : (f : Found Reason) → reason_of o bound ≡ f → (r : Reason) × IsReason o bound r
      go nothing e =
          let h = no-reason-reach ((reason-none o bound).0 e) in
          absurd (omega (arith, h, below-least.0 l))
      go (found r) e = (r, (reason-found o bound r).0 e)

  -- from the least lateness on there is none
  pub no-reason-from : least_from top o ≤ℤ bound → NoReason o bound
  no-reason-from l =
      elim (dec_le (least_reach top o) (reach_at top bound)) [
        | yes h ↦ reach-no-reason h
        | no h ↦ clash_ℤ (below-least.1 (omega arith)) l
      ]

  -- there is a reason exactly if the bound is below the least lateness
  pub threshold : ((r : Reason) × IsReason o bound r) ↔ (bound <ℤ least_from top o)
  threshold = (
    λ r. elim (le-or-lt (least_from top o) bound) [
      | inl l ↦ absurd (clash r.0 ((reason-found o bound r.0).1 r.1) ((reason-none o bound).1 (no-reason-from l)))
      | inr l ↦ l
    ],
    reason-below,
  )
    where
      clash : (r : Reason) → reason_of o bound ≡ found r → reason_of o bound ≡ nothing → ⊥
      clash r e f = let z : ◌≡◌ {A = ℕ} 0 1 = cc in omega arith
