-- The reason by trying is document 01's: "a job whose time exceeds its end, the first such in input order; if there is
-- none, a staircase". It is the only one, and in it the minutes owed exceed those on hand.
use Rattle.std.specs.Prelude.{ℕ, zero, suc, ◌+◌, ◌<◌, refl, Bool, false, ◌↔◌, ℤ, pos, get_or, ◌<ℤ◌}
use Rattle.std.proofs.Math.Path.{◌≡◌, subst}
use Rattle.std.proofs.Common.{ap, ◌∙◌, arith, le_of_suc-le-suc}
use mathlib.Core.List.{List}
use Rattle.std.specs.Int.Signed.{lt_z}
use Rattle.sums.specs.Lists.{All}
use Rattle.sums.specs.Members.{All-map, All-at, All-from}
use Rattle.order.specs.Order.{Job, Order, job_count, Numbers, no_job, job_of, end_of}
use Rattle.order.proofs.FindingLaws.{Outcome, none_passes, passes_at, outcome}
use Rattle.order.specs.Refusals.{clear, holds}
use Rattle.order.proofs.RefusalLaws.{first-at, first-none}
use Rattle.order.specs.Whole.{lt_z-true, true-lt_z, lt_z-false, false-lt_z}
use Rattle.profile.specs.Profile.{Overfull}
use Rattle.profile.specs.Reason.{Reason, over_end, stairs, InTime, FirstOverEnd, IsReason, owed_of, on_hand_of}
use Rattle.profile.specs.Search.{Found, nothing, found, first_overfull, first_over_end, reason_by, reason_of}
use Rattle.profile.proofs.SearchLaws.{first_overfull-found, first_overfull-none}

-- at a bound every job is in time and no profile is overfull
abbrev pub NoReason : Order → ℤ → Type 0
NoReason o bound =
    ((j : ℕ) → Numbers (job_count o) j → InTime bound (job_of o j)) × ((dues : List ℤ) → ¬ Overfull o bound dues)

module _ (o : Order) (bound : ℤ) where
  -- a job is over its end where the test says so
  abbrev is_over : Job → Bool
  is_over job = lt_z (end_of bound job) (pos job.time)

  -- every job is in time: each member, and each by its number
  pub in-time-all : ((j : ℕ) → Numbers (job_count o) j → InTime bound (job_of o j)) ↔ All (InTime bound) o.jobs
  in-time-all = (
    λ h. All-from (InTime bound) o.jobs no_job (λ i l. h (suc i) (omega arith, l)),
    by_number,
  )
    where
      by_number : All (InTime bound) o.jobs → (j : ℕ) → Numbers (job_count o) j → InTime bound (job_of o j)
      by_number h zero b = absurd (omega (arith, b.0))
      by_number h (suc j) b = All-at (InTime bound) o.jobs no_job h j b.1

  -- the search comes to the first job over its end, or all are in time
  data Tried : Type 0 where
    all-in-time : first_over_end o bound ≡ clear → ((j : ℕ) → Numbers (job_count o) j → InTime bound (job_of o j)) → Tried
    one-over : (j : ℕ) → first_over_end o bound ≡ holds j → FirstOverEnd o bound j → Tried

  tried : Tried
  tried = go (outcome is_over no_job 0 o.jobs)
    where
      before : (i : ℕ) → ((e : ℕ) → e < i → is_over (get_or o.jobs e no_job) ≡ false) → (j : ℕ) → Numbers (job_count o) j →
          j < suc i → InTime bound (job_of o j)
      before i f zero b l = absurd (omega (arith, b.0))
      before i f (suc j) b l = lt_z-false _ _ (f j (le_of_suc-le-suc l))

      go : Outcome is_over no_job 0 o.jobs → Tried
      go (none_passes e a) =
          all-in-time e (in-time-all.1 (All-map _ _ o.jobs (λ (job : Job) t. lt_z-false _ _ t) a))
      go (passes_at i e l f p) =
          let q : 0 + i ≡ i = omega arith in
          one-over (suc i) (e ∙ ap (λ (n : ℕ). holds (suc n)) q)
          (record { a-job = (omega arith, l); over = lt_z-true _ _ p; first = before i f })

  over-found : (j : ℕ) → FirstOverEnd o bound j → first_over_end o bound ≡ holds j
  over-found zero h = absurd (omega (arith, h.a-job.0))
  over-found (suc i) h =
      first-at is_over o.jobs no_job 0 i h.a-job.1
      (λ e l. false-lt_z _ _ (h.first (suc e) (omega arith, omega (arith, h.a-job.1)) (omega arith)))
      (true-lt_z _ _ h.over)
      ∙ ap (λ (n : ℕ). holds (suc n)) (omega arith)

  none_found : ((j : ℕ) → Numbers (job_count o) j → InTime bound (job_of o j)) → first_over_end o bound ≡ clear
  none_found h = first-none is_over o.jobs 0 (All-map _ _ o.jobs (λ (job : Job) t. false-lt_z _ _ t) (in-time-all.0 h))

  -- no job is found over its end exactly if all are in time
  pub none-over-end : (first_over_end o bound ≡ clear) ↔ ((j : ℕ) → Numbers (job_count o) j → InTime bound (job_of o j))
  none-over-end = (λ e. go e tried, none_found)
    where
      go : first_over_end o bound ≡ clear → Tried → (j : ℕ) → Numbers (job_count o) j → InTime bound (job_of o j)
      go e (all-in-time c t) = t
      go e (one-over j c t) = let z : ◌≡◌ {A = ℕ} 0 1 = cc in absurd (omega arith)

  found-is : (r : Reason) → reason_of o bound ≡ found r → IsReason o bound r
  unfolding reason_of
  found-is r e = go tried
    where
      at-stairs : first_over_end o bound ≡ clear → ((j : ℕ) → Numbers (job_count o) j → InTime bound (job_of o j)) →
          (f : Found (List ℤ)) → first_overfull o bound ≡ f → IsReason o bound r
      at-stairs c t nothing g = let z : ◌≡◌ {A = ℕ} 0 1 = cc in absurd (omega arith)
      at-stairs c t (found dues) g =
          let q : stairs dues ≡ r = cc in
          subst (IsReason o bound) q (record { all-in-time = t; stairs = (first_overfull-found o bound dues).0 g })

      go : Tried → IsReason o bound r
      go (all-in-time c t) = at-stairs c t (first_overfull o bound) refl
      go (one-over j c t) = let q : over_end j ≡ r = cc in subst (IsReason o bound) q t

  is_found : (r : Reason) → IsReason o bound r → reason_of o bound ≡ found r
  unfolding reason_of
  is_found (over_end j) h = rw (over-found j h)
  is_found (stairs dues) h = rw (none_found h.all-in-time, (first_overfull-found o bound dues).1 h.stairs)

  -- the reason found is the reason
  pub reason-found : (r : Reason) → (reason_of o bound ≡ found r) ↔ IsReason o bound r
  reason-found r = (found-is r, is_found r)

  -- there is one reason at most
  pub reason-one : (r s : Reason) → IsReason o bound r → IsReason o bound s → r ≡ s
  reason-one r s h k = cc (is_found r h, is_found s k)

  -- none is found exactly if every job is in time and no profile is overfull
  pub reason-none : (reason_of o bound ≡ nothing) ↔ NoReason o bound
  unfolding reason_of
  reason-none =
      (λ e. go e tried, λ h. rw (none_found h.0, (first_overfull-none o bound).1 h.1))
    where
      at-stairs : reason_by clear (first_overfull o bound) ≡ nothing → (f : Found (List ℤ)) → first_overfull o bound ≡ f →
          (dues : List ℤ) → ¬ Overfull o bound dues
      at-stairs e nothing g = (first_overfull-none o bound).0 g
      at-stairs e (found dues) g = let z : ◌≡◌ {A = ℕ} 0 1 = cc in absurd (omega arith)

      go : reason_by (first_over_end o bound) (first_overfull o bound) ≡ nothing → Tried → NoReason o bound
      go e (all-in-time c t) = (t, at-stairs (rw c at e) (first_overfull o bound) refl)
      go e (one-over j c t) = let z : ◌≡◌ {A = ℕ} 0 1 = cc in absurd (omega arith)

  -- in a reason the minutes owed exceed those on hand
  pub reason-exceeds : (r : Reason) → IsReason o bound r → on_hand_of o bound r <ℤ pos (owed_of o bound r)
  reason-exceeds (over_end j) h = h.over
  reason-exceeds (stairs dues) h = h.stairs.overfull.exceeds
