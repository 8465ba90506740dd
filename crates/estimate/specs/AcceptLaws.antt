-- An estimate that is not refused: its counts and numbers are in range, no low is above its high, each job fits; and so every order with
-- times between is accepted.
use Rattle.std.specs.Prelude.{ℕ, suc, ◌≤◌, ◌≡◌, refl, List, [], ◌∷◌, leb, pos, negsuc, length}
use Rattle.std.proofs.Common.{ap}
use Rattle.std.proofs.Math.Bool.{true}
use native.Mathlib.Omega.{arith}
use borrow.Author.Tests.{not-false, leb-true, ltb-false, eqb-false}
use Rattle.std.specs.Int.Signed.{le_z}
use Rattle.sums.specs.Lists.{All}
use Rattle.sums.specs.Members.{All-map}
use Rattle.order.specs.Order.{Job}
use Rattle.order.specs.Refusals.{limits, accepted, judge, most_makers, time_in_range, Accepted}
use Rattle.order.proofs.RefusalLaws.{judge-accepted, whole-clear, first-clear, both_true, le_z-true, fits_some-true, accepted-iff}
use Rattle.estimate.specs.Estimate.{EstimatedJob, Estimate, job_with, jobs_with, order_with, Between, estimate_rows}
use Rattle.estimate.specs.PathLaws.{Uncrossed}

-- as many jobs as are estimated
pub length-with : (jobs : List EstimatedJob) (times : List ℕ) → Between jobs times → length (jobs_with jobs times) ≡ length jobs
length-with [] [] b = refl
length-with [] (t ∷ ts) b = absurd b
length-with (job ∷ jobs) [] b = absurd b
length-with (job ∷ jobs) (t ∷ ts) b = ap suc (length-with jobs ts b.1)

-- what follows for a job from its estimate and a time between
all-with : (P : EstimatedJob → Type 0) (Q : Job → Type 0) →
    ((job : EstimatedJob) (time : ℕ) → P job → job.low ≤ time → time ≤ job.high → Q (job_with job time)) →
    (jobs : List EstimatedJob) (times : List ℕ) → Between jobs times → All P jobs → All Q (jobs_with jobs times)
all-with P Q f [] [] b h = tt
all-with P Q f [] (t ∷ ts) b h = absurd b
all-with P Q f (job ∷ jobs) [] b h = absurd b
all-with P Q f (job ∷ jobs) (t ∷ ts) b h = (f job t h.0 b.0.0 b.0.1, all-with P Q f jobs ts b.1 h.1)

module _ (e : Estimate) (ok : judge (estimate_rows limits e) ≡ accepted) where
  -- lows and highs are in the time's range
  pub ends-in-range : All (λ (job : EstimatedJob). ((1 ≤ job.low) × (job.low ≤ 100000)) × ((1 ≤ job.high) × (job.high ≤ 100000)))
      e.jobs
  unfolding estimate_rows
  ends-in-range =
      let c = (judge-accepted (estimate_rows limits e)).0 ok in
      All-map _ _ e.jobs (λ (job : EstimatedJob) r. each job (both_true (time_in_range job.low) (time_in_range job.high)
      (not-false _ r))) (first-clear _ e.jobs 0 c.1.1.1.1.0)
    where
      one : (t : ℕ) → time_in_range t ≡ true → (1 ≤ t) × (t ≤ 100000)
      one t h = let b = both_true (leb 1 t) (leb t 100000) h in (leb-true 1 t b.0, leb-true t 100000 b.1)

      each : (job : EstimatedJob) → (time_in_range job.low ≡ true) × (time_in_range job.high ≡ true) →
          ((1 ≤ job.low) × (job.low ≤ 100000)) × ((1 ≤ job.high) × (job.high ≤ 100000))
      each job h = (one job.low h.0, one job.high h.1)

  pub uncrossed : Uncrossed e.jobs
  unfolding estimate_rows
  uncrossed =
      let c = (judge-accepted (estimate_rows limits e)).0 ok in
      All-map _ _ e.jobs (λ (job : EstimatedJob) r. ltb-false job.high job.low r)
      (first-clear _ e.jobs 0 c.1.1.1.1.1.1.1.0)

  pub few-estimated : (length e.memories ≤ 16) × (length e.jobs ≤ 48)
  unfolding estimate_rows
  few-estimated =
      let c = (judge-accepted (estimate_rows limits e)).0 ok in
      (ltb-false 16 (length e.memories) (whole-clear _ c.1.0), ltb-false 48 (length e.jobs) (whole-clear _ c.1.1.1.0))

  -- for all times between, on the path or not, the order is accepted
  pub between-accepted : (times : List ℕ) → Between e.jobs times → Accepted (order_with e times)
  unfolding estimate_rows
  between-accepted times b =
      let c = (judge-accepted (estimate_rows limits e)).0 ok in
      let n = length-with e.jobs times b in
      (accepted-iff (order_with e times)).1 (record {
        some-processor = omega (arith, eqb-false (length e.memories) 0 (whole-clear _ c.0));
        few-processors = few-estimated.0;
        some-job = omega (arith, n, eqb-false (length e.jobs) 0 (whole-clear _ c.1.1.0));
        few-jobs = omega (arith, n, few-estimated.1);
        times = all-with _ _ (λ job t p l h. (omega (arith, p.0.0), omega (arith, p.1.1))) e.jobs times b ends-in-range;
        dues = all-with _ _ (λ job t p l h.
            let q = both_true (le_z (negsuc 999999) job.due) (le_z job.due (pos 1000000)) (not-false _ p) in
            (le_z-true _ _ q.0, le_z-true _ _ q.1)) e.jobs times b
            (first-clear _ e.jobs 0 c.1.1.1.1.1.0);
        makers = all-with _ _ (λ job t p l h.
            let q = both_true (leb 1 job.maker) (leb job.maker most_makers) (not-false _ p) in
            (leb-true 1 job.maker q.0, leb-true job.maker most_makers q.1)) e.jobs times b
            (first-clear _ e.jobs 0 c.1.1.1.1.1.1.0);
        fit = all-with _ _ (λ job t p l h.
            let q = fits_some-true job.need e.memories (not-false _ p) in (suc q.0, (omega arith, q.1), q.2))
            e.jobs times b (first-clear _ e.jobs 0 c.1.1.1.1.1.1.1.1.0);
      })
