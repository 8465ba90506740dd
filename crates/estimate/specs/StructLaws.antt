-- The struct of an estimate that is not refused: its arrays of lows and highs, and the struct of an order on the path, which stands for it.
use Rattle.std.specs.Prelude.{ℕ, zero, suc, ◌+◌, ◌-◌, ◌≤◌, ◌<◌, min, ◌≡◌, refl, Bool, List, [], ◌∷◌, ltb, length, get_or}
use Rattle.std.proofs.Common.{sym, ap, ◌∙◌, subst, arith, le_of_suc-le-suc, lt-ltb, le-ltb}
use Rattle.std.proofs.Math.Decide.{dec_lt}
use Rattle.std.proofs.Math.ListN.{get_or-eq_default}
use Rattle.sums.specs.Sum.{sum, sum-most, sum-none}
use Rattle.sums.specs.Lists.{All, only, tabulate}
use Rattle.sums.specs.Members.{All-at}
use Rattle.sums.specs.Places.{length-tabulate, get_d_tabulate, tabulate-cong}
use Rattle.sums.specs.Totals.{sum_first, total-tabulate}
use Rattle.order.specs.Refusals.{limits, accepted, judge, Accepted}
use Rattle.order.proofs.StructLaws.{same-order, same-job}
use Rattle.order.specs.Table.{order_of, padded}
use Rattle.estimate.specs.Estimate.{EstimatedJob, job_with, jobs_with, order_with, path_at, path_length, estimate_rows}
use Rattle.estimate.specs.AcceptLaws.{few-estimated, ends-in-range, uncrossed, between-accepted}
use Rattle.estimate.specs.Inside.{width_at, Spans, time_after, array_after}
use Rattle.estimate.specs.PathLaws.{width_of, times_after, path-is, path-between, length-after}
use Rattle.estimate.specs.Told.{job_between, estimate_of, with_times}
use Rattle.estimate.specs.declared.Estimate.{Estimate as EstimateTable}

-- the closed form, place by place: a job takes what those before it have left
after-at : (n : ℕ) (f : ℕ → EstimatedJob) (k j : ℕ) → j < n →
    get_or (times_after (tabulate n f) k) j 0 ≡ (f j).low + min (k - sum j (λ i. width_of (f i))) (width_of (f j))
unfolding times_after
after-at zero f k j l = absurd (omega arith)
after-at (suc n) f k zero l = omega (arith, sum-none (λ i. width_of (f i)))
after-at (suc n) f k (suc j) l =
    let e : k - width_of (f 0) - sum j (λ i. width_of (f (suc i))) ≡ k - sum (suc j) (λ i. width_of (f i))
    = omega (arith, sum_first j (λ i. width_of (f i))) in
    after-at n (λ i. f (suc i)) (k - width_of (f 0)) j (le_of_suc-le-suc l)
    ∙ ap (λ (x : ℕ). (f (suc j)).low + min x (width_of (f (suc j)))) e

-- jobs with times, place by place
with_at : (n : ℕ) (f : ℕ → EstimatedJob) (times : List ℕ) → length times ≡ n →
    tabulate n (λ j. job_with (f j) (get_or times j 0)) ≡ jobs_with (tabulate n f) times
with_at zero f times e = refl
with_at (suc n) f [] e = absurd (omega arith)
with_at (suc n) f (t ∷ ts) e = ap (λ (l : List _). job_with (f 0) t ∷ l) (with_at n (λ i. f (suc i)) ts (omega arith))

module _ (t : EstimateTable) (ok : judge (estimate_rows limits (estimate_of t)) ≡ accepted) where
  -- what holds of each job holds of the one at a place
  job-at : (P : EstimatedJob → Type 0) → All P (estimate_of t).jobs → (j : ℕ) → j < t.order.jobs → P (job_between t j)
  job-at P h j l =
      subst P (get_d_tabulate t.order.jobs (job_between t) (job_between t 0) j l)
      (All-at P (estimate_of t).jobs (job_between t 0) h j (omega (arith, length-tabulate t.order.jobs (job_between t))))

  pub few-jobs : t.order.jobs ≤ 48
  few-jobs = omega (arith, length-tabulate t.order.jobs (job_between t), (few-estimated (estimate_of t) ok).1)

  pub spans : Spans t.order.times t.highs t.order.jobs
  spans = record {
    few = few-jobs;
    rise = job-at (λ (job : EstimatedJob). job.low ≤ job.high) (uncrossed (estimate_of t) ok);
    small = λ j l. (job-at _ (ends-in-range (estimate_of t) ok) j l).1.1;
  }

  -- how many minutes the path has
  pub length-is : sum t.order.jobs (width_at t.order.times t.highs) ≡ path_length (estimate_of t)
  length-is = sym (total-tabulate t.order.jobs (job_between t) width_of)

  pub length_most : path_length (estimate_of t) ≤ 4799952
  length_most =
      omega (
        arith,
        length-is,
        few-jobs,
        sum-most t.order.jobs 99999 (width_at t.order.times t.highs) (λ j l.
            omega (arith, job-at _ (ends-in-range (estimate_of t) ok) j l)),
      )

  -- the array of times is that of the path
  pub array-is : (k : ℕ) → array_after t.order.times t.highs t.order.jobs k ≡ padded 48 (path_at (estimate_of t) k)
  array-is k =
      tabulate-cong 48 _ (λ j. get_or (times_after (estimate_of t).jobs k) j 0) each
      ∙ ap (padded 48) (sym (path-is (estimate_of t) k))
    where
      each : (j : ℕ) → j < 48 →
          only (ltb j t.order.jobs) (time_after t.order.times t.highs k j) ≡ get_or (times_after (estimate_of t).jobs k) j 0
      each j l =
          elim (dec_lt j t.order.jobs) [
            | yes h ↦
                ap (λ (b : Bool). only b (time_after t.order.times t.highs k j)) (lt-ltb j t.order.jobs h)
                ∙ sym (after-at t.order.jobs (job_between t) k j h)
            | no h ↦
                ap (λ (b : Bool). only b (time_after t.order.times t.highs k j)) (le-ltb j t.order.jobs (omega arith))
                ∙ sym (get_or-eq_default (times_after (estimate_of t).jobs k) 0
                (omega (arith, length-after (estimate_of t).jobs k, length-tabulate t.order.jobs (job_between t))))
          ]

  -- the struct of an order on the path stands for it
  pub order_is : (k : ℕ) → order_of (with_times t.order (path_at (estimate_of t) k)) ≡ order_with (estimate_of t) (path_at (estimate_of t) k)
  order_is k =
      same-order _ _ _ _ refl
      (tabulate-cong t.order.jobs _ (λ j. job_with (job_between t j) (get_or (path_at (estimate_of t) k) j 0))
      (λ j l. same-job _ _ _ _ _ _ _ _
      (get_d_tabulate 48 (λ i. get_or (path_at (estimate_of t) k) i 0) 0 j (omega (arith, few-jobs))) refl refl refl)
      ∙ with_at t.order.jobs (job_between t) (path_at (estimate_of t) k)
      (ap length (path-is (estimate_of t) k)
      ∙ (length-after (estimate_of t).jobs k ∙ length-tabulate t.order.jobs (job_between t))))

  pub order-accepted : (k : ℕ) → Accepted (order_of (with_times t.order (path_at (estimate_of t) k)))
  order-accepted k =
      subst Accepted (sym (order_is k))
      (between-accepted (estimate_of t) ok (path_at (estimate_of t) k) (path-between (estimate_of t) (uncrossed (estimate_of t) ok) k))
