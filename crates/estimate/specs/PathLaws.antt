-- The path in closed form, as it is found without walking it; all of it lies between, a minute of it makes one job one minute longer or
-- none, and it ends at all highs.
use Rattle.std.specs.Prelude.{ℕ, zero, suc, ◌+◌, ◌-◌, ◌≤◌, min, ◌≡◌, refl, Bool, true, false, cond, List, [], ◌∷◌, map, ltb, length}
use Rattle.std.proofs.Common.{sym, ap, ◌∙◌, arith, ltb-true, lt-ltb, le-ltb}
use Rattle.std.proofs.Math.Decide.{dec_lt}
use Rattle.sums.specs.Lists.{All, total}
use Rattle.order.specs.Order.{Job}
use Rattle.profile.proofs.RiseLaws.{Longer, minutes_of}
use Rattle.estimate.specs.Estimate.{EstimatedJob, Estimate, jobs_with, Between, highs, next_times, path_at, path_length}

-- how far a job goes
abbrev pub width_of : EstimatedJob → ℕ
width_of job = job.high - job.low

-- the times after k minutes: a job takes what is left of them, up to its width, and leaves the others the rest
unfoldable pub times_after : List EstimatedJob → ℕ → List ℕ
times_after [] k = []
times_after (job ∷ jobs) k = (job.low + min k (width_of job)) ∷ times_after jobs (k - width_of job)

after_none : (jobs : List EstimatedJob) → map (λ (job : EstimatedJob). job.low) jobs ≡ times_after jobs 0
unfolding times_after
after_none [] = refl
after_none (job ∷ jobs) =
    let t : job.low ≡ job.low + min 0 (width_of job) = omega arith in
    let z : 0 - width_of job ≡ 0 = omega arith in
    cc (t, after_none jobs ∙ ap (times_after jobs) (sym z))

after_next : (jobs : List EstimatedJob) (k : ℕ) → next_times jobs (times_after jobs k) ≡ times_after jobs (suc k)
unfolding times_after next_times
after_next [] k = refl
after_next (job ∷ jobs) k =
    elim (dec_lt k (width_of job)) [
      | yes h ↦
          let t : suc (job.low + min k (width_of job)) ≡ job.low + min (suc k) (width_of job) = omega arith in
          let z : k - width_of job ≡ suc k - width_of job = omega arith in
          rw (lt-ltb (job.low + min k (width_of job)) job.high (omega arith)) (cc (t, ap (times_after jobs) z))
      | no h ↦
          let t : job.low + min k (width_of job) ≡ job.low + min (suc k) (width_of job) = omega arith in
          let z : suc (k - width_of job) ≡ suc k - width_of job = omega arith in
          rw (le-ltb (job.low + min k (width_of job)) job.high (omega arith))
          (cc (t, after_next jobs (k - width_of job) ∙ ap (times_after jobs) z))
    ]

-- the path, step by step, is the closed form
pub path-is : (e : Estimate) (k : ℕ) → path_at e k ≡ times_after e.jobs k
unfolding path_at
path-is e zero = after_none e.jobs
path-is e (suc k) = ap (next_times e.jobs) (path-is e k) ∙ after_next e.jobs k

-- as many times as jobs
pub length-after : (jobs : List EstimatedJob) (k : ℕ) → length (times_after jobs k) ≡ length jobs
unfolding times_after
length-after [] k = refl
length-after (job ∷ jobs) k = ap suc (length-after jobs (k - width_of job))

-- no low above its high
abbrev pub Uncrossed : List EstimatedJob → Type 0
Uncrossed jobs = All (λ (job : EstimatedJob). job.low ≤ job.high) jobs

after-all : (jobs : List EstimatedJob) → Uncrossed jobs →
    times_after jobs (total jobs width_of) ≡ map (λ (job : EstimatedJob). job.high) jobs
unfolding times_after
after-all [] h = refl
after-all (job ∷ jobs) h =
    let t : job.low + min (width_of job + total jobs width_of) (width_of job) ≡ job.high = omega (arith, h.0) in
    let z : width_of job + total jobs width_of - width_of job ≡ total jobs width_of = omega arith in
    cc (t, ap (times_after jobs) z ∙ after-all jobs h.1)

-- the path ends at all highs
pub path-ends : (e : Estimate) → Uncrossed e.jobs → path_at e (path_length e) ≡ highs e
path-ends e h = path-is e (path_length e) ∙ after-all e.jobs h

-- What lies between --------------------------------------------------------------------------------------------------------------------

-- all lows and all highs do
pub lows-between : (jobs : List EstimatedJob) → Uncrossed jobs → Between jobs (map (λ (job : EstimatedJob). job.low) jobs)
lows-between [] h = tt
lows-between (job ∷ jobs) h = ((omega arith, h.0), lows-between jobs h.1)

pub highs-between : (jobs : List EstimatedJob) → Uncrossed jobs → Between jobs (map (λ (job : EstimatedJob). job.high) jobs)
highs-between [] h = tt
highs-between (job ∷ jobs) h = ((h.0, omega arith), highs-between jobs h.1)

-- and what follows on times that do
next-between : (jobs : List EstimatedJob) (times : List ℕ) → Between jobs times → Between jobs (next_times jobs times)
unfolding next_times
next-between [] [] b = tt
next-between [] (t ∷ ts) b = absurd b
next-between (job ∷ jobs) [] b = absurd b
next-between (job ∷ jobs) (t ∷ ts) b = go (ltb t job.high) refl (next-between jobs ts b.1)
  where
    go : (c : Bool) → ltb t job.high ≡ c → Between jobs (next_times jobs ts) →
        Between (job ∷ jobs) (cond c (suc t ∷ ts) (t ∷ next_times jobs ts))
    go true e r = ((omega (arith, b.0.0), ltb-true t job.high e), b.1)
    go false e r = (b.0, r)

-- all of the path lies between
pub path-between : (e : Estimate) → Uncrossed e.jobs → (k : ℕ) → Between e.jobs (path_at e k)
unfolding path_at
path-between e h zero = lows-between e.jobs h
path-between e h (suc k) = next-between e.jobs (path_at e k) (path-between e h k)

-- Longer times ---------------------------------------------------------------------------------------------------------------

longer-itself : (jobs : List Job) → Longer jobs jobs
longer-itself [] = tt
longer-itself (job ∷ jobs) = ((refl, refl, omega arith), longer-itself jobs)

-- times between are not below the lows, and not above the highs
pub lows-shortest : (jobs : List EstimatedJob) (times : List ℕ) → Between jobs times →
    Longer (jobs_with jobs (map (λ (job : EstimatedJob). job.low) jobs)) (jobs_with jobs times)
lows-shortest [] [] b = tt
lows-shortest [] (t ∷ ts) b = absurd b
lows-shortest (job ∷ jobs) [] b = absurd b
lows-shortest (job ∷ jobs) (t ∷ ts) b = ((refl, refl, b.0.0), lows-shortest jobs ts b.1)

pub highs-longest : (jobs : List EstimatedJob) (times : List ℕ) → Between jobs times →
    Longer (jobs_with jobs times) (jobs_with jobs (map (λ (job : EstimatedJob). job.high) jobs))
highs-longest [] [] b = tt
highs-longest [] (t ∷ ts) b = absurd b
highs-longest (job ∷ jobs) [] b = absurd b
highs-longest (job ∷ jobs) (t ∷ ts) b = ((refl, refl, b.0.1), highs-longest jobs ts b.1)

-- a minute of the path: times that are not shorter, and at most one minute more in all
pub next-longer : (jobs : List EstimatedJob) (times : List ℕ) → Between jobs times →
    Longer (jobs_with jobs times) (jobs_with jobs (next_times jobs times))
unfolding next_times
next-longer [] [] b = tt
next-longer [] (t ∷ ts) b = absurd b
next-longer (job ∷ jobs) [] b = absurd b
next-longer (job ∷ jobs) (t ∷ ts) b = go (ltb t job.high) (next-longer jobs ts b.1)
  where
    go : (c : Bool) → Longer (jobs_with jobs ts) (jobs_with jobs (next_times jobs ts)) →
        Longer (jobs_with (job ∷ jobs) (t ∷ ts)) (jobs_with (job ∷ jobs) (cond c (suc t ∷ ts) (t ∷ next_times jobs ts)))
    go true r = ((refl, refl, omega arith), longer-itself (jobs_with jobs ts))
    go false r = ((refl, refl, omega arith), r)

pub next-minutes : (jobs : List EstimatedJob) (times : List ℕ) → Between jobs times →
    (d : ℕ) × (d ≤ 1) × (minutes_of (jobs_with jobs (next_times jobs times)) ≡ minutes_of (jobs_with jobs times) + d)
unfolding next_times
next-minutes [] [] b = (0, omega arith, refl)
next-minutes [] (t ∷ ts) b = absurd b
next-minutes (job ∷ jobs) [] b = absurd b
next-minutes (job ∷ jobs) (t ∷ ts) b = go (ltb t job.high) (next-minutes jobs ts b.1)
  where
    go : (c : Bool) → (d : ℕ) × (d ≤ 1) × (minutes_of (jobs_with jobs (next_times jobs ts)) ≡ minutes_of (jobs_with jobs ts) + d) →
        (d : ℕ) × (d ≤ 1) × (minutes_of (jobs_with (job ∷ jobs) (cond c (suc t ∷ ts) (t ∷ next_times jobs ts)))
        ≡ minutes_of (jobs_with (job ∷ jobs) (t ∷ ts)) + d)
    go true r = (1, omega arith, omega arith)
    go false r = (r.0, r.1, omega (arith, r.2))
