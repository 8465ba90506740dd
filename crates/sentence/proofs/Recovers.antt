-- The time of a job of a struct; the reason that a line may be of.
use Prim.Native.Nat.{ℕ, zero, suc, ◌-◌, ◌/◌, ◌≤◌, ◌<◌}
use Rattle.std.specs.Prelude.{Some}
use mathlib.Core.Path.{◌≡◌, refl, ap}
use mathlib.Core.Bool.{true, false}
use mathlib.Core.List.{List, []}
use mathlib.Core.Logic.{◌≢◌}
use native.Mathlib.Numerals.{unary_clauses}
use native.Mathlib.Omega.{arith}
use lib.Dec.{eqb}
use lib.ListN.{get_or, get_or-eq_default}
use Rattle.sums.specs.Places.{get_d_tabulate}
use Rattle.order.specs.Order.{Job as OrderJob, Order, no_job, job_of}
use Rattle.order.proofs.StructLaws.{job-count}
use Rattle.order.specs.Table.{order_of, job_at}
use Rattle.order.specs.declared.Order.{Order as OrderTable}
use Rattle.reason.specs.Told.{sixteen}
use Rattle.reason.specs.declared.Reason.TheVariants.{Job, Stairs}
use Rattle.reason.specs.declared.Why.{Why}
use Rattle.sentence.specs.Scanning.{scanned, candidate}
use Rattle.sentence.specs.declared.Numbers.{Numbers}

-- the time of a job, and of one that is not there
module _ (t : OrderTable) where
  pub time-at : (j : ℕ) → j ≢ 0 → j ≤ t.jobs → (job_of (order_of t) j).time ≡ get_or t.times (j - 1) 0
  time-at zero n h = absurd (n refl)
  time-at (suc j) n h = simp unary_clauses (ap (λ (job : OrderJob). job.time) (get_d_tabulate t.jobs (job_at t) no_job j h))

  pub time-beyond : (j : ℕ) → t.jobs < j → (job_of (order_of t) j).time ≡ 0
  time-beyond zero h = refl
  time-beyond (suc j) h =
      ap (λ (job : OrderJob). job.time) (get_or-eq_default (order_of t).jobs no_job {n = j} (omega (arith, job-count t)))

-- the reason of a job's line, and of another
module _ (o : Order) (line : List ℕ) (s : Numbers) (e : s ≡ scanned line) where
  pub candidate-job : (time : ℕ) → eqb (get_or line 0 0) 106 ≡ true → time ≡ (job_of o s.first).time →
      ◌≡◌ {A = Why} (record { reason = Some (Job s.first time); dues = sixteen [] }) (candidate o line)
  unfolding candidate
  candidate-job time j t = rw (j, t, e) refl

  pub candidate-stairs : eqb (get_or line 0 0) 106 ≡ false →
      ◌≡◌ {A = Why} (record { reason = Some (Stairs (s.done / 2)); dues = s.dues }) (candidate o line)
  unfolding candidate
  candidate-stairs j = rw (j, e) refl
