-- What is composed of a job that is handed in.
use Prim.Native.Nat.{ℕ, zero, suc, ◌-◌, ◌≤◌, ◌<◌}
use mathlib.Core.Path.{◌≡◌, refl, sym, ap, ◌∙◌}
use mathlib.Core.Bool.{Bool, true, false, cond}
use mathlib.Core.List.{[], ◌++◌}
use mathlib.Core.Logic.{inl, inr}
use native.Mathlib.Omega.{arith}
use borrow.Author.Tests.{eq-eqb, ne_eqb}
use lib.Dec.{eqb}
use lib.IntN.{ℤ, pos}
use lib.ListN.{get_or}
use lib.Signed.{mag, le_z, clash_ℤ}
use mir.Syntax.{w32}
use mir.Val.{to_z, of_z, SFits}
use Rattle.sums.specs.Members.{All-nth}
use Rattle.sums.specs.Places.{get_d_tabulate}
use Rattle.order.specs.Order.{Order, Job, no_job, job_count, Numbers, job_of, end_at, end_of}
use Rattle.order.specs.Table.{order_of, job_at}
use Rattle.order.proofs.EndLaws.{mag-end}
use Rattle.order.specs.Machine.{machine-back, machine-low}
use Rattle.order.specs.Refusals.{Accepted, due_in_range, bound_in_range}
use Rattle.order.proofs.RefusalLaws.{accepted-iff, le_z-true, true-le_z}
use Rattle.order.proofs.StructLaws.{job-count, due-in-range-at}
use Rattle.order.specs.Whole.{le-or-lt}
use Rattle.order.specs.declared.Order.{Order as OrderTable}
use Rattle.profile.specs.Reason.{over_end, OverEnd, Stands}
use Rattle.profile.specs.Search.{nothing, found}
use Rattle.sentence.specs.Inside.{job_composed}
use Rattle.text.specs.Text.{ascii}
use Rattle.sentence.specs.Line.{between, job_text, sums_text, line_of, composed}
use Rattle.sentence.specs.LineLaws.{composed-nothing, composed-line, composed-none}

module _ (o : Order) (bound : ℤ) (j time : ℕ) where
  -- nothing of a job that does not stand, or with another time
  pub job-none : ¬ Stands o bound (over_end j) → job_composed o bound j time ≡ []
  job-none h = at (eqb time (job_of o j).time)
    where
      at : (b : Bool) → composed o bound (cond b (found (over_end j)) nothing) ≡ []
      at true = composed-none o bound (over_end j) h
      at false = composed-nothing o bound

  pub job-other : ¬ (time ≡ (job_of o j).time) → job_composed o bound j time ≡ []
  job-other h = rw (ne_eqb time (job_of o j).time h) (composed-nothing o bound)

  -- else its line
  pub job-line : (end : ℤ) → Numbers (job_count o) j → time ≡ (job_of o j).time → end ≡ end_of bound (job_of o j) →
      OverEnd bound (job_of o j) → job_text j time end ++ sums_text time end ≡ job_composed o bound j time
  unfolding line_of
  job-line end n t e h =
      rw (eq-eqb time (job_of o j).time t, composed-line o bound (over_end j) (n, h), t, e) refl

-- a job of a struct, by its number
pub job-at : (t : OrderTable) (j : ℕ) → ¬ (j ≡ 0) → j ≤ t.jobs → job_of (order_of t) j ≡ job_at t (j - 1)
job-at t zero some few = absurd (some refl)
job-at t (suc i) some few =
    let e : suc i - 1 ≡ i = omega arith in
    rw e (get_d_tabulate t.jobs (job_at t) no_job i few)

pub job-number : (t : OrderTable) (j : ℕ) → Numbers (job_count (order_of t)) j → (¬ (j ≡ 0)) × (j ≤ t.jobs)
job-number t j n = (λ e. omega (arith, n.0), omega (arith, n.1, job-count t))

pub number-job : (t : OrderTable) (j : ℕ) → ¬ (j ≡ 0) → j ≤ t.jobs → Numbers (job_count (order_of t)) j
number-job t j some few = (omega arith, omega (arith, job-count t))

-- a job of an accepted order and its end, as the machine has them
module _ (t : OrderTable) (ok : Accepted (order_of t)) (bound : ℤ) (fits : mag bound < 2147483648)
    (range : bound_in_range bound ≡ true)
    (j : ℕ) (some : ¬ (j ≡ 0)) (few : j ≤ t.jobs) where
  abbrev due : ℤ
  due = get_or t.dues (j - 1) (pos 0)

  due-is : due ≡ (job_of (order_of t) j).due
  due-is = sym (ap (λ (job : Job). job.due) (job-at t j some few))

  due-range : due_in_range due ≡ true
  due-range = due-in-range-at t ok (j - 1) (omega arith)

  time-range : get_or t.times (j - 1) 0 ≤ 100000
  time-range =
      let n = number-job t j some few in
      omega (
        arith,
        (All-nth _ (order_of t).jobs no_job ((accepted-iff (order_of t)).0 ok).times j n.0 n.1).1,
        ap (λ (job : Job). job.time) (job-at t j some few),
      )

  module _ (small : mag due < 2147483648) where
    pub end-asked : (due_in_range (to_z w32 (of_z w32 due)) ≡ true) × (bound_in_range (to_z w32 (of_z w32 bound)) ≡ true)
    end-asked = (rw (machine-back due small) due-range, rw (machine-back bound fits) range)

    module _ (time : ℕ) (same : get_or t.times (j - 1) 0 ≡ time) where
      pub time-fits : SFits w32 (pos time)
      time-fits = record { sfits = omega (arith, time-range) }

      pub time-is : time ≡ (job_of (order_of t) j).time
      time-is = sym same ∙ sym (ap (λ (job : Job). job.time) (job-at t j some few))

      module _ (end : ℤ) (e : end ≡ end_at (to_z w32 (of_z w32 bound)) (to_z w32 (of_z w32 due))) where
        end-at : end ≡ end_at bound due
        end-at = e ∙ rw (machine-back due small, machine-back bound fits) refl

        pub end-small : mag end < 2147483648
        end-small = rw end-at (omega (arith, mag-end due bound due-range range))

        pub end_is : end ≡ end_of bound (job_of (order_of t) j)
        unfolding end_of
        end_is = end-at ∙ ap (end_at bound) due-is

        read : le_z (to_z w32 time) (to_z w32 (of_z w32 end)) ≡ le_z (pos (job_of (order_of t) j).time)
            (end_of bound (job_of (order_of t) j))
        read =
            rw (machine-low time (omega (arith, time-range)), machine-back end end-small, end_is)
            (ap (λ (n : ℕ). le_z (pos n) (end_of bound (job_of (order_of t) j))) time-is)

        pub in-time : le_z (to_z w32 time) (to_z w32 (of_z w32 end)) ≡ true → ¬ OverEnd bound (job_of (order_of t) j)
        in-time h over = clash_ℤ over (le_z-true _ _ (sym read ∙ h))

        pub over-end : le_z (to_z w32 time) (to_z w32 (of_z w32 end)) ≡ false → OverEnd bound (job_of (order_of t) j)
        over-end h = elim (le-or-lt (pos (job_of (order_of t) j).time) (end_of bound (job_of (order_of t) j))) [
          | inl l ↦ let z : ◌≡◌ {A = ℕ} 0 1 = cc (h, read, true-le_z _ _ l) in absurd (omega arith)
          | inr l ↦ l
        ]

-- before a class behind another
pub between-some : (before : ℕ) → ¬ (before ≡ 0) → ascii ", " ≡ between before
between-some zero h = absurd (h refl)
between-some (suc before) h = refl
