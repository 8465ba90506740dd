-- An order at a bound as the jobs, classes and marks of the crate `amounts`: its feasible amounts are those from which a
-- plan is laid out, and where every job is in time its theorems hold.
use Prim.Native.Nat.{ℕ, zero, suc, ◌+◌, ◌*◌, ◌≤◌, ◌<◌, pred}
use Rattle.std.specs.Prelude.{◌≡◌, refl, Bool, List, leb, ℤ, pos, length, get_or, ◌≤ℤ◌}
use Rattle.std.proofs.Common.{sym, ap, ◌∙◌}
use native.Mathlib.Omega.{arith}
use Rattle.std.proofs.Math.Decide.{dec_le, dec_lt}
use borrow.Author.Tests.{leb-true, le-leb, lt-leb}
use Rattle.sums.specs.Sum.{sum, sum-cong}
use Rattle.sums.specs.Gate.{gate, gate-in, gate-out, gate-≤}
use Rattle.sums.specs.Lists.{only}
use Rattle.sums.specs.Members.{All-at, nth_in}
use Rattle.order.specs.Order.{Order, no_job, job_count, Numbers, job_of, memory_of, end_of}
use Rattle.order.specs.Class.{class_of, classes, processors_in, processors_to}
use Rattle.order.proofs.ClassLaws.{class-some, class-at-most}
use Rattle.order.specs.Deadline.{cut, cut-le, deadline_of}
use Rattle.order.specs.Lead.{Workable}
use Rattle.order.proofs.RefusalLaws.{true-le_z}
use Rattle.amounts.specs.Flow.{held, Feasible}
use Rattle.amounts.specs.Exchange.{common_flow}
use Rattle.amounts.specs.Profile.{Jobs, OnMarks, stretches_of, NoneTooLong, Met}
use Rattle.wrap.specs.Stretches.{stretch_count, mark, stretch_length, held_up_to, FeasibleFor}
use Rattle.wrap.specs.Marks.{mark-zero, mark-rises, mark-mono}
use Rattle.wrap.specs.DuePlaces.{due_index, due_index-mark, mark-met}

-- an order at a bound; its jobs count from 0 here, so that job j has the number j + 1
abbrev pub jobs_for : Order → ℤ → Jobs
jobs_for o bound =
    record {
      q = stretch_count o;
      n = job_count o;
      time = λ j. (job_of o (suc j)).time;
      class = λ j. class_of o (job_of o (suc j));
      deadline = λ j. deadline_of bound (job_of o (suc j));
      count = λ i. processors_in o (suc i);
      mark = mark o bound;
      index = due_index o;
    }

-- the amounts by job number
abbrev pub by_number : (ℕ → ℕ → ℕ) → ℕ → ℕ → ℕ
by_number a zero s = 0
by_number a (suc j) s = a j s

-- flat amounts: a row of q numbers for each job; the minutes of job j, numbered from 1, in stretch s
abbrev pub amount_in : ℕ → List ℕ → ℕ → ℕ → ℕ
amount_in q w j s = get_or w (pred j * q + s) 0

pub gate-only : (c k v : ℕ) → gate c (suc k) v ≡ only (leb c k) v
gate-only c k v =
    elim (dec_le c k) [
      | yes h ↦ gate-in c (suc k) v (omega arith) ∙ sym (ap (λ (t : Bool). only t v) (le-leb c k h))
      | no h ↦ gate-out c (suc k) v (omega arith) ∙ sym (ap (λ (t : Bool). only t v) (lt-leb c k (omega arith)))
    ]

module _ (o : Order) (bound : ℤ) where
  flow-by-deadline : {a : ℕ → ℕ → ℕ} → Feasible (common_flow (stretches_of (jobs_for o bound))) 1 a →
      (j s : ℕ) → j < job_count o → s < stretch_count o → deadline_of bound (job_of o (suc j)) < mark o bound (suc s) →
      a j s ≡ 0
  flow-by-deadline f j s b l h =
      let i = due_index-mark o bound j b in
      elim (dec_lt s (due_index o j)) [
        | yes w ↦ absurd (omega (arith, i.2, mark-mono o bound (suc s) (due_index o j) w i.1))
        | no w ↦
            omega (arith, f.caps j s b l, gate-out s (due_index o j) (stretch_length o bound s) (omega arith))
      ]

  held-flow : (a : ℕ → ℕ → ℕ) (s k : ℕ) →
      held (common_flow (stretches_of (jobs_for o bound))) a s k ≡ held_up_to o (by_number a) k s
  unfolding held_up_to
  held-flow a s k = sum-cong (job_count o) _ _ (λ j b. gate-only (class_of o (job_of o (suc j))) k (a j s))

  -- feasible amounts of the flow are those from which a plan is laid out
  pub flow-feasible : {a : ℕ → ℕ → ℕ} → Feasible (common_flow (stretches_of (jobs_for o bound))) 1 a →
      FeasibleFor o bound (by_number a)
  unfolding processors_to
  flow-feasible {a} f =
      record {
        within = within;
        by-deadline = by-deadline;
        whole = whole;
        fits = λ s k l. omega (arith, f.fits s k l, held-flow a s k);
      }
    where
      within : (j s : ℕ) → Numbers (job_count o) j → s < stretch_count o → by_number a j s ≤ stretch_length o bound s
      within zero s b l = absurd (omega arith)
      within (suc j) s b l =
          omega (arith, f.caps j s b.1 l, gate-≤ s (due_index o j) (stretch_length o bound s))

      by-deadline : (j s : ℕ) → Numbers (job_count o) j → s < stretch_count o →
          deadline_of bound (job_of o j) < mark o bound (suc s) → by_number a j s ≡ 0
      by-deadline zero s b l h = refl
      by-deadline (suc j) s b l h = flow-by-deadline f j s b.1 l h

      whole : (j : ℕ) → Numbers (job_count o) j → sum (stretch_count o) (by_number a j) ≡ (job_of o j).time
      whole zero b = absurd (omega arith)
      whole (suc j) b = omega (arith, f.done j b.1)

  -- every mark but the first is a deadline
  pub jobs-met : Met (jobs_for o bound)
  jobs-met zero h l = absurd (omega arith)
  jobs-met (suc s) h l = mark-met o bound s l

  module _ {top : ℤ} (work : Workable top o) where
    time-some : (j : ℕ) → j < job_count o → 1 ≤ (job_of o (suc j)).time
    time-some j b = All-at _ o.jobs no_job work.times j b

    -- every job has a class
    pub jobs-classed : (j : ℕ) → j < job_count o → 0 < class_of o (job_of o (suc j))
    unfolding class_of
    jobs-classed j b =
        let f = All-at _ o.jobs no_job work.fit j b in
        class-some o (job_of o (suc j)).need (memory_of o f.0) (nth_in o.memories 0 f.0 f.1.0 f.1.1) f.2

    -- and no job's time exceeds its end
    module _ (in-time : (j : ℕ) → Numbers (job_count o) j → pos (job_of o j).time ≤ℤ end_of bound (job_of o j)) where
      pub jobs-in-time : NoneTooLong (jobs_for o bound)
      unfolding deadline_of
      jobs-in-time j b =
          let job = job_of o (suc j) in
          leb-true job.time (cut (end_of bound job))
          (sym (cut-le (end_of bound job) job.time (time-some j b))
          ∙ true-le_z (pos job.time) (end_of bound job) (in-time (suc j) (omega arith, b)))

      mark-some : (s : ℕ) → s < stretch_count o → 0 < mark o bound (suc s)
      mark-some s l =
          let m = mark-met o bound s l in
          omega (arith, m.2, jobs-in-time m.0 m.1, time-some m.0 m.1)

      rises : (s : ℕ) → s < stretch_count o → mark o bound s < mark o bound (suc s)
      rises zero l = omega (arith, mark-zero o bound, mark-some 0 l)
      rises (suc s) l = mark-rises o bound s l (mark-some s (omega arith))

      -- the marks rise, and each job has a class and a deadline among them
      pub jobs-on-marks : OnMarks (jobs_for o bound)
      jobs-on-marks =
          record {
            start = mark-zero o bound;
            rises = rises;
            some = omega (arith, due_index-mark o bound 0 work.some-job);
            classed = jobs-classed;
            indexed = due_index-mark o bound;
          }

-- the classes of the jobs are the order's
pub jobs-high : (o : Order) (j : ℕ) → class_of o (job_of o (suc j)) ≤ length (classes o)
unfolding class_of
jobs-high o j = class-at-most o (job_of o (suc j)).need
