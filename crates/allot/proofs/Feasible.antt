-- Document 01's frame is small enough for the engine; and where there is no reason against the bound, the engine's answer is amounts for
-- the order.
use Rattle.std.specs.Prelude.{ℕ, suc, ◌≤◌, ◌<◌, ◌≡◌, Bool, true, false, List, ℤ, length}
use native.Mathlib.Omega.{arith}
use Rattle.sums.specs.Members.{All-at}
use Rattle.amounts.specs.Flow.{Cut}
use Rattle.amounts.specs.Profile.{Profile, cut-profile}
use Rattle.engine.specs.View.{grid, Answer}
use Rattle.engine.specs.Run.{RunOf}
use Rattle.order.specs.Order.{Order, no_job, job_of, end_of}
use Rattle.order.specs.Class.{classes}
use Rattle.order.specs.Deadline.{deadline_of}
use Rattle.order.specs.Lead.{last_due, reach_at, Workable}
use Rattle.order.proofs.LeadLaws.{workable, reach-most, deadline-lead}
use Rattle.order.specs.Refusals.{bound_in_range}
use Rattle.order.proofs.RefusalLaws.{Acceptable}
use Rattle.order.specs.SortedLaws.{dues-few}
use Rattle.profile.proofs.ReasonLaws.{NoReason}
use Rattle.wrap.specs.Stretches.{stretch_count, mark, FeasibleFor}
use Rattle.wrap.specs.Marks.{mark-up}
use Rattle.wrap.specs.DuePlaces.{mark-met}
use Rattle.wrap.specs.Flows.{jobs_for, jobs-met, jobs-in-time, jobs-on-marks, amount_in}
use Rattle.wrap.specs.Frame.{Frame}
use Rattle.wrap.proofs.FrameBase.{base_frame, feasible-out}
use Rattle.feasible.specs.Overfull.{profile-overfull}
use Rattle.feasible.specs.Matches.{jobs-match}
use Rattle.feasible.specs.PlanAmounts.{base-cut}
use Rattle.table.specs.Held.{by_number}
use Rattle.table.specs.HeldLaws.{held-read}
use Rattle.table.specs.Tabled.{Tabled}
use Rattle.table.specs.declared.Table.{Table}
use Rattle.allot.specs.Chosen.{Chosen}
use Rattle.allot.specs.Flows.{flow_on, Sized}
use Rattle.allot.specs.InFrame.{Agrees, classed-in, sized-in-frame, feasible-in-frame, cut-in-frame, run-in-frame}

-- the numbers of an accepted order at a bound in range are small enough
module _ (o : Order) (a : Acceptable o) (bound : ℤ) (in-range : bound_in_range bound ≡ true) where
  -- no mark is beyond the reach
  mark-small : (s : ℕ) → s < stretch_count o → mark o bound (suc s) ≤ reach_at last_due bound
  unfolding deadline_of end_of
  mark-small s l =
      let m = mark-met o bound s l in
      omega (
        arith,
        m.2,
        deadline-lead last_due bound (job_of o (suc m.0)).due
            (All-at _ o.jobs no_job (workable o a).dues m.0 m.1),
      )

  pub tabled-sized : (t : Table) → Tabled last_due o t → (g : Frame) → Agrees o (base_frame o bound) g → Sized t g
  tabled-sized t m g A =
      sized-in-frame o t m (base_frame o bound) g A (classed-in o (workable o a)) (mark-up o bound)
      (omega (arith, dues-few o, a.few-jobs))
      (λ s l. omega (arith, mark-small s l, reach-most bound in-range))

module _ {top : ℤ} (o : Order) (work : Workable top o) (bound : ℤ) (none : NoReason o bound) (t : Table) (m : Tabled top o t)
    (g : Frame) (A : Agrees o (base_frame o bound) g) where
  -- a violating cut would be an overfull staircase
  no_cut : ¬ Cut (flow_on t g) (suc t.s)
  no_cut c =
      let p : Profile (jobs_for o bound) (length (classes o)) =
      cut-profile (jobs_for o bound) (jobs-on-marks o bound work none.0) (length (classes o))
      (jobs-in-time o bound work none.0) (jobs-met o bound) (base-cut o bound (cut-in-frame o t m (base_frame o bound) g A (by_number t) (held-read o t m) c)) in
      let stairs = profile-overfull o bound none.0 (jobs_for o bound) (jobs-match o bound) (omega arith) p in
      none.1 stairs.0 stairs.1

  -- the engine's answer about the table of an order with no reason against the bound: amounts for the order
  pub tabled-feasible : (w : List ℕ) (r : Bool) → Answer (flow_on t g) (suc t.s) (grid g.stretches w) r →
      FeasibleFor o bound (amount_in g.stretches w)
  tabled-feasible w true h = feasible-out o bound _ (feasible-in-frame o t m (base_frame o bound) g A (by_number t) (held-read o t m) w h)
  tabled-feasible w false c = absurd (no_cut c)

  -- and they are the order's
  pub tabled-chosen : (w : List ℕ) (r : Bool) → Answer (flow_on t g) (suc t.s) (grid g.stretches w) r →
      RunOf (flow_on t g) (suc t.s) (grid g.stretches w) r → Chosen o bound (amount_in g.stretches w)
  tabled-chosen w true h run = run-in-frame o t m (base_frame o bound) g A (by_number t) (held-read o t m) (grid g.stretches w) true run
  tabled-chosen w false c run = absurd (no_cut c)
