-- The plan laid out of a table's amounts in a frame of lent numbers that agrees with a frame of the order is the order's layout in that
-- frame; where the amounts are feasible it can be joined while it is written, and it has no more rows than the frame asks for.
use Rattle.std.specs.Prelude.{ℕ, suc, ◌+◌, ◌-◌, ◌*◌, ◌≤◌, ◌<◌, ◌≡◌, List, ℤ, length}
use Rattle.std.proofs.Common.{ap, arith}
use Rattle.sums.specs.Members.{All-map}
use Rattle.order.specs.Order.{Order, processor_count, job_count}
use Rattle.plan.specs.Plan.{Row}
use Rattle.wrap.specs.Flows.{amount_in}
use Rattle.wrap.specs.Frame.{Frame, lies, FeasibleIn, layout_in, Rising}
use Rattle.wrap.proofs.FrameRight.{layout-right-in, layout-count-in}
use Rattle.wrap.proofs.Joined.{layout-rises, layout-forward}
use Rattle.layout.specs.Laid.{Numbered}
use Rattle.layout.specs.Planned.{frame_lent, lent_frame, planned, Joinable}
use Rattle.layout.specs.PlannedLaws.{first-processors, first-jobs, processors-numbered, jobs-numbered, laid-out-is}
use Rattle.table.specs.Tabled.{TabledBy}
use Rattle.table.specs.declared.Table.{Table}
use Rattle.allot.specs.InFrame.{Agrees}

module _ {top : ℤ} {number : ℕ → ℕ} (o : Order) (t : Table) (m : TabledBy number top o t) (q : ℕ)
    (marks ready until opens closes w : List ℕ) (f : Frame) (A : Agrees o f (frame_lent q marks ready until opens closes)) (up : Rising f) where
  pub planned-is : planned t q marks opens closes w ≡ layout_in o f (amount_in q w)
  unfolding lies
  planned-is =
      rw (first-processors o t m, first-jobs o t m)
      (laid-out-is o f (lent_frame q marks opens closes) (amount_in q w) A.stretches-same A.marks-same A.open-same)

  pub planned-few : length (planned t q marks opens closes w) ≤ f.stretches * (job_count o + processor_count o - 1)
  planned-few = omega (arith, ap length planned-is, layout-count-in o f up (amount_in q w))

  lent-rising : Rising (lent_frame q marks opens closes)
  lent-rising s l =
      let b : s < f.stretches = omega (arith, A.stretches-same) in
      omega (arith, A.marks-same s (omega arith), A.marks-same (suc s) b, up s b)

  module _ (F : FeasibleIn o f (amount_in q w)) where
    pub planned-joinable : Joinable (planned t q marks opens closes w)
    planned-joinable =
        let a : ℕ → ℕ → ℕ = amount_in q w in
        rw planned-is
        (record {
          named = All-map _ _ (layout_in o f a)
              (λ (x : Row) h. (
                h.a-job.0,
                (h.a-processor.0, omega (arith, h.a-processor.1, m.processors, m.few-processors)),
              ))
              (layout-right-in o f up a F).well-formed;
          forward = layout-forward o f up a F;
          rises = layout-rises o f up a;
        })

    -- all that laying it out asks for
    pub planned-given : (lent : ℕ) → f.stretches ≤ 128 → q ≤ length marks → t.m ≤ length opens → t.m ≤ length closes →
        t.n * q ≤ length w → 4 * (f.stretches * (job_count o + processor_count o - 1)) ≤ lent →
        ((t.m ≤ 16) × (t.n ≤ 48) × Numbered t.m t.by_memory × Numbered t.n t.by_need
        × (q ≤ 128) × (q ≤ length marks) × (t.m ≤ length opens) × (t.m ≤ length closes)
        × (t.n * q ≤ length w) × Rising (lent_frame q marks opens closes))
        × ((4 * length (planned t q marks opens closes w) ≤ lent) × Joinable (planned t q marks opens closes w))
    planned-given lent few lm lo lc lw room = (
      (
        m.few-processors,
        m.few-jobs,
        processors-numbered o t m,
        jobs-numbered o t m,
        omega (arith, A.stretches-same),
        lm,
        lo,
        lc,
        lw,
        lent-rising,
      ),
      (omega (arith, planned-few), planned-joinable),
    )
