-- A right plan gives feasible amounts. Document 01, "Plans": any finite list of rows, in any number of parts to the minute.
use Rattle.std.specs.Prelude.{ℕ, suc, ◌*◌, ◌≤◌, ◌<◌, ◌≡◌, refl, List, ℤ}
use Rattle.std.proofs.Common.{sym, arith}
use Rattle.std.proofs.Math.Path.{ap}
use Rattle.std.proofs.Math.Decide.{dec_lt}
use Rattle.sums.specs.Gate.{gate, gate-in, gate-out}
use Rattle.sums.specs.Totals.{only-le}
use Rattle.order.specs.Order.{Order, job_count, job_of}
use Rattle.order.specs.Class.{processors_to}
use Rattle.order.specs.Deadline.{deadline_of}
use Rattle.plan.specs.Plan.{Row, RightInParts}
use Rattle.amounts.specs.Flow.{Feasible, Cut}
use Rattle.amounts.specs.Exchange.{common_flow}
use Rattle.amounts.specs.Profile.{stretches_of}
use Rattle.amounts.specs.Same.{same-violating, same-feasible}
use Rattle.wrap.specs.Stretches.{stretch_count, stretch_length}
use Rattle.wrap.specs.Marks.{mark-mono}
use Rattle.wrap.specs.DuePlaces.{due_index, due_index-mark}
use Rattle.wrap.specs.Flows.{jobs_for}
use Rattle.wrap.specs.Frame.{lies, cap_in}
use Rattle.wrap.specs.FrameLaws.{lies-true, lies-is, only-some}
use Rattle.wrap.specs.FrameFlow.{flow_in}
use Rattle.feasible.specs.FramePlan.{amounts_in, plan-amounts-in}
use Rattle.wrap.proofs.FrameBase.{base_frame, base-framed, right-in, open-counts}

module _ (o : Order) (bound : ℤ) where
  -- Caps and rooms are those of the common start, so a right plan gives its amounts between the distinct ends.
  cap-is : (j s : ℕ) → j < job_count o → s < stretch_count o →
      cap_in (base_frame o bound) (suc j) s ≡ gate s (due_index o j) (stretch_length o bound s)
  cap-is j s b l =
      let i = due_index-mark o bound j b in
      let f = base_frame o bound in
      elim (dec_lt s (due_index o j)) [
        | yes w ↦
            rw (lies-is f 0 (deadline_of bound (job_of o (suc j))) s (omega arith)
            (omega (arith, i.2, mark-mono o bound (suc s) (due_index o j) w i.1)))
            (sym (gate-in s (due_index o j) (stretch_length o bound s) w))
        | no w ↦
            elim (dec_lt 0 (cap_in f (suc j) s)) [
              | no v ↦ omega (arith, gate-out s (due_index o j) (stretch_length o bound s) (omega arith))
              | yes v ↦
                  absurd (omega (
                    arith,
                    v,
                    only-le (lies f 0 (deadline_of bound (job_of o (suc j))) s) (stretch_length o bound s),
                    (lies-true f 0 (deadline_of bound (job_of o (suc j))) s (only-some _ (stretch_length o bound s) v)).1,
                    i.2,
                    mark-mono o bound (due_index o j) s (omega arith) (omega arith),
                  ))
            ]
      ]

  pub plan-amounts : {p : ℕ} {rows : List Row} → 1 ≤ p → RightInParts p o bound rows →
      Feasible (common_flow (stretches_of (jobs_for o bound))) p (amounts_in p (base_frame o bound) rows)
  unfolding processors_to
  plan-amounts {p} {rows} parts right =
      let f = base_frame o bound in
      let flow = flow_in o f in
      let common = common_flow (stretches_of (jobs_for o bound)) in
      same-feasible (job_count o) (stretch_count o) flow.time common.time flow.class common.class
      flow.cap common.cap flow.room common.room (λ j b. refl) (λ j b. refl) cap-is
      (λ s k l. omega (arith, ap (λ (x : ℕ). x * stretch_length o bound s) (open-counts o bound s l k)))
      p (amounts_in p f rows) (plan-amounts-in o f (base-framed o bound) (right-in o bound p rows right) parts)

  -- so a cut that violates in the frame violates there
  pub base-cut : {m : ℕ} → Cut (flow_in o (base_frame o bound)) m → Cut (common_flow (stretches_of (jobs_for o bound))) m
  unfolding processors_to
  base-cut {m} c =
      let flow = flow_in o (base_frame o bound) in
      let common = common_flow (stretches_of (jobs_for o bound)) in
      record {
        κ = c.κ;
        below = c.below;
        violating =
            same-violating (job_count o) (stretch_count o) flow.time common.time flow.class common.class
            flow.cap common.cap flow.room common.room (λ j b. refl) (λ j b. refl) cap-is m
            (λ s k l b. ap (λ (x : ℕ). x * stretch_length o bound s) (open-counts o bound s l k)) c.κ
            (λ s l. c.below s) c.violating;
      }
