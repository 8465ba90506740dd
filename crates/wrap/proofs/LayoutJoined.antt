-- Document 02, §2, of document 01's planner: the layout of feasible amounts, joined, is a right plan; a second joining finds nothing
-- to join; its rows stand by the stretch in which they begin, then by processor order, then by `from`; and there are never more.
use Rattle.std.specs.Prelude.{ℕ, zero, suc, ◌+◌, ◌-◌, ◌*◌, ◌≤◌, ◌<◌, ◌≡◌, List, ℤ, length}
use Rattle.std.proofs.Common.{subst, arith}
use Rattle.std.proofs.Math.Decide.{dec_lt}
use Rattle.sums.specs.Sum.{sum-cong, sum-const}
use Rattle.sums.specs.Lists.{All, Pairwise}
use Rattle.order.specs.Order.{Order, processor_count, job_count, Numbers, job_of}
use Rattle.order.specs.Deadline.{deadline_of}
use Rattle.plan.specs.Plan.{Row, Forward, Right}
use Rattle.plan.proofs.RuleLaws.{forwards}
use Rattle.plan.specs.Join.{joined}
use Rattle.plan.proofs.JoinLaws.{joined-count}
use Rattle.plan.proofs.JoinRight.{joined-right}
use Rattle.plan.proofs.JoinAgain.{Rises, Separate, joined-separate, joined-again}
use Rattle.wrap.specs.Stretches.{stretch_count, mark, FeasibleFor}
use Rattle.wrap.specs.Marks.{mark-up, mark-rises}
use Rattle.wrap.specs.DuePlaces.{mark-met}
use Rattle.wrap.specs.Layout.{layout}
use Rattle.wrap.proofs.LayoutOrdered.{layout-count}
use Rattle.wrap.proofs.LayoutRight.{layout-right}
use Rattle.wrap.proofs.FrameBase.{base_frame, layout_is, feasible-in}
use Rattle.wrap.proofs.Joined.{BeginsBefore, layout-rises, joined-ordered-in}
use Rattle.wrap.proofs.JoinedWhere.{Climbing}

module _ (o : Order) (bound : ℤ) (a : ℕ → ℕ → ℕ) where
  abbrev rows : List Row
  rows = layout o bound a

  -- so many rows as the planner asks for are enough
  pub joined-few : length (joined rows) ≤ stretch_count o * (job_count o + processor_count o - 1)
  joined-few = omega (arith, joined-count rows, layout-count o bound a)

  -- rows of one processor rise
  pub rows-rise : Pairwise Rises rows
  rows-rise = subst (Pairwise Rises) (layout_is o bound a) (layout-rises o (base_frame o bound) (mark-up o bound) a)

  module _ (F : FeasibleFor o bound a) where
    pub rows-forward : All Forward rows
    rows-forward = forwards o rows (layout-right o bound a F).well-formed

    pub joined-plan : Right o bound (joined rows)
    joined-plan = joined-right 1 o bound rows (layout-right o bound a F)

    pub plan-separate : Pairwise (λ (r s : Row). Separate r s × Separate s r) (joined rows)
    plan-separate = joined-separate rows rows-forward rows-rise

    pub plan-again : joined (joined rows) ≡ joined rows
    plan-again = joined-again rows rows-forward rows-rise

    pub plan-ordered : Pairwise (BeginsBefore o (base_frame o bound)) (joined rows)
    plan-ordered =
        subst (λ (l : List Row). Pairwise (BeginsBefore o (base_frame o bound)) (joined l)) (layout_is o bound a)
        (joined-ordered-in o (base_frame o bound) (mark-up o bound) a (feasible-in o bound a F))

    -- where each job takes a minute, no stretch is of no length
    module _ (times : (j : ℕ) → Numbers (job_count o) j → 1 ≤ (job_of o j).time) where
      deadline-some : (j : ℕ) → Numbers (job_count o) j → 0 < deadline_of bound (job_of o j)
      deadline-some j n =
          elim (dec_lt 0 (deadline_of bound (job_of o j))) [
            | yes l ↦ l
            | no l ↦ absurd (omega (
              arith,
              times j n,
              F.whole j n,
              sum-const (stretch_count o) 0,
              sum-cong (stretch_count o) (a j) (λ _. 0) (λ s m. none s m (omega arith)),
            ))
          ]
        where
          none : (s : ℕ) → s < stretch_count o → deadline_of bound (job_of o j) ≡ 0 → a j s ≡ 0
          none s m z =
              elim (dec_lt 0 (mark o bound (suc s))) [
                | yes l ↦ F.by-deadline j s n m (omega arith)
                | no l ↦ omega (arith, F.within j s n m)
              ]

      mark-some : (s : ℕ) → s < stretch_count o → 0 < mark o bound (suc s)
      mark-some s l =
          let j = mark-met o bound s l in
          omega (arith, j.2, deadline-some (suc j.0) (omega arith, j.1))

      pub base-climbs : Climbing (base_frame o bound)
      base-climbs zero l m = absurd (omega arith)
      base-climbs (suc s) l m = mark-rises o bound s m (mark-some s (omega arith))
