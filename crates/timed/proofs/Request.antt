-- Document 02, §5, sentence by sentence, of the timed planner: what its table answers, and what a plan is that it writes.
use Rattle.std.specs.Prelude.{ℕ, zero, suc, ◌*◌, ◌≤◌, ◌<◌, ◌≡◌, refl, Bool, true, false, List, [], ◌∷◌, ◌++◌, ◌↔◌, ℤ, length, drop}
use Rattle.std.proofs.Common.{sym, ap, ◌∙◌, subst, arith}
use Rattle.sums.specs.Lists.{Pairwise}
use Rattle.engine.specs.RunLaws.{run-one}
use Rattle.order.specs.Order.{Order, job_count, Numbers}
use Rattle.order.specs.Refusals.{limits, Verdict, accepted, refused, judge, tight_row, order_rows, Accepted}
use Rattle.order.proofs.RefusalLaws.{accepted≢refused, judge-accepted-append, accepted-first}
use Rattle.plan.specs.Plan.{Row}
use Rattle.plan.specs.Check.{numbers_of}
use Rattle.plan.specs.Join.{joined}
use Rattle.plan.proofs.JoinAgain.{Separate}
use Rattle.wrap.specs.FrameAt.{Times, RightTimed}
use Rattle.wrap.proofs.Joined.{BeginsBefore, joined-count-in, joined-ordered-in, joined-layout-again, joined-layout-separate}
use Rattle.wrap.specs.LayoutSame.{layout-in-same}
use Rattle.timed.specs.Changes.{timed_frame, timed_rows_asked}
use Rattle.timed.proofs.ChangeLaws.{timed-rising}
use Rattle.timed.proofs.NoneLaws.{NoneInParts, none-timed, none-in-parts, some-timed, plan-exists}
use Rattle.timed.specs.Rows.{NoTimedPlan, none_timed, times_rows, asked_rows, timed_buffer, earlier_timed, timed_rows}
use Rattle.timed.specs.Written.{TimedPlanOf, TimedWritten, TimedBufferBy}

-- What the table answers -----------------------------------------------------------------------------------------------------

-- where no earlier refusal applies
pub record Decided (o : Order) (bound : ℤ) (t : Times) (lent : ℕ) : Type 0 where
  -- "or too tight where there is none": 10 exactly where no list of rows whatever is a right plan that keeps the times
  pub tight-exactly : (judge (timed_rows o bound t lent) ≡ refused 10 0) ↔ NoTimedPlan o bound t
  -- and then none is in any number of parts to the minute, with ready minutes, openings and closings as many times as large
  pub none-in-any-parts : judge (timed_rows o bound t lent) ≡ refused 10 0 → NoneInParts o bound t
  -- "It answers a right plan": where there is some, nothing is refused
  pub met-exactly : (judge (timed_rows o bound t lent) ≡ accepted) ↔ ((rows : List Row) × RightTimed 1 o bound t rows)

-- row 10 alone
ten : (b : Bool) → (judge (tight_row b ∷ []) ≡ refused 10 0) ↔ (b ≡ true)
unfolding judge
ten true = ((λ e. refl), λ e. refl)
ten false = ((λ e. absurd (accepted≢refused e)), λ e. absurd (let z : ◌≡◌ {A = ℕ} 0 1 = cc in omega (arith, z)))

clear-ten : (b : Bool) → (judge (tight_row b ∷ []) ≡ accepted) ↔ (b ≡ false)
unfolding judge
clear-ten true = ((λ e. absurd (accepted≢refused (sym e))), λ e. absurd (let z : ◌≡◌ {A = ℕ} 0 1 = cc in omega (arith, z)))
clear-ten false = ((λ e. refl), λ e. refl)

module _ (o : Order) (bound : ℤ) (t : Times) (lent : ℕ) (none : judge (earlier_timed o bound t lent) ≡ accepted) where
  ok : Accepted o
  unfolding earlier_timed asked_rows
  ok =
      accepted-first (order_rows limits o) (times_rows o bound t)
      (accepted-first (asked_rows o bound t) (timed_buffer o bound t lent ∷ []) none)

  last : judge (timed_rows o bound t lent) ≡ judge (tight_row (none_timed o bound t) ∷ [])
  unfolding timed_rows
  last = judge-accepted-append (earlier_timed o bound t lent) (tight_row (none_timed o bound t) ∷ []) none

  pub timed-decides : Decided o bound t lent
  timed-decides =
      let tight = ten (none_timed o bound t) in
      let clear = clear-ten (none_timed o bound t) in
      record {
        tight-exactly = (
          (λ e. (none-timed o bound t ok).0 (tight.0 (sym last ∙ e))),
          λ h. last ∙ tight.1 ((none-timed o bound t ok).1 h),
        );
        none-in-any-parts = λ e. none-in-parts o bound t ok (tight.0 (sym last ∙ e));
        met-exactly = (
          (λ e. plan-exists o bound t ok (clear.0 (sym last ∙ e))),
          λ h. last ∙ clear.1 (some-timed o bound t ok h.0 h.1),
        );
      }

-- What is written ------------------------------------------------------------------------------------------------------------

-- a plan of the timed planner; that it is the joined layout of feasible amounts on the frame, right and in time stands in TimedPlanOf
pub record TimedPlanSaid (o : Order) (bound : ℤ) (t : Times) (plan : List Row) : Type 0 where
  -- "laid out on the open processors as in document 01 and joined as in §2": rows stand by the stretch in which they begin, then by
  -- processor order, then by `from`
  pub ordered : Pairwise (BeginsBefore o (timed_frame o bound t)) plan
  -- "Its buffer needs E × (n + m - 1) rows"
  pub few : length plan ≤ timed_rows_asked o bound t
  -- no two rows go on as one another, and a second joining finds nothing
  pub separate : Pairwise (λ (r s : Row). Separate r s × Separate s r) plan
  pub again : joined plan ≡ plan

module _ (o : Order) (bound : ℤ) (t : Times) where
  pub timed-plan-said : (plan : List Row) → TimedPlanOf o bound t plan → TimedPlanSaid o bound t plan
  timed-plan-said plan P =
      let f = timed_frame o bound t in
      let up = timed-rising o bound t in
      subst (TimedPlanSaid o bound t) (sym P.plan-is)
      (record {
        ordered = joined-ordered-in o f up P.amounts P.feasible;
        few = joined-count-in o f up P.amounts;
        separate = joined-layout-separate o f up P.amounts P.feasible;
        again = joined-layout-again o f up P.amounts P.feasible;
      })

  -- which amounts: equal orders, bounds, times and buffers have equal rows
  amounts-one : (plan plan' : List Row) (P : TimedPlanOf o bound t plan) (Q : TimedPlanOf o bound t plan') →
      (j s : ℕ) → Numbers (job_count o) j → s < (timed_frame o bound t).stretches → P.amounts j s ≡ Q.amounts j s
  amounts-one plan plan' P Q zero s n l = absurd (omega arith)
  amounts-one plan plan' P Q (suc j) s n l = (run-one _ _ _ _ _ _ P.chosen Q.chosen).1 j s n.1 l

  pub timed-plan-one : (plan plan' : List Row) → TimedPlanOf o bound t plan → TimedPlanOf o bound t plan' → plan ≡ plan'
  timed-plan-one plan plan' P Q =
      P.plan-is
      ∙ ap joined (layout-in-same o (timed_frame o bound t) P.amounts Q.amounts (amounts-one plan plan' P Q))
      ∙ sym Q.plan-is

  module _ (entry exit exit' : List ℕ) (count count' : ℕ) where
    written_one : TimedWritten o bound t entry exit count → TimedWritten o bound t entry exit' count' →
        (exit ≡ exit') × (count ≡ count')
    written_one W X =
        let e : W.plan ≡ X.plan = timed-plan-one W.plan X.plan W.plan-of X.plan-of in (
          W.rows_are ∙ ap (λ (plan : List Row). numbers_of plan ++ drop (4 * length plan) entry) e ∙ sym X.rows_are,
          W.count-is ∙ ap (λ (plan : List Row). length plan) e ∙ sym X.count-is,
        )

    -- what the table answers of a call fixes its buffer and its count
    pub timed-buffer-one : (v : Verdict) → TimedBufferBy v o bound t entry exit count → TimedBufferBy v o bound t entry exit' count' →
        (exit ≡ exit') × (count ≡ count')
    timed-buffer-one accepted W X = written_one W X
    timed-buffer-one (refused number carried) W X = (W.0 ∙ sym X.0, W.1 ∙ sym X.1)
