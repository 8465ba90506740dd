-- The planner's plan is determined by the order and the bound, and what it writes by these and the buffer lent.
use Rattle.std.specs.Prelude.{ℕ, ◌*◌, ◌≡◌, List, ◌++◌, ℤ, length, drop}
use Rattle.std.proofs.Common.{sym, ap, ◌∙◌}
use Rattle.order.specs.Order.{Order}
use Rattle.order.specs.Refusals.{Verdict, accepted, refused}
use Rattle.plan.specs.Plan.{Row}
use Rattle.plan.specs.Check.{numbers_of}
use Rattle.plan.specs.Join.{joined}
use Rattle.wrap.proofs.FrameBase.{base_frame, layout_is}
use Rattle.wrap.specs.LayoutSame.{layout-in-same}
use Rattle.allot.specs.Chosen.{chosen-one}
use Rattle.planner.specs.Written.{PlanOf, Written, BufferBy}

module _ (o : Order) (bound : ℤ) where
  -- one plan
  pub plan-one : (plan plan' : List Row) → PlanOf o bound plan → PlanOf o bound plan' → plan ≡ plan'
  plan-one plan plan' P Q =
      P.plan-is
      ∙ ap joined
      (sym (layout_is o bound P.amounts)
      ∙ layout-in-same o (base_frame o bound) P.amounts Q.amounts
      (chosen-one o bound P.amounts Q.amounts P.chosen Q.chosen)
      ∙ layout_is o bound Q.amounts)
      ∙ sym Q.plan-is

  module _ (entry exit exit' : List ℕ) (count count' : ℕ) where
    -- two plans written into one buffer are equal, and so are their counts
    pub written_one : Written o bound entry exit count → Written o bound entry exit' count' → (exit ≡ exit') × (count ≡ count')
    written_one W X =
        let e : W.plan ≡ X.plan = plan-one W.plan X.plan W.plan-of X.plan-of in (
          W.rows_are ∙ ap (λ (plan : List Row). numbers_of plan ++ drop (4 * length plan) entry) e ∙ sym X.rows_are,
          W.count-is ∙ ap (λ (plan : List Row). length plan) e ∙ sym X.count-is,
        )

    -- what the table answers of a call fixes its buffer and its count
    pub buffer-one : (v : Verdict) → BufferBy v o bound entry exit count → BufferBy v o bound entry exit' count' →
        (exit ≡ exit') × (count ≡ count')
    buffer-one accepted W X = written_one W X
    buffer-one (refused number carried) W X = (W.0 ∙ sym X.0, W.1 ∙ sym X.1)
