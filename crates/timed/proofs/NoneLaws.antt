-- Row 10 of the timed planner holds exactly where no list of rows whatever is a right plan that keeps the times; and then none is in any
-- parts of a minute.
use Rattle.std.specs.Prelude.{ℕ, ◌≤◌, ◌≡◌, Bool, true, false, List, ◌⊎◌, ◌↔◌, ℤ}
use Rattle.std.proofs.Math.Path.{refl}
use Rattle.std.proofs.Common.{sym, ◌∙◌, inl, inr, arith}
use Rattle.order.specs.Order.{Order}
use Rattle.order.proofs.LeadLaws.{workable}
use Rattle.order.specs.Refusals.{limits, Verdict, accepted, refused, judge, order_rows, Accepted}
use Rattle.order.proofs.RefusalLaws.{accepted-iff, accepted≢refused}
use Rattle.plan.specs.Plan.{Row}
use Rattle.wrap.specs.Frame.{FeasibleIn, layout_in}
use Rattle.wrap.specs.FrameAt.{Times, RightTimed}
use Rattle.allot.specs.InFrame.{classed-in}
use Rattle.timed.specs.Settled.{frame_between, between-decided, named, named-has}
use Rattle.timed.specs.Rows.{NoTimedPlan, says_none, none_by, none_timed}

module _ (o : Order) (bound : ℤ) (t : Times) where
  -- in any parts of a minute
  abbrev pub NoneInParts : Type 0
  NoneInParts = (p : ℕ) → 1 ≤ p → (rows : List Row) → ¬ RightTimed p o bound t rows

  abbrev Settled : Type 0
  Settled =
      ((a : ℕ → ℕ → ℕ) × FeasibleIn o (frame_between o bound t (named o bound t)) a × RightTimed 1 o bound t (layout_in o (frame_between o bound t (named o bound t)) a))
      ⊎ NoneInParts

  abbrev Told : Bool → Type 0
  Told b = ((b ≡ true) ↔ NoTimedPlan o bound t) × (b ≡ true → NoneInParts)
      × (b ≡ false → (rows : List Row) × RightTimed 1 o bound t rows)

  says : (d : Settled) → Told (says_none d)
  says (inl w) = (
    ((λ e. absurd (let z : ◌≡◌ {A = ℕ} 0 1 = cc in omega (arith, z))), λ none. absurd (none _ w.2)),
    (λ e. absurd (let z : ◌≡◌ {A = ℕ} 0 1 = cc in omega (arith, z))),
    λ e. (layout_in o (frame_between o bound t (named o bound t)) w.0, w.2),
  )
  says (inr none) = (
    ((λ e rows. none 1 (omega arith) rows), λ h. refl),
    (λ e. none),
    λ e. absurd (let z : ◌≡◌ {A = ℕ} 0 1 = cc in omega (arith, z)),
  )

  decided : (v : Verdict) (e : judge (order_rows limits o) ≡ v) → Accepted o → Told (none_by o bound t v e)
  unfolding none_by
  decided accepted e ok = says (between-decided o bound t (named o bound t) (named-has o bound t) (classed-in o (workable o ((accepted-iff o).0 e))))
  decided (refused number carried) e ok = absurd (accepted≢refused (sym ok ∙ e))

  module _ (ok : Accepted o) where
    pub none-timed : (none_timed o bound t ≡ true) ↔ NoTimedPlan o bound t
    unfolding none_timed
    none-timed = (decided (judge (order_rows limits o)) refl ok).0

    pub none-in-parts : none_timed o bound t ≡ true → NoneInParts
    unfolding none_timed
    none-in-parts = (decided (judge (order_rows limits o)) refl ok).1

    pub some-timed : (rows : List Row) → RightTimed 1 o bound t rows → none_timed o bound t ≡ false
    some-timed rows R = by (none_timed o bound t) refl
      where
        by : (b : Bool) → none_timed o bound t ≡ b → none_timed o bound t ≡ false
        by true e = absurd (none-timed.0 e rows R)
        by false e = e

    -- where it does not hold there is a plan
    pub plan-exists : none_timed o bound t ≡ false → (rows : List Row) × RightTimed 1 o bound t rows
    unfolding none_timed
    plan-exists = (decided (judge (order_rows limits o)) refl ok).2
