-- The formula is the least lateness: one right plan meets it, and in parts, whatever number of them make a minute, no right
-- plan meets a whole number below it. So a whole number is met exactly from the least lateness on.
use Rattle.std.specs.Prelude.{ℕ, ◌≤◌, List, ◌↔◌, ℤ, ◌≤ℤ◌, ◌<ℤ◌}
use Rattle.std.proofs.Common.{inl, inr, arith}
use Rattle.std.specs.Int.Signed.{≤ℤ_refl}
use Rattle.order.specs.Order.{Order}
use Rattle.order.specs.Whole.{le-or-lt}
use Rattle.order.specs.Lead.{last_due, Workable}
use Rattle.order.proofs.LeadLaws.{workable}
use Rattle.order.specs.Refusals.{Accepted}
use Rattle.order.proofs.RefusalLaws.{accepted-iff}
use Rattle.plan.specs.Plan.{Row, RightInParts, Meets}
use Rattle.plan.specs.IsLeast.{IsLeast}
use Rattle.profile.specs.Least.{least_from, least_lateness}
use Rattle.profile.proofs.Threshold.{reason-below, no-reason-from}
use Rattle.feasible.specs.Sound.{no-reason-where-met}
use Rattle.feasible.specs.Complete.{complete}

module _ (top : ℤ) (o : Order) (work : Workable top o) where
  -- no plan, in any parts, meets a whole number below the formula
  none_below : (p : ℕ) → 1 ≤ p → (number : ℤ) (rows : List Row) → RightInParts p o number rows → ¬ (number <ℤ least_from top o)
  none_below p parts number rows right below =
      let r = reason-below top o work number below in
      no-reason-where-met o work number p parts rows right r.0 r.1

  -- some right plan meets every whole number from the formula on
  met-from : (number : ℤ) → least_from top o ≤ℤ number → (rows : List Row) × Meets o number rows
  met-from number above = complete o work number (no-reason-from top o work number above)

  at_least : (number : ℤ) (rows : List Row) → Meets o number rows → least_from top o ≤ℤ number
  at_least number rows right =
      elim (le-or-lt (least_from top o) number) [
        | inl h ↦ h
        | inr h ↦ absurd (none_below 1 (omega arith) number rows right h)
      ]

  -- the formula is least
  pub least-from : IsLeast o (least_from top o)
  least-from =
      record {
        some-plan = met-from (least_from top o) (≤ℤ_refl (least_from top o));
        no_other = at_least;
        none-in-parts = none_below;
      }

  -- a whole number is met by some right plan exactly if it is at least the formula
  pub met-iff : (number : ℤ) → ((rows : List Row) × Meets o number rows) ↔ (least_from top o ≤ℤ number)
  met-iff number = (λ plan. at_least number plan.0 plan.1, met-from number)

-- For every accepted order the least lateness is least.
pub is-least : (o : Order) → Accepted o → IsLeast o (least_lateness o)
unfolding least_lateness
is-least o accepted = least-from last_due o (workable o ((accepted-iff o).0 accepted))
