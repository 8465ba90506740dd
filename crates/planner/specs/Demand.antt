-- Demand 3, sentence by sentence, of a whole number that is answered as the least lateness of an order.
use Rattle.std.specs.Prelude.{ℕ, ◌≤◌, ◌≡◌, List, ◌↔◌, ◌≢◌, ℤ, pos, ◌<ℤ◌}
use Rattle.order.specs.Order.{Order}
use Rattle.order.specs.Refusals.{judge, accepted, refused}
use Rattle.plan.specs.Plan.{Row, RightInParts, Meets}
use Rattle.profile.specs.Reason.{Reason, IsReason, owed_of, on_hand_of}
use Rattle.profile.specs.Search.{found, reason_of}
use Rattle.planner.specs.Rows.{earlier_rows, plan_rows}

pub record Demand3 (o : Order) (least : ℤ) : Type 0 where
  -- "the least lateness answered is the smallest whole number that some right plan meets: one meets it"
  pub one-meets : (rows : List Row) × Meets o least rows
  -- "and every other whole number that any right plan meets is larger, whoever made the plan and however many rows it has"
  pub others-larger : (number : ℤ) (rows : List Row) → Meets o number rows → number ≢ least → least <ℤ number
  -- "Whatever whole number of equal parts, from 1, each minute is cut into, no right plan in such parts meets any whole
  -- number below the least lateness."
  pub none-in-parts : (p : ℕ) → 1 ≤ p → (number : ℤ) (rows : List Row) → RightInParts p o number rows → ¬ (number <ℤ least)
  -- "Where no earlier refusal applies, document 01's planner refuses a bound as too tight exactly when it is below the least
  -- lateness."
  pub tight-below : (bound : ℤ) (lent : ℕ) → judge (earlier_rows o bound lent) ≡ accepted →
      (judge (plan_rows o bound lent) ≡ refused 10 0) ↔ (bound <ℤ least)
  -- "That refusal carries the first job whose time exceeds its end or, where there is none, the due times of the overfull
  -- staircase that document 01 ranks before all others; with either, the minutes owed exceed those on hand when added up by
  -- hand."
  pub reason-below : (bound : ℤ) → bound <ℤ least →
      (reason : Reason) × (reason_of o bound ≡ found reason) × IsReason o bound reason
      × (on_hand_of o bound reason <ℤ pos (owed_of o bound reason))
