-- What the calls with times between mean: where hbr_between succeeds, every order with times between has its least lateness between the
-- two numbers answered, and each whole number between them is some such order's; where hbr_between_order succeeds, the order in its file is
-- the first met with the number, and where it answers 0 no order with times between has the number.
use Rattle.std.specs.Prelude.{ℕ, ◌≡◌, List, [], ◌∷◌, ◌++◌, ◌⊎◌, ℤ, length, ◌≤ℤ◌, ◌<ℤ◌}
use Rattle.order.specs.Refusals.{limits, TableRow, accepted, judge, room_row, Accepted}
use Rattle.order.proofs.RefusalLaws.{judge-accepted, accepted-first}
use Rattle.plan.specs.IsLeast.{IsLeast}
use Rattle.profile.specs.Least.{least_lateness}
use Rattle.profile.specs.Search.{nothing, found}
use Rattle.estimate.specs.AcceptLaws.{between-accepted}
use Rattle.estimate.specs.Estimate.{Estimate, order_with, Between, least_at_lows, least_at_highs, first_met, estimate_rows}
use Rattle.estimate.specs.Request.{FirstOnPath, first-met, is-least-between, every-number, met-none, none_at_all}
use Rattle.highboyrobin.specs.BetweenCalls.{estimate_in, between_call, leasts_call, file_in, order_call}

module _ (f highs : List ℕ) where
  abbrev e : Estimate
  e = estimate_in f highs

  -- where a call succeeds, its later rows accept
  rows-accepted : (lent asked : ℕ) (rows : List TableRow) → judge (between_call lent asked f highs rows) ≡ accepted → judge rows ≡ accepted
  unfolding between_call
  rows-accepted lent asked rows h =
      (judge-accepted rows).1 ((judge-accepted (between_call lent asked f highs rows)).0 h).1.1.1

  -- hbr_between
  module _ (lent : ℕ) (done : judge (leasts_call f highs lent) ≡ accepted) where
    good : judge (estimate_rows limits e) ≡ accepted
    good = rows-accepted lent 2 (estimate_rows limits e) done

    pub told-between : (times : List ℕ) → Between e.jobs times →
        Accepted (order_with e times)
        × ((least : ℤ) → IsLeast (order_with e times) least → (least_at_lows e ≤ℤ least) × (least ≤ℤ least_at_highs e))
    told-between times b = (between-accepted e good times b, is-least-between e good times b)

    pub told-reached : (number : ℤ) → least_at_lows e ≤ℤ number → number ≤ℤ least_at_highs e →
        (times : List ℕ) × (first_met e number ≡ found times) × Between e.jobs times × (least_lateness (order_with e times) ≡ number)
    told-reached = every-number e good

  -- hbr_between_order
  module _ (number : ℤ) (lent answer : ℕ) (done : judge (order_call f highs number lent answer) ≡ accepted) where
    order-good : judge (estimate_rows limits e) ≡ accepted
    order-good =
        accepted-first (estimate_rows limits e) (room_row lent (length (file_in f highs number)) ∷ [])
        (rows-accepted answer 1 (estimate_rows limits e ++ (room_row lent (length (file_in f highs number)) ∷ [])) done)

    pub told-first : (times : List ℕ) → first_met e number ≡ found times → FirstOnPath e number times
    told-first times h = (first-met e number times).0 h

    pub told_none : first_met e number ≡ nothing →
        ((number <ℤ least_at_lows e) ⊎ (least_at_highs e <ℤ number))
        × ((times : List ℕ) → Between e.jobs times → (least : ℤ) → IsLeast (order_with e times) least → ¬ (least ≡ number))
    told_none h = ((met-none e order-good number).0 h, none_at_all e order-good number h)
