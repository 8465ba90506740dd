-- What acceptance with times says where nothing is refused: the order is accepted, and the bound is in range.
use mathlib.Core.Path.{◌≡◌, sym, ◌∙◌}
use mathlib.Core.Bool.{true}
use borrow.Author.Tests.{not-false}
use lib.IntN.{ℤ}
use Rattle.order.specs.Order.{Order}
use Rattle.order.specs.Refusals.{limits, accepted, judge, order_rows, bound_in_range, Accepted}
use Rattle.order.proofs.RefusalLaws.{judge-accepted, judge-accepted-append, accepted-first, whole-clear}
use Rattle.wrap.specs.FrameAt.{Times}
use Rattle.timed.specs.Rows.{times_rows, asked_rows}

module _ (o : Order) (bound : ℤ) (t : Times) where
  -- what is known where nothing is refused
  module _ (ok : judge (asked_rows o bound t) ≡ accepted) where
    pub order-good : Accepted o
    unfolding asked_rows
    order-good = accepted-first (order_rows limits o) (times_rows o bound t) ok

    pub bound-good : bound_in_range bound ≡ true
    unfolding asked_rows
    bound-good =
        let all = (judge-accepted (times_rows o bound t)).0 (sym (judge-accepted-append (order_rows limits o) (times_rows o bound t) order-good) ∙ ok) in
        not-false _ (whole-clear _ all.1.1.0)
