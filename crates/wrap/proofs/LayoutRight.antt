-- The layout of feasible amounts is a right plan, by document 01's four rules: that of its frame is right in the frame.
use Rattle.std.specs.Prelude.{ℕ, ℤ}
use Rattle.std.proofs.Common.{subst}
use Rattle.order.specs.Order.{Order}
use Rattle.plan.specs.Plan.{Right}
use Rattle.wrap.specs.Stretches.{FeasibleFor}
use Rattle.wrap.specs.Marks.{mark-up}
use Rattle.wrap.specs.Layout.{layout}
use Rattle.wrap.proofs.FrameRight.{layout-right-in}
use Rattle.wrap.proofs.FrameBase.{base_frame, right-out, layout_is, feasible-in}

module _ (o : Order) (bound : ℤ) (a : ℕ → ℕ → ℕ) where
  -- So document 01's theorems on the layout are those on frames.
  pub layout-right : FeasibleFor o bound a → Right o bound (layout o bound a)
  layout-right F =
      subst (Right o bound) (layout_is o bound a)
      (right-out o bound 1 _ (layout-right-in o (base_frame o bound) (mark-up o bound) a (feasible-in o bound a F)))
