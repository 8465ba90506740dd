-- Document 01: "Rows stand by stretch, then by that processor order, then by `from`. With q distinct due times, n jobs
-- and m processors there are at most q × (n + m - 1) rows." Both hold of the layout of any amounts.
use Rattle.std.specs.Prelude.{ℕ, ◌+◌, ◌-◌, ◌*◌, ◌≤◌, List, ℤ, length}
use Rattle.std.proofs.Common.{subst}
use Rattle.sums.specs.Lists.{Pairwise}
use Rattle.sums.specs.Pairs.{Pairwise-map}
use Rattle.order.specs.Order.{Order, processor_count, job_count}
use Rattle.plan.specs.Plan.{Row}
use Rattle.wrap.specs.Stretches.{stretch_count}
use Rattle.wrap.specs.Marks.{mark-up}
use Rattle.wrap.specs.Layout.{layout}
use Rattle.wrap.specs.RowOrder.{RowBefore}
use Rattle.wrap.specs.Frame.{layout_in, RowBeforeIn}
use Rattle.wrap.proofs.FrameRight.{layout-ordered-in, layout-count-in}
use Rattle.wrap.proofs.FrameBase.{base_frame, layout_is}

module _ (o : Order) (bound : ℤ) (a : ℕ → ℕ → ℕ) where
  before-is : (r s : Row) → RowBeforeIn o (base_frame o bound) r s → RowBefore o bound r s
  before-is r s b =
      record {
        stretch = b.stretch;
        other = b.other;
        lies = record { a-stretch = b.lies_in.a-stretch; begins = b.lies_in.begins; ends = b.lies_in.ends };
        other-lies =
            record { a-stretch = b.other-lies.a-stretch; begins = b.other-lies.begins; ends = b.other-lies.ends };
        before = b.before;
      }

  pub layout-ordered : Pairwise (RowBefore o bound) (layout o bound a)
  layout-ordered =
      subst (Pairwise (RowBefore o bound)) (layout_is o bound a)
      (Pairwise-map _ _ (layout_in o (base_frame o bound) a) before-is
      (layout-ordered-in o (base_frame o bound) (mark-up o bound) a))

  pub layout-count : length (layout o bound a) ≤ stretch_count o * (job_count o + processor_count o - 1)
  layout-count =
      subst (λ (rows : List Row). length rows ≤ stretch_count o * (job_count o + processor_count o - 1)) (layout_is o bound a)
      (layout-count-in o (base_frame o bound) (mark-up o bound) a)
