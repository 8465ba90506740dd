-- How the check puts its answer together: the rules decide, the first that does not hold.
use Prim.Native.Nat.{ℕ, suc}
use mathlib.Core.Path.{◌≡◌, sym, ◌∙◌}
use mathlib.Core.Bool.{Bool, true, false}
use mathlib.Core.List.{List}
use lib.IntN.{ℤ}
use Rattle.sums.specs.Lists.{tabulate}
use Rattle.order.specs.Order.{Order, job_count}
use Rattle.plan.specs.Check.{rows_of, every, every_two, no_overlap, whole_job, is_right}
use Rattle.plan.proofs.RowRanges.{all_good}

module _ (o : Order) (bound : ℤ) (numbers : List ℕ) where
  -- the rules, one after the other
  module _ (good : Bool) (eg : good ≡ all_good o bound numbers) where
    pub bad-rows : good ≡ false → false ≡ is_right o bound numbers
    unfolding is_right
    bad-rows h = rw (sym eg ∙ h)

    module _ (g : good ≡ true) (apart : Bool) (ea : apart ≡ every_two no_overlap (rows_of numbers)) where
      pub overlapping : apart ≡ false → false ≡ is_right o bound numbers
      unfolding is_right
      overlapping h = rw (sym eg ∙ g, sym ea ∙ h)

      pub jobs-decide : apart ≡ true → (all : Bool) → all ≡ every (whole_job o (rows_of numbers)) (tabulate (job_count o) suc) →
          all ≡ is_right o bound numbers
      unfolding is_right
      jobs-decide h all ew = rw (sym eg ∙ g, sym ea ∙ h) ew
