-- A layout in a frame asks for nothing but the amounts of the order's jobs in its stretches.
use Prim.Native.Nat.{ℕ, zero, suc, ◌≤◌, ◌<◌}
use Rattle.std.specs.Prelude.{◌≡◌, cond, ltb}
use Rattle.std.proofs.Math.Path.{refl, ap}
use Rattle.std.proofs.Common.{◌∙◌, arith}
use mathlib.Core.List.{List, [], ◌∷◌, ◌++◌}
use Rattle.sums.specs.Lists.{All}
use Rattle.order.specs.Order.{Order, job_count, Numbers}
use Rattle.order.specs.Sorted.{job_order}
use Rattle.order.specs.OrderingLaws.{jobs-ordered}
use Rattle.plan.specs.Plan.{Row}
use Rattle.wrap.specs.Layout.{Share, fill, shares_of}
use Rattle.wrap.specs.Frame.{Frame, open_order, stretch_rows_in, in_turn, layout_in}

shares-same : (a b : ℕ → ℕ → ℕ) (s : ℕ) (P : ℕ → Type 0) (js : List ℕ) → All P js → ((j : ℕ) → P j → a j s ≡ b j s) →
    shares_of a s js ≡ shares_of b s js
unfolding shares_of
shares-same a b s P [] each same = refl
shares-same a b s P (j ∷ js) each same =
    ap (λ (v : ℕ). cond (ltb 0 v) (record { job = j; minutes = v } ∷ shares_of a s js) (shares_of a s js)) (same j each.0)
    ∙ ap (λ (xs : List Share). cond (ltb 0 (b j s)) (record { job = j; minutes = b j s } ∷ xs) xs)
    (shares-same a b s P js each.1 same)

module _ (o : Order) (f : Frame) (a b : ℕ → ℕ → ℕ)
    (same : (j s : ℕ) → Numbers (job_count o) j → s < f.stretches → a j s ≡ b j s) where
  rows_same : (n : ℕ) → n ≤ f.stretches → in_turn (stretch_rows_in o f a) n ≡ in_turn (stretch_rows_in o f b) n
  unfolding in_turn stretch_rows_in
  rows_same zero l = refl
  rows_same (suc n) l =
      ap (λ (rows : List Row). rows ++ stretch_rows_in o f a n) (rows_same n (omega arith))
      ∙ ap (λ (xs : List Share). in_turn (stretch_rows_in o f b) n ++ fill (f.mark n) (f.mark (suc n)) (open_order o f n) (f.mark n) xs)
      (shares-same a b n (Numbers (job_count o)) (job_order o) (jobs-ordered o).no_other (λ j k. same j n k l))

  pub layout-in-same : layout_in o f a ≡ layout_in o f b
  unfolding layout_in
  layout-in-same = rows_same f.stretches (omega arith)
