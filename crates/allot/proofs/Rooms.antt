-- The rooms of a stretch, by the processors that are open in it.
use Prim.Native.Nat.{ℕ, pred, ◌-◌, ◌*◌, ◌≤◌}
use mathlib.Core.Path.{◌≡◌, refl, sym, ap, ◌∙◌, subst}
use mathlib.Core.List.{List}
use native.Mathlib.Omega.{arith}
use lib.Dec.{leb}
use lib.ListN.{get_or, take, length-take}
use Rattle.sums.specs.Sum.{sum}
use Rattle.sums.specs.Lists.{total, only, nth, keep}
use Rattle.sums.specs.Kept.{keep_all}
use Rattle.sums.specs.Members.{All-map, in-All}
use Rattle.sums.specs.Totals.{only-le, total-le, total-ones}
use Rattle.layout.specs.Planned.{open_at}
use Rattle.allot.specs.Flows.{room_on}
use Rattle.allot.specs.Tables.{count_of, Kinds, Counted}

module _ (processors kinds opens closes : List ℕ) (start end count : ℕ) (list : List ℕ)
    (e : take count list ≡ keep (open_at opens closes start end) processors) where
  -- the open ones have classes, as all have
  pub open-kinds : (last : ℕ) → last ≤ 16 → Kinds last kinds processors → Kinds 16 kinds (take count list)
  open-kinds last few K =
      subst (Kinds 16 kinds) (sym e)
      (keep_all (open_at opens closes start end) _ processors
      (All-map _ _ processors (λ i h passed. (h.0, (h.1.0, omega (arith, h.1.1)))) K))

  module _ (counts : List ℕ) (C : Counted counts kinds (take count list)) (k : ℕ) (h : k ≤ 16) where
    -- no more are counted than are open
    pub open-counts : count ≤ 16 → sum k (count_of counts) ≤ 16
    open-counts few =
        omega (
          arith,
          C k h,
          total-ones (take count list),
          total-le (take count list) (λ i. only (leb (get_or kinds (pred i) 0) k) 1) (λ i. 1)
              (in-All _ (take count list) (λ i w. only-le (leb (get_or kinds (pred i) 0) k) 1)),
          length-take count list,
        )

    pub room-is : (marks : List ℕ) (s : ℕ) → start ≡ nth marks s 0 → end ≡ get_or marks s 0 →
        sum k (count_of counts) * (end - start) ≡ room_on processors kinds marks opens closes s k
    room-is marks s a b =
        ap (λ (x : ℕ). x * (end - start)) (C k h)
        ∙ ap (λ (ps : List ℕ). total ps (λ i. only (leb (get_or kinds (pred i) 0) k) 1) * (end - start)) e
        ∙ rw (← a, ← b) refl
