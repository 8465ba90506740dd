-- Document 01: "Rows stand by stretch, then by that processor order, then by `from`." When a row stands before another.
use Rattle.std.specs.Prelude.{ℕ, suc, ◌≤◌, ◌<◌, ◌≡◌, cond, List, [], ◌∷◌, ◌⊎◌, eqb, ℤ}
use Rattle.order.specs.Order.{Order}
use Rattle.order.specs.Sorted.{processor_order}
use Rattle.plan.specs.Plan.{Row}
use Rattle.wrap.specs.Stretches.{stretch_count, mark}

-- how many members stand before x
unfoldable pub place_in : List ℕ → ℕ → ℕ
place_in [] x = 0
place_in (y ∷ ys) x = cond (eqb y x) 0 (suc (place_in ys x))

-- the place of a processor in the processor order, counted from 0
abbrev pub place_of : Order → ℕ → ℕ
place_of o processor = place_in (processor_order o) processor

-- by processor order, then by `from`: the earlier row of one processor ends before the later begins
abbrev pub StandsBefore : Order → Row → Row → Type 0
StandsBefore o r s =
    (place_of o r.processor < place_of o s.processor) ⊎ ((r.processor ≡ s.processor) × (r.to ≤ s.from))

-- the row lies in stretch s, counted from 0
pub record InStretch (o : Order) (bound : ℤ) (s : ℕ) (r : Row) : Type 0 where
  pub a-stretch : s < stretch_count o
  pub begins : mark o bound s ≤ r.from
  pub ends : r.to ≤ mark o bound (suc s)

-- row r stands before row s: in an earlier stretch, or in the same one and before it there
pub record RowBefore (o : Order) (bound : ℤ) (r s : Row) : Type 0 where
  pub stretch : ℕ
  pub other : ℕ
  pub lies : InStretch o bound stretch r
  pub other-lies : InStretch o bound other s
  pub before : (stretch < other) ⊎ ((stretch ≡ other) × StandsBefore o r s)
