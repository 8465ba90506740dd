-- The rows of the refusal table that the timed planner and its check use: 15 and 16 "both directly before 8".
use Rattle.std.specs.Prelude.{ℕ, ◌/◌, ◌≡◌, refl, Bool, true, false, List, [], ◌∷◌, ◌++◌, ◌⊎◌, ℤ}
use Rattle.std.proofs.Common.{inl, inr}
use Rattle.order.specs.Order.{Order}
use Rattle.order.proofs.LeadLaws.{workable}
use Rattle.order.specs.Refusals.{
  limits,
  TableRow,
  Verdict,
  accepted,
  refused,
  judge,
  order_rows,
  bound_row,
  room_row,
  tight_row,
  rows_up_to_row,
}
use Rattle.order.proofs.RefusalLaws.{accepted-iff}
use Rattle.plan.specs.Plan.{Row}
use Rattle.wrap.specs.FrameAt.{Times, RightTimed}
use Rattle.allot.specs.InFrame.{classed-in}
use Rattle.timed.specs.Times.{ready_row, window_row}
use Rattle.timed.specs.Changes.{timed_rows_asked}
use Rattle.timed.specs.Settled.{between-decided, named, named-has}

-- no list of rows whatever is a right plan that keeps the times
abbrev pub NoTimedPlan : Order → ℤ → Times → Type 0
NoTimedPlan o bound t = (rows : List Row) → ¬ RightTimed 1 o bound t rows

-- whether that is so of an accepted order, as `between-decided` settles it; NoneLaws says that it is exactly this
abbrev pub says_none : {A B : Type 0} → A ⊎ B → Bool
says_none (inl some) = false
says_none (inr none) = true

unfoldable pub none_by : (o : Order) (bound : ℤ) (t : Times) (v : Verdict) → judge (order_rows limits o) ≡ v → Bool
none_by o bound t accepted e = says_none (between-decided o bound t (named o bound t) (named-has o bound t) (classed-in o (workable o ((accepted-iff o).0 e))))
none_by o bound t (refused number carried) e = false

unfoldable pub none_timed : Order → ℤ → Times → Bool
none_timed o bound t = none_by o bound t (judge (order_rows limits o)) refl

-- 15, 16, 8
abbrev pub times_rows : Order → ℤ → Times → List TableRow
times_rows o bound t = ready_row o t ∷ window_row o t ∷ bound_row bound ∷ []

-- 1 to 6, 13, 7, 15, 16, 8
unfoldable pub asked_rows : Order → ℤ → Times → List TableRow
asked_rows o bound t = order_rows limits o ++ times_rows o bound t

-- then 9, of a buffer of so many numbers, and 10
abbrev pub timed_buffer : Order → ℤ → Times → ℕ → TableRow
timed_buffer o bound t numbers = room_row (numbers / 4) (timed_rows_asked o bound t)

unfoldable pub earlier_timed : Order → ℤ → Times → ℕ → List TableRow
earlier_timed o bound t numbers = asked_rows o bound t ++ (timed_buffer o bound t numbers ∷ [])

unfoldable pub timed_rows : Order → ℤ → Times → ℕ → List TableRow
timed_rows o bound t numbers = earlier_timed o bound t numbers ++ (tight_row (none_timed o bound t) ∷ [])

-- "its check asks the same of up to 8,064 rows, more is 11"
abbrev pub most_timed_rows : ℕ
most_timed_rows = 8064

unfoldable pub timed_check_rows : Order → ℤ → Times → ℕ → List TableRow
timed_check_rows o bound t numbers = asked_rows o bound t ++ (rows_up_to_row most_timed_rows numbers ∷ [])
