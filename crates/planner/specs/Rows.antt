-- The rows of the refusal table that the planner uses: those of acceptance and 9 for the least lateness, 8 and 10 too at a bound, and
-- 14 last of all where minutes are booked.
use Rattle.std.specs.Prelude.{ℕ, ◌+◌, ◌-◌, ◌*◌, ◌/◌, Bool, true, false, List, [], ◌∷◌, ◌++◌, ℤ}
use Rattle.order.specs.Order.{Order, processor_count, job_count}
use Rattle.book.specs.Book.{book_row}
use Rattle.order.specs.Refusals.{limits, TableRow, order_rows, bound_row, room_row, tight_row}
use Rattle.profile.specs.Reason.{Reason}
use Rattle.profile.specs.Search.{Found, nothing, found, reason_of}
use Rattle.wrap.specs.Stretches.{stretch_count}

-- "With q distinct due times, n jobs and m processors there are at most q × (n + m - 1) rows."
abbrev pub rows_asked : Order → ℕ
rows_asked o = stretch_count o * (job_count o + processor_count o - 1)

-- row 9, of a buffer of so many numbers: one to three left over are no further row
abbrev pub buffer_row : Order → ℕ → TableRow
buffer_row o numbers = room_row (numbers / 4) (rows_asked o)

-- row 10: there is a reason
abbrev pub is_found : Found Reason → Bool
is_found nothing = false
is_found (found reason) = true

unfoldable pub least_rows : Order → ℕ → List TableRow
least_rows o numbers = order_rows limits o ++ (buffer_row o numbers ∷ [])

-- the rows before 10, and with it
unfoldable pub earlier_rows : Order → ℤ → ℕ → List TableRow
earlier_rows o bound numbers = order_rows limits o ++ (bound_row bound ∷ buffer_row o numbers ∷ [])

unfoldable pub plan_rows : Order → ℤ → ℕ → List TableRow
plan_rows o bound numbers = earlier_rows o bound numbers ++ (tight_row (is_found (reason_of o bound)) ∷ [])

-- with a book of these counts
abbrev pub booked_least_rows : Order → ℕ → List ℕ → List TableRow
booked_least_rows o numbers counts = least_rows o numbers ++ (book_row o counts ∷ [])

abbrev pub booked_plan_rows : Order → ℤ → ℕ → List ℕ → List TableRow
booked_plan_rows o bound numbers counts = plan_rows o bound numbers ++ (book_row o counts ∷ [])
