-- Document 02, §4, of the booked planners: over every list of their calls, accepted and refused, of either kind, each given the book
-- that the last one gave back.
use Rattle.std.specs.Prelude.{ℕ, ◌≤◌, ◌≡◌, refl, List, [], ◌∷◌, ◌++◌, map, ℤ}
use Rattle.sums.specs.Lists.{total, nth}
use Rattle.sums.specs.Members.{All-of-map, in-All}
use Rattle.order.specs.Order.{Order, Numbers}
use Rattle.order.specs.Refusals.{limits, most_makers, refused, judge, order_rows, bound_row, tight_row}
use Rattle.order.proofs.RefusalLaws.{accepted-first}
use Rattle.book.specs.Book.{opened, minutes_for, minutes_of, most_booked, booked_by}
use Rattle.book.specs.Calls.{Call, judged_with, given_back, book_after, orders_written}
use Rattle.book.proofs.CallLaws.{refused-left-out, Judges, book-counts, book-sum, book-most}
use Rattle.profile.specs.Search.{reason_of}
use Rattle.planner.specs.Rows.{buffer_row, is_found, least_rows, earlier_rows, plan_rows, booked_least_rows, booked_plan_rows}

-- a call of a booked planner: an order at its least lateness, or at a bound, and a buffer of so many numbers
pub data Booking : Type 0 where
  least : Order → ℕ → Booking
  bound : Order → ℤ → ℕ → Booking

abbrev pub call_of : Booking → Call
call_of (least o numbers) = record { order = o; rows = least_rows o numbers }
call_of (bound o b numbers) = record { order = o; rows = plan_rows o b numbers }

-- the book after all calls from opening on, and the orders whose plans were written
abbrev pub book_of : List Booking → List ℕ
book_of calls = book_after (map call_of calls) opened

abbrev pub planned : List Booking → List Order
planned calls = orders_written (map call_of calls) opened

-- where the earlier rows accept, so do the order's
judges : (call : Booking) → Judges (call_of call)
unfolding least_rows plan_rows earlier_rows
judges (least o numbers) e = accepted-first (order_rows limits o) (buffer_row o numbers ∷ []) e
judges (bound o b numbers) e =
    accepted-first (order_rows limits o) (bound_row b ∷ buffer_row o numbers ∷ [])
    (accepted-first (earlier_rows o b numbers) (tight_row (is_found (reason_of o b)) ∷ []) e)

-- what one call gives back, in the words of the entry points' contracts
pub least-gives : (o : Order) (numbers : ℕ) (counts : List ℕ) →
    given_back (call_of (least o numbers)) counts ≡ booked_by (judge (booked_least_rows o numbers counts)) o counts
least-gives o numbers counts = refl

pub bound-gives : (o : Order) (b : ℤ) (numbers : ℕ) (counts : List ℕ) →
    given_back (call_of (bound o b numbers)) counts ≡ booked_by (judge (booked_plan_rows o b numbers counts)) o counts
bound-gives o b numbers counts = refl

-- "a refused plan books nothing": among calls one that is refused, whatever its number, could as well be left out
pub refused-books-nothing : (earlier : List Booking) (call : Booking) (later : List Booking) (number carried : ℕ) →
    judged_with (call_of call) (book_of earlier) ≡ refused number carried → book_of (earlier ++ (call ∷ later)) ≡ book_of (earlier ++ later)
refused-books-nothing earlier call later number carried e = refused-left-out call_of earlier call later opened number carried e

module _ (calls : List Booking) where
  -- "each count equals the times of that maker's jobs in all plans written with it, worked out from the orders"
  pub counts-are : (maker : ℕ) → Numbers most_makers maker →
      nth (book_of calls) maker 0 ≡ total (planned calls) (λ (o : Order). minutes_for o maker)
  counts-are maker n = book-counts (map call_of calls) maker n

  -- "The sum of the sixteen counts equals the times of all their jobs"
  pub counts-together : total (book_of calls) (λ n. n) ≡ total (planned calls) minutes_of
  counts-together = book-sum (map call_of calls) (All-of-map call_of Judges calls (in-All _ calls (λ call _. judges call)))

  -- no count is over the limit
  pub counts-few : (maker : ℕ) → Numbers most_makers maker → nth (book_of calls) maker 0 ≤ most_booked
  counts-few maker n = book-most (map call_of calls) maker n
