-- Booked calls one after the other, each given the book that the last one gave back.
use Rattle.std.specs.Prelude.{ℕ, List, [], ◌∷◌, ◌++◌}
use Rattle.order.specs.Order.{Order}
use Rattle.order.specs.Refusals.{TableRow, Verdict, accepted, refused, judge}
use Rattle.book.specs.Book.{book_row, booked_by}

-- a booked call: the order that it is about, and the rows that are judged before the book's
pub record Call : Type 0 where
  pub order : Order
  pub rows : List TableRow

-- what its table answers, the book's row last of all, and the book that it gives back
abbrev pub judged_with : Call → List ℕ → Verdict
judged_with call book = judge (call.rows ++ (book_row call.order book ∷ []))

abbrev pub given_back : Call → List ℕ → List ℕ
given_back call book = booked_by (judged_with call book) call.order book

-- the book after all calls
unfoldable pub book_after : List Call → List ℕ → List ℕ
book_after [] book = book
book_after (call ∷ calls) book = book_after calls (given_back call book)

-- the orders whose plans were written
abbrev pub planned_by : Verdict → Order → List Order → List Order
planned_by accepted o later = o ∷ later
planned_by (refused number carried) o later = later

unfoldable pub orders_written : List Call → List ℕ → List Order
orders_written [] book = []
orders_written (call ∷ calls) book =
    planned_by (judged_with call book) call.order (orders_written calls (given_back call book))
