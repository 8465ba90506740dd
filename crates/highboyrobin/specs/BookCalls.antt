-- hbr_book_least and hbr_book_plan: hbr_least and hbr_plan with a book, whose row stands last of all.
use Rattle.std.specs.Prelude.{ℕ, List, ◌++◌, ℤ, length, take, drop}
use Rattle.order.specs.Order.{Order}
use Rattle.order.specs.Refusals.{most_makers, TableRow, Verdict}
use Rattle.order_file.specs.File.{order_in}
use Rattle.book.specs.Book.{booked_by}
use Rattle.planner.specs.Rows.{booked_least_rows, booked_plan_rows}
use Rattle.highboyrobin.specs.Results.{list_call}

-- the table: the answer's room, the book's length, 12, then the rows of the entry point
abbrev pub book_call : ℕ → ℕ → ℕ → List ℕ → List TableRow → List TableRow
book_call lent asked counts file rows = list_call lent asked counts most_makers file rows

-- the first sixteen numbers of a lent book are its counts
abbrev pub counts_in : List ℕ → List ℕ
counts_in book = take most_makers book

abbrev pub book_least_call : List ℕ → ℕ → List ℕ → ℕ → List TableRow
book_least_call file numbers book lent = book_call lent 2 (length book) file (booked_least_rows (order_in file) numbers (counts_in book))

abbrev pub book_plan_call : List ℕ → ℤ → ℕ → List ℕ → ℕ → List TableRow
book_plan_call file bound numbers book lent =
    book_call lent 1 (length book) file (booked_plan_rows (order_in file) bound numbers (counts_in book))

-- the lent book at exit: the counts that are given back, and what stood beyond them
abbrev pub book_left : Verdict → Order → List ℕ → List ℕ
book_left v o book = booked_by v o (counts_in book) ++ drop most_makers book
