-- What the code's booking stands for.
use Rattle.std.specs.Prelude.{cond, Result, Ok, Err}
use Rattle.order.specs.Order.{Order}
use Rattle.order.specs.declared.Refusal.{Refusal}
use Rattle.order.specs.declared.Refusal.TheVariants.{BookFull}
use Rattle.book.specs.Book.{booked, over_booked}
use Rattle.book.specs.declared.Book.{Book}

-- the book with the order's minutes; refused where a count would be over the limit
unfoldable pub booking_of : Order → Book → Result Book Refusal
booking_of o book = cond (over_booked o book.counts) (Err BookFull) (Ok (record { counts = booked o book.counts }))
