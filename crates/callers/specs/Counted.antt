-- Each table of the dock about an order begins with the rows of the counts, and by a dock's limits it is itself: so a caller's table
-- differs from it in the two rows of the limits alone.
use Rattle.std.specs.Prelude.{ℕ, ◌≡◌, List, [], ◌∷◌, ◌++◌, ℤ, length}
use Rattle.std.proofs.Math.Path.{refl}
use Rattle.order.specs.Order.{Order, processor_count, job_count}
use Rattle.order.specs.Refusals.{
  limits,
  TableRow,
  count_rows,
  job_rows,
  order_rows,
  bound_row,
  room_row,
  tight_row,
  rows_up_to_row,
  rows_to_check_row,
}
use Rattle.order.specs.Callers.{rows_by}
use Rattle.order.proofs.CallerLaws.{Itself}
use Rattle.order_file.specs.File.{file_length, write_rows}
use Rattle.book.specs.Book.{book_row}
use Rattle.plan.specs.Check.{check_rows}
use Rattle.profile.specs.Search.{reason_of}
use Rattle.planner.specs.Rows.{buffer_row, is_found, least_rows, earlier_rows, plan_rows, booked_least_rows, booked_plan_rows}
use Rattle.reason.specs.declared.Why.{Why}
use Rattle.sentence.specs.Handed.{handed}
use Rattle.sentence.specs.Line.{composed}
use Rattle.sentence.specs.Told.{compose_rows, read_rows}
use Rattle.wrap.specs.FrameAt.{Times}
use Rattle.timed.specs.Times.{ready_row, window_row}
use Rattle.timed.specs.Rows.{none_timed, asked_rows, timed_buffer, earlier_timed, timed_rows, most_timed_rows, timed_check_rows}

pub record Counted (o : Order) (rows : List TableRow) : Type 0 where
  pub later : List TableRow
  pub begins : rows ≡ count_rows limits (processor_count o) (job_count o) ++ later
  pub itself : Itself (processor_count o) (job_count o) rows

module _ (o : Order) where
  pub accept-counted : Counted o (order_rows limits o)
  unfolding rows_by
  accept-counted = record { later = job_rows o; begins = refl; itself = refl }

  pub write-counted : (lent : ℕ) → Counted o (write_rows o lent)
  unfolding rows_by write_rows
  write-counted lent = record { later = job_rows o ++ (room_row lent (file_length o) ∷ []); begins = refl; itself = refl }

  pub check-counted : (bound : ℤ) (numbers : ℕ) → Counted o (check_rows o bound numbers)
  unfolding rows_by check_rows
  check-counted bound numbers =
      record { later = job_rows o ++ (bound_row bound ∷ rows_to_check_row numbers ∷ []); begins = refl; itself = refl }

  pub least-counted : (numbers : ℕ) → Counted o (least_rows o numbers)
  unfolding rows_by least_rows
  least-counted numbers = record { later = job_rows o ++ (buffer_row o numbers ∷ []); begins = refl; itself = refl }

  module _ (bound : ℤ) (numbers : ℕ) where
    abbrev plan_later : List TableRow
    plan_later = job_rows o ++ (bound_row bound ∷ buffer_row o numbers ∷ tight_row (is_found (reason_of o bound)) ∷ [])

    pub plan-counted : Counted o (plan_rows o bound numbers)
    unfolding rows_by earlier_rows plan_rows
    plan-counted = record { later = plan_later; begins = refl; itself = refl }

    pub book-plan-counted : (counts : List ℕ) → Counted o (booked_plan_rows o bound numbers counts)
    unfolding rows_by earlier_rows plan_rows
    book-plan-counted counts = record { later = plan_later ++ (book_row o counts ∷ []); begins = refl; itself = refl }

  pub book-least-counted : (numbers : ℕ) (counts : List ℕ) → Counted o (booked_least_rows o numbers counts)
  unfolding rows_by least_rows
  book-least-counted numbers counts =
      record { later = job_rows o ++ (buffer_row o numbers ∷ book_row o counts ∷ []); begins = refl; itself = refl }

  module _ (bound : ℤ) (t : Times) where
    abbrev asked_later : List TableRow
    asked_later = job_rows o ++ (ready_row o t ∷ window_row o t ∷ bound_row bound ∷ [])

    pub asked-counted : Counted o (asked_rows o bound t)
    unfolding rows_by asked_rows
    asked-counted = record { later = asked_later; begins = refl; itself = refl }

    pub timed-counted : (numbers : ℕ) → Counted o (timed_rows o bound t numbers)
    unfolding rows_by asked_rows earlier_timed timed_rows
    timed-counted numbers =
        record {
          later = asked_later ++ (timed_buffer o bound t numbers ∷ tight_row (none_timed o bound t) ∷ []);
          begins = refl;
          itself = refl;
        }

    pub timed-check-counted : (numbers : ℕ) → Counted o (timed_check_rows o bound t numbers)
    unfolding rows_by asked_rows timed_check_rows
    timed-check-counted numbers =
        record { later = asked_later ++ (rows_up_to_row most_timed_rows numbers ∷ []); begins = refl; itself = refl }

  pub compose-counted : (bound : ℤ) (why : Why) (lent : ℕ) → Counted o (compose_rows o bound why lent)
  unfolding rows_by compose_rows
  compose-counted bound why lent =
      record {
        later = job_rows o ++ (bound_row bound ∷ room_row lent (length (composed o bound (handed o why))) ∷ []);
        begins = refl;
        itself = refl;
      }

  pub back-counted : (bound : ℤ) → Counted o (read_rows o bound)
  unfolding rows_by read_rows
  back-counted bound = record { later = job_rows o ++ (bound_row bound ∷ []); begins = refl; itself = refl }
