-- Document 02, §10: "An order within the screen's limits gets the dock's own reply from either caller". Every entry point judges a screen
-- by one of these tables and answers, and leaves behind, what its contract says by the verdict: and the verdict is the dock's.
use Rattle.std.specs.Prelude.{ℕ, ◌≡◌, refl, List, [], ◌∷◌, ℤ, length}
use Rattle.std.proofs.Common.{subst}
use Rattle.sums.specs.Lists.{All}
use Rattle.order.specs.Order.{Order, processor_count, job_count}
use Rattle.order.specs.Refusals.{limits, screen, TableRow, Verdict, judge, order_rows}
use Rattle.order.specs.Callers.{limits_of, Within, rows_by, rows_for}
use Rattle.order.proofs.CallerLaws.{same-within, screen-same}
use Rattle.order.specs.declared.Caller.{Caller}
use Rattle.order.specs.declared.Caller.TheVariants.{Screen}
use Rattle.order_file.specs.File.{order_in, read_rows, write_rows}
use Rattle.plan.specs.Check.{check_rows}
use Rattle.reason.specs.declared.Why.{Why}
use Rattle.sentence.specs.Told.{compose_rows, read_rows as line_rows}
use Rattle.wrap.specs.FrameAt.{Times}
use Rattle.timed.proofs.Request.{timed-buffer-one}
use Rattle.timed.specs.Rows.{asked_rows, timed_rows, timed_check_rows}
use Rattle.timed.specs.Written.{TimedBufferBy}
use Rattle.planner.specs.Rows.{least_rows, plan_rows, booked_least_rows, booked_plan_rows}
use Rattle.planner.specs.Written.{BufferBy}
use Rattle.planner.specs.WrittenOne.{buffer-one}
use Rattle.estimate.specs.Estimate.{Estimate, estimate_rows}
use Rattle.callers.specs.Counted.{
  Counted,
  accept-counted,
  write-counted,
  check-counted,
  least-counted,
  plan-counted,
  book-least-counted,
  book-plan-counted,
  asked-counted,
  timed-counted,
  timed-check-counted,
  compose-counted,
  back-counted,
}

-- whatever is lent beside the order: a bound, a reason, times, a book's counts, and so many numbers or bytes of room
pub record Lent : Type 0 where
  pub bound : ℤ
  pub why : Why
  pub times : Times
  pub book : List ℕ
  pub room : ℕ

-- the tables by which an order is judged: accept, write, check, least, plan, both with a book, the three with times, a reason's line
-- composed and read back
abbrev pub tables : Order → Lent → List (List TableRow)
tables o l =
    order_rows limits o
    ∷ write_rows o l.room
    ∷ check_rows o l.bound l.room
    ∷ least_rows o l.room
    ∷ plan_rows o l.bound l.room
    ∷ booked_least_rows o l.room l.book
    ∷ booked_plan_rows o l.bound l.room l.book
    ∷ asked_rows o l.bound l.times
    ∷ timed_rows o l.bound l.times l.room
    ∷ timed_check_rows o l.bound l.times l.room
    ∷ compose_rows o l.bound l.why l.room
    ∷ line_rows o l.bound
    ∷ []

pub reply-same : (o : Order) (l : Lent) → Within screen (processor_count o) (job_count o) →
    All (λ (rows : List TableRow). judge (rows_for Screen o rows) ≡ judge rows) (tables o l)
reply-same o l few = (
  screen-same o _ (accept-counted o).itself few,
  (
    screen-same o _ (write-counted o l.room).itself few,
    (
      screen-same o _ (check-counted o l.bound l.room).itself few,
      (
        screen-same o _ (least-counted o l.room).itself few,
        (
          screen-same o _ (plan-counted o l.bound l.room).itself few,
          (
            screen-same o _ (book-least-counted o l.room l.book).itself few,
            (
              screen-same o _ (book-plan-counted o l.bound l.room l.book).itself few,
              (
                screen-same o _ (asked-counted o l.bound l.times).itself few,
                (
                  screen-same o _ (timed-counted o l.bound l.times l.room).itself few,
                  (
                    screen-same o _ (timed-check-counted o l.bound l.times l.room).itself few,
                    (
                      screen-same o _ (compose-counted o l.bound l.why l.room).itself few,
                      (
                        screen-same o _ (back-counted o l.bound).itself few,
                        tt,
                      ),
                    ),
                  ),
                ),
              ),
            ),
          ),
        ),
      ),
    ),
  ),
)

-- a verdict determines the rows that are written and their count, so these are equal too: of a plan, booked or not, and of one with times
module _ (o : Order) (few : Within screen (processor_count o) (job_count o)) {rows : List TableRow} (table : Counted o rows) (bound : ℤ)
    (entry exit exit' : List ℕ) (count count' : ℕ) where
  same : judge (rows_for Screen o rows) ≡ judge rows
  same = screen-same o rows table.itself few

  pub rows_same : BufferBy (judge (rows_for Screen o rows)) o bound entry exit count →
      BufferBy (judge rows) o bound entry exit' count' → (exit ≡ exit') × (count ≡ count')
  rows_same s d =
      buffer-one o bound entry exit exit' count count' (judge rows)
      (subst (λ (v : Verdict). BufferBy v o bound entry exit count) same s) d

  pub timed-rows-same : (t : Times) → TimedBufferBy (judge (rows_for Screen o rows)) o bound t entry exit count →
      TimedBufferBy (judge rows) o bound t entry exit' count' → (exit ≡ exit') × (count ≡ count')
  timed-rows-same t s d =
      timed-buffer-one o bound t entry exit exit' count count' (judge rows)
      (subst (λ (v : Verdict). TimedBufferBy v o bound t entry exit count) same s) d

-- the same of the reader, on the order of the file
pub read_same : (f : List ℕ) → Within screen (processor_count (order_in f)) (job_count (order_in f)) →
    judge (rows_for Screen (order_in f) (read_rows f)) ≡ judge (read_rows f)
unfolding rows_by read_rows
read_same f few = screen-same (order_in f) (read_rows f) refl few

-- and of times between, whose tables take the limits themselves
pub estimate-same : (e : Estimate) → Within screen (length e.memories) (length e.jobs) →
    judge (estimate_rows screen e) ≡ judge (estimate_rows limits e)
unfolding rows_by estimate_rows
estimate-same e few = same-within (length e.memories) (length e.jobs) few (estimate_rows limits e)

-- for either caller these two tables, which take the limits themselves, are those in which the rows of the limits are exchanged
pub accept-exchanged : (caller : Caller) (o : Order) → order_rows (limits_of caller) o ≡ rows_for caller o (order_rows limits o)
unfolding rows_by
accept-exchanged caller o = refl

pub estimate-exchanged : (caller : Caller) (e : Estimate) →
    estimate_rows (limits_of caller) e ≡ rows_by (limits_of caller) (length e.memories) (length e.jobs) (estimate_rows limits e)
unfolding rows_by estimate_rows
estimate-exchanged caller e = refl
