-- Document 02, §5, "Sessions that arrive later, processors that rest": "a ready minute (0 to 1,000,000) for each job and one window, opening
-- to closing minute in the same range, for each processor". What a right plan is that keeps them stands in wrap's FrameAt: RightTimed.
use Rattle.std.specs.Prelude.{ℕ, suc, Bool, not, ◌&&◌, leb, ltb}
use Rattle.sums.specs.Lists.{nth, tabulate}
use Rattle.order.specs.Order.{Order, processor_count, job_count}
use Rattle.order.specs.Refusals.{TableRow, row, first}
use Rattle.wrap.specs.FrameAt.{Times}
use Rattle.timed.specs.declared.Times.{Times as TimesTable}

-- the times of a struct, by the numbers of jobs and processors
abbrev pub times_of : TimesTable → Times
times_of t =
    record { ready = λ j. nth t.ready j 0; opens = λ i. nth t.opens i 0; closes = λ i. nth t.closes i 0 }

abbrev pub most_minute : ℕ
most_minute = 1000000

abbrev pub minute_in_range : ℕ → Bool
minute_in_range minute = leb minute most_minute

-- in range, and closing after it opens; an opening below a closing in range is in range
abbrev pub window_good : ℕ → ℕ → Bool
window_good opens closes = ltb opens closes && minute_in_range closes

-- "A ready minute out of range is 15": the first such job
abbrev pub ready_row : Order → Times → TableRow
ready_row o t = row 15 (first (λ j. not (minute_in_range (t.ready j))) (tabulate (job_count o) suc))

-- "a window out of range or not closing after it opens is 16": the first such processor
abbrev pub window_row : Order → Times → TableRow
window_row o t = row 16 (first (λ i. not (window_good (t.opens i) (t.closes i))) (tabulate (processor_count o) suc))
