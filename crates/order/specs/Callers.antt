-- Document 02, §10: "A screen in boathouses calls the same planner .. the limit belongs to the call". Of every table of refusals there is
-- one for each caller: the two rows of the limits are the caller's, "given in place of 4 and 2 and where those stand", and every other
-- row stands as it is.
use Rattle.std.specs.Prelude.{ℕ, ◌≤◌, cond, List, map, eqb}
use Rattle.order.specs.Order.{Order, processor_count, job_count}
use Rattle.order.specs.Refusals.{Limits, limits, screen, TableRow, processors_row, jobs_row}
use Rattle.order.specs.declared.Caller.{Caller}
use Rattle.order.specs.declared.Caller.TheVariants.{Dock, Screen}

abbrev pub limits_of : Caller → Limits
limits_of Dock = limits
limits_of Screen = screen

-- these counts are within the limits
abbrev pub Within : Limits → (processors jobs : ℕ) → Type 0
Within most processors jobs = (processors ≤ most.processors) × (jobs ≤ most.jobs)

-- the row that stands where this one does, by other limits
abbrev pub row_by : Limits → (processors jobs : ℕ) → TableRow → TableRow
row_by most processors jobs r =
    cond (eqb r.number limits.over_processors) (processors_row most processors)
    (cond (eqb r.number limits.over_jobs) (jobs_row most jobs) r)

unfoldable pub rows_by : Limits → (processors jobs : ℕ) → List TableRow → List TableRow
rows_by most processors jobs rows = map (row_by most processors jobs) rows

-- a table about an order, as this caller is judged by it
abbrev pub rows_for : Caller → Order → List TableRow → List TableRow
rows_for caller o rows = rows_by (limits_of caller) (processor_count o) (job_count o) rows
