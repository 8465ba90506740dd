-- Document 02, §4: "A book keeps the minutes planned for each maker since it was opened": a list of counts, maker 1's first.
use Rattle.std.specs.Prelude.{ℕ, suc, ◌+◌, Bool, false, ◌||◌, List, [], ◌∷◌, ltb, eqb, get_or}
use Rattle.sums.specs.Lists.{total, only, tabulate}
use Rattle.order.specs.Order.{Job, Order}
use Rattle.order.specs.Refusals.{most_makers, TableRow, Verdict, accepted, refused, row, whole}

-- "opened": no minutes
abbrev pub opened : List ℕ
opened = tabulate most_makers (λ i. 0)

-- "the times of that maker's jobs .. worked out from the orders", and the times of all jobs of an order
abbrev pub minutes_for : Order → ℕ → ℕ
minutes_for o maker = total o.jobs (λ (job : Job). only (eqb job.maker maker) job.time)

abbrev pub minutes_of : Order → ℕ
minutes_of o = total o.jobs (λ (job : Job). job.time)

-- the minutes of maker 1, 2, .. 16
unfoldable pub minutes_by : Order → List ℕ
minutes_by o = tabulate most_makers (λ i. minutes_for o (suc i))

-- sixteen counts, each with its minutes
unfoldable pub added : List ℕ → List ℕ → List ℕ
added counts minutes = tabulate most_makers (λ i. get_or counts i 0 + get_or minutes i 0)

-- the counts once a plan for this order is written
abbrev pub booked : Order → List ℕ → List ℕ
booked o counts = added counts (minutes_by o)

-- "a count that would then be over 4,000,000,000, handed in so or not": of any of the sixteen makers, with a job in this order or not
abbrev pub most_booked : ℕ
most_booked = 4000000000

unfoldable pub some_over : List ℕ → Bool
some_over [] = false
some_over (count ∷ counts) = ltb most_booked count || some_over counts

abbrev pub over_booked : Order → List ℕ → Bool
over_booked o counts = some_over (booked o counts)

-- row 14, "last of all and before any row is written"
abbrev pub book_row : Order → List ℕ → TableRow
book_row o counts = row 14 (whole (over_booked o counts))

-- the book that is given back, by what the table answers: "a refused plan books nothing"
abbrev pub booked_by : Verdict → Order → List ℕ → List ℕ
booked_by accepted o counts = booked o counts
booked_by (refused number carried) o counts = counts
