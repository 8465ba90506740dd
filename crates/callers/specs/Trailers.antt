-- What a file's trailer alone tells of it: 12, and the counts by some limits.
use Rattle.std.specs.Prelude.{ℕ, List, ◌∷◌}
use Rattle.order.specs.Order.{processor_count, job_count}
use Rattle.order.specs.Refusals.{Limits, TableRow, count_rows, file_row}
use Rattle.order_file.specs.File.{good_file, order_in}

abbrev pub trailer_rows : Limits → List ℕ → List TableRow
trailer_rows most f = file_row (good_file f) ∷ count_rows most (processor_count (order_in f)) (job_count (order_in f))
