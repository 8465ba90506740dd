-- The calls of a screen (document 02, §10): each judges by the table of the dock's call, with the screen's limits, and answers what the
-- dock's call answers.
use Rattle.std.specs.Prelude.{ℕ, List}
use Rattle.order.specs.Refusals.{TableRow}
use Rattle.order.specs.Callers.{rows_for}
use Rattle.order.specs.declared.Caller.TheVariants.{Screen}
use Rattle.order_file.specs.File.{order_in}

-- a call's table about the order of a file, as a screen is judged by it
abbrev pub screened : (file : List ℕ) → List TableRow → List TableRow
screened file rows = rows_for Screen (order_in file) rows
