use mathlib.Core.Path.{◌≡◌}
use lib.ListN.{length}
use Rattle.reason.proofs.JobByJob.{Filled}
use Rattle.reason.proofs.weight.owed_table.Given as goal

abbrev pub invariant-loop-k : goal.invariant-loop-k
invariant-loop-k l = (length l.rows ≡ 16) × Filled l.t l.k l.rows
