-- The totals are those of the rows passed so far, and each row adds less than 2^32.
use mathlib.Core.Path.{◌≡◌}
use lib.ListN.{length}
use Rattle.plan.proofs.Lengths.{Totals}
use Rattle.plan.proofs.rows.job_lengths.Given as goal

abbrev pub invariant-loop-i : goal.invariant-loop-i
invariant-loop-i l = (length l.totals ≡ 48) × Totals l.rows l.totals l.i
