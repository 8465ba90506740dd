use mathlib.Core.Path.{◌≡◌}
use lib.ListN.{length}
use Rattle.engine.specs.Start.{Copied}
use Rattle.engine.proofs.slices.copy.Given as goal

abbrev pub invariant-loop-k : goal.invariant-loop-k
invariant-loop-k l = (length l.xs ≡ length l.initial.xs) × Copied l.from l.xs l.k
