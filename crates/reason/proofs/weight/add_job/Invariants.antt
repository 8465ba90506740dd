use Prim.Native.Nat.{ℕ, ◌+◌, ◌≤◌}
use mathlib.Core.Path.{◌≡◌}
use lib.ListN.{get_or}
use Rattle.sums.specs.Arrays.{RowOf}
use Rattle.reason.specs.Asked.{owed_by}
use Rattle.reason.proofs.weight.add_job.Given as goal

-- the job is in what is owed at the due times before d, and not yet from there on
abbrev pub invariant-loop-d : goal.invariant-loop-d
invariant-loop-d l =
    RowOf (λ d. get_or l.initial.row d 0 + owed_by l.time l.lead (get_or l.grid d 0)) l.d l.row
    × ((i : ℕ) → l.d ≤ i → get_or l.row i 0 ≡ get_or l.initial.row i 0)
