use Prim.Native.Nat.{suc, ◌+◌}
use mathlib.Core.Path.{◌≡◌}
use lib.ListN.{length, get_or}
use Rattle.sums.specs.Most.{most}
use Rattle.sums.specs.Arrays.{RowOf}
use Rattle.stairs.proofs.completion.above.Given as goal

-- the best so far, and the row up to d
abbrev pub invariant-loop-d : goal.invariant-loop-d
invariant-loop-d l =
    (length l.row ≡ 48) × (l.top ≡ most l.d (λ x. get_or l.w x 0 + get_or l.rest x 0))
    × RowOf (λ e. most (suc e) (λ x. get_or l.w x 0 + get_or l.rest x 0)) l.d l.row
