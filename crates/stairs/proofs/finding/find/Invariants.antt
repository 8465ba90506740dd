use Prim.Native.Nat.{suc, ◌<◌}
use mathlib.Core.Path.{◌≡◌}
use lib.ListN.{get_or}
use Rattle.profile.specs.Search.{nothing}
use Rattle.stairs.specs.Places.{first_overfull_at}
use Rattle.stairs.specs.Tables.{first_from, cell, room_of}
use Rattle.stairs.proofs.finding.find.Given as goal

-- no profile of k + 1 classes that begins below d is overfull
abbrev pub invariant-loop-d : goal.invariant-loop-d
invariant-loop-d l = (l.k < l.s) × (first_from (cell l.t) (get_or l.rooms l.k 0) 0 0 (suc l.k) l.d ≡ nothing)

-- no profile of at most k classes is overfull
abbrev pub invariant-loop-k : goal.invariant-loop-k
invariant-loop-k l = first_overfull_at (cell l.t) (room_of l.rooms) l.k l.q ≡ nothing
