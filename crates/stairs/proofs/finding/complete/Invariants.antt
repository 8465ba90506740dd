use Prim.Native.Nat.{suc, ◌*◌, ◌≤◌}
use Rattle.stairs.specs.Tables.{first_from, put, cell}
use Rattle.stairs.proofs.Greedy.{Greedy}
use Rattle.stairs.proofs.finding.complete.Given as goal

-- the classes below i are settled greedily
abbrev pub invariant-loop-i : goal.invariant-loop-i
invariant-loop-i l =
    (l.top ≤ l.d) × (l.acc ≤ l.i * 40000000)
    × Greedy (cell l.t) l.room (put l.d (first_from (cell l.t) l.room (cell l.t 0 l.d) 1 l.k (suc l.d))) (suc l.k) l.i l.top l.acc l.at
