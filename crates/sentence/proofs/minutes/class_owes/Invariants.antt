use Rattle.std.proofs.Common.{◌*◌, ◌≤◌, ◌≡◌, eqb, get_or}
use Rattle.sums.specs.Sum.{sum}
use Rattle.sums.specs.Lists.{only}
use Rattle.reason.specs.Asked.{owed_by}
use Rattle.sentence.proofs.minutes.class_owes.Given as goal

abbrev pub invariant-loop-j : goal.invariant-loop-j
invariant-loop-j l =
    (l.owes ≤ 100000 * l.j)
    × (l.owes ≡ sum l.j (λ j. only (eqb (get_or l.t.classes j 0) l.class) (owed_by (get_or l.t.times j 0) (get_or l.t.leads j 0) l.g)))
