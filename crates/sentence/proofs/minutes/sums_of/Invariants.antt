use Rattle.std.proofs.Common.{suc, pos, ◌-◌, ◌*◌, ◌≤◌, ◌≡◌, get_or}
use Rattle.sums.specs.Sum.{sum}
use Rattle.order.specs.Lead.{lead, last_due, most_reach}
use Rattle.reason.specs.Asked.{owes_by}
use Rattle.sentence.proofs.minutes.sums_of.Given as goal

abbrev pub invariant-loop-i : goal.invariant-loop-i
invariant-loop-i l =
    (l.owed ≤ 4800000 * l.i) × (l.on_hand ≤ 16 * most_reach * l.i)
    × (l.owed ≡ sum l.i (λ i. owes_by l.t (suc i) (lead last_due (get_or l.dues i (pos 0)))))
    × (l.on_hand ≡ sum l.i (λ i. get_or l.t.procs i 0 * (l.reach - lead last_due (get_or l.dues i (pos 0)))))
