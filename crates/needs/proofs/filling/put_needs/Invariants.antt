use Rattle.std.proofs.Common.{◌≡◌}
use Rattle.needs.specs.NeedTable.{need_for}
use Rattle.needs.specs.Inside.{first_lines}
use Rattle.needs.proofs.Ended.{filled_to}
use Rattle.needs.proofs.filling.put_needs.Given as goal

abbrev pub invariant-loop-k : goal.invariant-loop-k
invariant-loop-k l = l.needs ≡ filled_to (need_for (first_lines l.table l.n)) l.lengths l.initial.needs l.k
