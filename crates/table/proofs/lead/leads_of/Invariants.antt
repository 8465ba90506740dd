-- the leads of the first j jobs stand in the array
use Rattle.std.proofs.Common.{◌≡◌, length, get_or, pos}
use Rattle.sums.specs.Arrays.{RowOf}
use Rattle.order.specs.Lead.{lead, last_due}
use Rattle.table.proofs.lead.leads_of.Given as goal

abbrev pub invariant-loop-j : goal.invariant-loop-j
invariant-loop-j l = (length l.leads ≡ 48) × RowOf (λ j. lead last_due (get_or l.order.dues j (pos 0))) l.j l.leads
