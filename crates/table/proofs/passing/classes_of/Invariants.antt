use mathlib.Core.Path.{◌≡◌}
use Rattle.order.specs.Table.{order_of}
use Rattle.table.specs.Passed.{listing, passed, last_class}
use Rattle.table.specs.declared.Listing.{Listing}
use Rattle.table.proofs.passing.classes_of.Given as goal

-- the last class and the listing are those of the processors passed
abbrev pub invariant-loop-number : goal.invariant-loop-number
invariant-loop-number l =
    (l.last ≡ last_class (passed (order_of l.order) l.number-index))
    × (◌≡◌ {A = Listing} (record { count = l.last.number; memories = l.memories; procs = l.procs }) (listing (passed (order_of l.order) l.number-index)))
