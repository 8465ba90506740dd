-- `put_processors`: the invariant is that the buffer begins with the first i processors and goes on as it was.
use Prim.Native.Nat.{◌*◌}
use lib.ListN.{get_or}
use Rattle.sums.specs.Lists.{tabulate}
use Rattle.order_file.specs.File.{processor_bytes}
use Rattle.order_file.proofs.Stores.{Front}
use Rattle.order_file.proofs.write.put_processors.Given as goal

abbrev pub invariant-loop-i : goal.invariant-loop-i
invariant-loop-i l =
    Front l.initial.out (4 * l.i) (processor_bytes (tabulate l.i (λ k. get_or l.fn.order.memories k 0))) l.out
