-- `put_jobs`: the invariant is that from `at` on the buffer holds the first j jobs and goes on as it was.
use Prim.Native.Nat.{◌+◌, ◌*◌}
use mathlib.Core.List.{◌++◌}
use lib.ListN.{take}
use Rattle.sums.specs.Lists.{tabulate}
use Rattle.order.specs.Table.{job_at}
use Rattle.order_file.specs.File.{job_bytes, job_width}
use Rattle.order_file.proofs.Stores.{Front}
use Rattle.order_file.proofs.write.put_jobs.Given as goal

abbrev pub invariant-loop-j : goal.invariant-loop-j
invariant-loop-j l = Front l.initial.out (l.at + job_width * l.j) (take l.at l.initial.out ++ job_bytes (tabulate l.j (job_at l.order))) l.out
