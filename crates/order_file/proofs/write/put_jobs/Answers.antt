-- `put_jobs`: the invariant is that from `at` on the buffer holds the first j jobs and goes on as it was.
use lib.IntN.{pos}
use Rattle.order.specs.Machine.{machine-back}
use Rattle.order_file.proofs.Growing.{no-job, one-job-more}
use lib.ListN.{get_or}
use Rattle.order.specs.Table.{job_at}
use native.Mathlib.Omega.{arith}
use Rattle.order_file.proofs.write.put_jobs.Goals as goal

pub loop-j-init : goal.loop-j-init
loop-j-init c = no-job _ _ (job_at c.args.order) (omega arith)

pub loop-j-preserved : goal.loop-j-preserved
loop-j-preserved c =
    let o = c.args.order in
    one-job-more _ _ (job_at o) _ _ _ _ c.loop-j.invariant (omega arith)
    (machine-back (get_or o.dues c.loop-j.j (pos 0)) c.put_job-arg-in-loop-j-2-1.given)
    c.put_job.ensures
