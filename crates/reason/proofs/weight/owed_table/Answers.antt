use borrow.Author.Rules.{rules}
use native.Mathlib.Omega.{arith}
use Rattle.reason.proofs.JobByJob.{filled-none, filled-small, filled-more, filled-all}
use Rattle.reason.proofs.weight.owed_table.Goals as goal

pub loop-k-init : goal.loop-k-init
loop-k-init c = (search rules, filled-none c.args.t)

pub add_job-requires : goal.add_job-requires
add_job-requires c =
    let l = c.loop-k in
    (c.requires.times l.k (omega arith), filled-small c.args.t c.requires l.k l.rows l.invariant.1 (omega arith))

pub loop-k-preserved : goal.loop-k-preserved
loop-k-preserved c =
    let l = c.loop-k in
    (search rules, filled-more c.args.t c.requires l.k l.rows l.invariant.1 (omega arith) l.invariant.0 _ c.add_job.ensures)

pub returns : goal.returns
returns c = filled-all c.args.t c.loop-k.k c.loop-k.rows c.loop-k.invariant.1 (omega arith)
