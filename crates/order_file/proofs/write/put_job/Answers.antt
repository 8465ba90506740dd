-- `put_job`: four numbers stored one after the other are the job's sixteen bytes.
use Rattle.order_file.proofs.Growing.{one-job}
use Rattle.order.specs.Machine.{machine-back}
use mathlib.Core.Path.{ap, ◌∙◌}
use Rattle.order_file.specs.Bytes.{pattern}
use Rattle.order_file.proofs.write.put_job.Goals as goal

pub returns : goal.returns
returns c =
    let a = c.args in
    one-job a.out.now a.at (record { time = a.time; due = a.due; need = a.need; maker = a.maker }) _ _ _ _ _ c.requires
    (c.to_pattern.ensures ∙ ap pattern (machine-back a.due c.ranges.due.sfits))
    c.put4.ensures c.put4-2.ensures c.put4-3.ensures c.put4-4.ensures
