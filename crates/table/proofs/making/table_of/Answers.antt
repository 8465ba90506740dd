use Prim.Native.Nat.{◌≤◌}
use native.Mathlib.Omega.{arith}
use Rattle.order.proofs.StructLaws.{few-jobs, few-processors}
use Rattle.table.specs.GridLaws.{grid-of-leads}
use Rattle.table.specs.Making.{tabled-made}
use Rattle.table.proofs.NeedsFall.{numbers-once}
use Rattle.table.proofs.making.table_of.Goals as goal

pub processor_order-by_memory-requires : goal.processor_order-by_memory-requires
processor_order-by_memory-requires c = few-processors c.args.order c.requires

pub job_order-by_need-requires : goal.job_order-by_need-requires
job_order-by_need-requires c = few-jobs c.args.order c.requires

pub classes_of-classes-requires : goal.classes_of-classes-requires
classes_of-classes-requires c = (few-processors c.args.order c.requires, c.processor_order-by_memory.ensures)

pub by_place-requires : goal.by_place-requires
by_place-requires c = (let few = few-jobs c.args.order c.requires in (few, numbers-once c.args.order few c.job_order-by_need.result c.job_order-by_need.ensures))

pub classes_of_jobs-requires : goal.classes_of_jobs-requires
classes_of_jobs-requires c = (c.requires, c.job_order-by_need.ensures, c.classes_of-classes.ensures)

pub by_place-requires-2 : goal.by_place-requires-2
by_place-requires-2 c = (let few = few-jobs c.args.order c.requires in (few, numbers-once c.args.order few c.job_order-by_need.result c.job_order-by_need.ensures))

pub returns : goal.returns
returns c =
    let g = grid-of-leads c.args.order c.requires _ c.leads_of-leads.ensures c.distinct_down-dues.result c.distinct_down-dues.ensures in
    tabled-made c.args.order (few-jobs c.args.order c.requires) (few-processors c.args.order c.requires) c.classes_of-classes.result
    c.distinct_down-dues.result c.leads_of-leads.result c.by_place.result c.classes_of_jobs.result
    c.by_place-2.result c.classes_of_processors.result c.processor_order-by_memory.result
    c.job_order-by_need.result c.classes_of-classes.ensures g c.leads_of-leads.ensures c.by_place.ensures
    c.classes_of_jobs.ensures c.by_place-2.ensures c.classes_of_processors.ensures
    c.processor_order-by_memory.ensures c.job_order-by_need.ensures

pub distinct_down-dues-requires : goal.distinct_down-dues-requires
distinct_down-dues-requires c =
    let l : c.args.order.jobs ≤ 48 = few-jobs c.args.order c.requires in (omega arith, l)
