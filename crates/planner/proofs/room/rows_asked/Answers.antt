use Prim.Native.Nat.{ℕ, ◌+◌, ◌-◌, ◌*◌}
use mathlib.Core.Path.{◌≡◌, refl, ◌∙◌}
use native.Mathlib.Omega.{arith}
use Rattle.order.specs.Lead.{last_due}
use Rattle.order.proofs.RefusalLaws.{accepted-iff}
use Rattle.order.proofs.StructLaws.{job-count, processor-count, few-jobs, few-processors}
use Rattle.order.specs.Table.{order_of}
use Rattle.order.specs.declared.Order.{Order as OrderTable}
use Rattle.wrap.specs.Stretches.{stretch_count}
use Rattle.allot.specs.GridMarks.{grid-counted}
use Rattle.planner.specs.Rows.{rows_asked}
use Rattle.planner.proofs.room.rows_asked.Goals as goal

asked : (t : OrderTable) (q : ℕ) → q ≡ stretch_count (order_of t) → q * (t.jobs + t.processors - 1) ≡ rows_asked (order_of t)
asked t q e = rw (e, job-count t, processor-count t) refl

pub rows_of-requires : goal.rows_of-requires
rows_of-requires c =
    let o = c.args.order in (
      c.grid_of-grid.ensures.few,
      omega (arith, ((accepted-iff (order_of o)).0 c.requires).some-job, job-count o),
      few-jobs o c.requires,
      few-processors o c.requires,
    )

pub returns : goal.returns
returns c =
    let g = c.grid_of-grid in
    (c.rows_of.ensures.0 ∙ asked c.args.order _ (grid-counted last_due _ _ g.ensures), c.rows_of.ensures.1)
