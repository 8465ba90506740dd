-- A plan has at most 3,024 rows.
use Rattle.std.specs.Prelude.{ℕ, ◌+◌, ◌-◌, ◌≤◌, List, ℤ, length}
use Rattle.std.proofs.Common.{ap, arith, mul-le-mul_left, mul-le-mul_right}
use Rattle.order.specs.Order.{Order, processor_count, job_count}
use Rattle.order.specs.Refusals.{Accepted}
use Rattle.order.proofs.RefusalLaws.{accepted-iff}
use Rattle.wrap.specs.Stretches.{stretch_count}
use Rattle.wrap.proofs.LayoutJoined.{joined-few}
use Rattle.order.specs.SortedLaws.{dues-few}
use Rattle.planner.specs.Rows.{rows_asked}
use Rattle.planner.specs.Written.{Written}

-- an accepted order asks for at most 3,024 rows
pub asked-few : (o : Order) → Accepted o → rows_asked o ≤ 3024
asked-few o accepted =
    let a = (accepted-iff o).0 accepted in
    let most : job_count o + processor_count o - 1 ≤ 63 = omega (arith, a.few-jobs, a.few-processors) in
    let few : stretch_count o ≤ 48 = omega (arith, dues-few o, a.few-jobs) in
    omega (
      arith,
      mul-le-mul_right (job_count o + processor_count o - 1) few,
      mul-le-mul_left 48 most,
    )

-- so many rows were written at most
pub written-few : {o : Order} {bound : ℤ} {entry exit : List ℕ} {count : ℕ} → Accepted o → Written o bound entry exit count →
    count ≤ 3024
written-few {o} {bound} a w =
    let p = w.plan-of in omega (arith, w.count-is, ap length p.plan-is, joined-few o bound p.amounts, asked-few o a)
