-- What the code reads of an order's struct: the job and the memory that a number names, and a job's end.
use Prim.Native.Nat.{ℕ, zero, suc, ◌-◌, ◌≤◌}
use mathlib.Core.Path.{◌≡◌, ap, ◌∙◌}
use native.Mathlib.Omega.{arith}
use lib.IntN.{ℤ}
use lib.ListN.{get_or}
use mir.Val.{to_z, of_z, SFits}
use mir.ValLaws.{to_z-of_z}
use mir.Syntax.{w32}
use Rattle.sums.specs.Places.{get_d_tabulate}
use Rattle.order.specs.Order.{end_at, no_job, job_of, memory_of}
use Rattle.order.specs.Deadline.{cut}
use Rattle.order.specs.Table.{job_at, order_of}
use Rattle.order.specs.declared.Order.{Order as OrderTable}

-- a due time and the bound, both read back
pub read-both : (due bound : ℤ) → SFits w32 due → SFits w32 bound →
    cut (end_at (to_z w32 (of_z w32 bound)) (to_z w32 (of_z w32 due))) ≡ cut (end_at bound due)
read-both due bound f g = rw (to_z-of_z w32 due f, to_z-of_z w32 bound g)

module _ (t : OrderTable) where
  pub job-of : (j : ℕ) → 1 ≤ j → j ≤ t.jobs → job_of (order_of t) j ≡ job_at t (j - 1)
  job-of zero h k = absurd (omega arith)
  job-of (suc j) h k =
      let e : j ≡ suc j - 1 = omega arith in
      get_d_tabulate t.jobs (job_at t) no_job j k ∙ ap (job_at t) e

  pub memory-of : (i : ℕ) → 1 ≤ i → i ≤ t.processors → memory_of (order_of t) i ≡ get_or t.memories (i - 1) 0
  memory-of zero h k = absurd (omega arith)
  memory-of (suc i) h k =
      let e : i ≡ suc i - 1 = omega arith in
      get_d_tabulate t.processors (λ i. get_or t.memories i 0) 0 i k ∙ ap (λ (i : ℕ). get_or t.memories i 0) e
