-- What the tests on a row find: where one fails, a row is not well formed; past them all, it is where it goes forward. And
-- a well-formed row ends by its job's end exactly if it ends by the deadline.
use Prim.Native.Nat.{ℕ, ◌-◌, ◌≤◌, ◌<◌}
use mathlib.Core.Path.{◌≡◌, sym, ap, ◌∙◌}
use mathlib.Core.Bool.{true, false, ◌&&◌, and-false}
use native.Mathlib.Omega.{arith}
use borrow.Author.Tests.{le-leb, lt-leb, leb-true}
use lib.Dec.{leb, ltb}
use lib.IntN.{ℤ, pos}
use lib.ListN.{get_or}
use lib.Signed.{mag}
use mir.Syntax.{w32}
use mir.Val.{to_z, of_z}
use Rattle.order.specs.Machine.{machine-back}
use Rattle.order.specs.Order.{end_at, end_of}
use Rattle.order.specs.Deadline.{cut, cut-le}
use Rattle.order.specs.Table.{order_of}
use Rattle.order.specs.declared.Order.{Order as OrderTable}
use Rattle.plan.specs.Plan.{Row}
use Rattle.plan.specs.Check.{well_formed, by_end}
use Rattle.plan.proofs.RuleLaws.{well-formed-iff}
use Rattle.order.proofs.RefusalLaws.{both_true}
use Rattle.order.proofs.StructLaws.{job-count, processor-count}
use Rattle.plan.proofs.Orders.{job-of, memory-of}

module _ (t : OrderTable) (r : Row) where
  pub no-job : (leb 1 r.job && leb r.job t.jobs) ≡ false → false ≡ well_formed (order_of t) r
  no-job h = rw (job-count t, h)

  pub no-processor : (leb 1 r.processor && leb r.processor t.processors) ≡ false → false ≡ well_formed (order_of t) r
  no-processor h = rw (processor-count t, h, and-false)

  -- a row that names a job and a processor
  module _ (a-job : (leb 1 r.job && leb r.job t.jobs) ≡ true)
      (a-processor : (leb 1 r.processor && leb r.processor t.processors) ≡ true) where
    j : (leb 1 r.job ≡ true) × (leb r.job t.jobs ≡ true)
    j = both_true (leb 1 r.job) (leb r.job t.jobs) a-job

    i : (leb 1 r.processor ≡ true) × (leb r.processor t.processors ≡ true)
    i = both_true (leb 1 r.processor) (leb r.processor t.processors) a-processor

    names : well_formed (order_of t) r
        ≡ (leb (get_or t.needs (r.job - 1) 0) (get_or t.memories (r.processor - 1) 0) && ltb r.from r.to)
    names =
        rw (
          job-count t,
          processor-count t,
          a-job,
          a-processor,
          job-of t r.job (leb-true 1 r.job j.0) (leb-true r.job t.jobs j.1),
          memory-of t r.processor (leb-true 1 r.processor i.0) (leb-true r.processor t.processors i.1),
        )

    pub unfit : get_or t.memories (r.processor - 1) 0 < get_or t.needs (r.job - 1) 0 → false ≡ well_formed (order_of t) r
    unfit h = sym (names ∙ rw (lt-leb (get_or t.needs (r.job - 1) 0) (get_or t.memories (r.processor - 1) 0) h))

    pub fit : get_or t.needs (r.job - 1) 0 ≤ get_or t.memories (r.processor - 1) 0 →
        ltb r.from r.to ≡ well_formed (order_of t) r
    fit h = sym (names ∙ rw (le-leb (get_or t.needs (r.job - 1) 0) (get_or t.memories (r.processor - 1) 0) h))

  -- a well-formed row
  module _ (w : well_formed (order_of t) r ≡ true) where
    pub its-job : (1 ≤ r.job) × (r.job ≤ t.jobs)
    its-job = let n = ((well-formed-iff (order_of t) r).0 w).a-job in (n.0, rw job-count at n.1)

    pub ends : (bound : ℤ) (deadline : ℕ) → deadline ≡ cut (end_at bound (get_or t.dues (r.job - 1) (pos 0))) →
        leb r.to deadline ≡ by_end (order_of t) bound r
    unfolding end_of
    ends bound deadline e =
        let some : 1 ≤ r.to = omega (arith, ((well-formed-iff (order_of t) r).0 w).forward) in
        rw (e, job-of t r.job its-job.0 its-job.1)
        (sym (cut-le (end_at bound (get_or t.dues (r.job - 1) (pos 0))) r.to some))

    -- of the due time as the machine reads it back
    pub ends_read : (bound due : ℤ) → due ≡ get_or t.dues (r.job - 1) (pos 0) → mag due < 2147483648 →
        leb r.to (cut (end_at bound (to_z w32 (of_z w32 due)))) ≡ by_end (order_of t) bound r
    ends_read bound due e f = ends bound _ (ap (λ (z : ℤ). cut (end_at bound z)) (machine-back due f ∙ e))
