-- A job is whole where its lengths add up to its time; one that is not decides.
use Rattle.std.specs.Prelude.{ℕ, suc, ◌<◌, ◌≤◌, ◌≡◌, Bool, true, false, List, get_or}
use Rattle.std.proofs.Common.{rules, arith}
use Rattle.std.proofs.iter.runs.Sources.{ranges}
use Rattle.order.specs.Order.{job_count}
use Rattle.order.specs.Table.{order_of}
use Rattle.order.specs.declared.Order.{Order as OrderTable}
use Rattle.order.proofs.StructLaws.{job-count}
use Rattle.plan.specs.Check.{rows_of, every, whole_job}
use Rattle.plan.specs.EveryLaws.{every-walked}
use Rattle.plan.specs.Inside.{EachLength}
use Rattle.plan.proofs.Lengths.{whole-job, wrong-sum}
use Rattle.plan.proofs.rows.jobs_whole.Goals as goal
use Rattle.sums.specs.Lists.{tabulate}

module _ (t : OrderTable) (numbers totals : List ℕ) (few : t.jobs ≤ 48) (added : EachLength totals numbers) where
  walked : (b : Bool) →
      (b ≡ true → (j : ℕ) → j < t.jobs → get_or totals j 0 ≡ get_or t.times j 0) →
      (b ≡ false → (j : ℕ) × (j < t.jobs) × (get_or totals j 0 ≡ get_or t.times j 0 → ⊥)) →
      b ≡ every (whole_job (order_of t) (rows_of numbers)) (tabulate (job_count (order_of t)) suc)
  walked b same other =
      rw job-count (every-walked (whole_job (order_of t) (rows_of numbers)) t.jobs suc b
      (λ e j l. whole-job t (rows_of numbers) j (get_or totals j 0) l (added j (omega arith)) (same e j l))
      (λ e. let h = other e in
      (h.0, h.1, wrong-sum t (rows_of numbers) h.0 (get_or totals h.0 0) h.1 (added h.0 (omega arith)) h.2)))

pub returns : goal.returns
returns c =
    walked c.args.order c.args.rows.now c.job_lengths-totals.result c.requires.0 c.job_lengths-totals.ensures _
    (search (rules, ranges)) (search (rules, ranges))
