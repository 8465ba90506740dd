-- A struct made of an order stands for that order; the counts of an accepted one are within the limits.
use Rattle.std.specs.Prelude.{ℕ, ◌≤◌, ◌<◌, ◌≡◌, true, List, ℤ, pos, get_or}
use Rattle.std.proofs.Common.{◌∙◌, arith}
use Rattle.sums.specs.Lists.{All}
use Rattle.sums.specs.Places.{length-tabulate, get_d_tabulate, tabulate-cong, tabulate-get_or}
use Rattle.order.specs.Order.{Job, Order, no_job, processor_count, job_count}
use Rattle.sums.specs.Members.{All-at}
use Rattle.order.specs.Refusals.{most_makers, Accepted, due_in_range}
use Rattle.order.proofs.RefusalLaws.{accepted-iff, dues-in-range}
use Rattle.order.specs.Table.{order_of, table_of, job_at}
use Rattle.order.specs.declared.Order.{Order as OrderTable}

-- an order, and a job, are given by their parts
pub same-order : (ms ns : List ℕ) (js ks : List Job) → ms ≡ ns → js ≡ ks →
    ◌≡◌ {A = Order} (record { memories = ms; jobs = js }) (record { memories = ns; jobs = ks })
same-order ms ns js ks p q = cc

pub same-job : (t u : ℕ) (d e : ℤ) (n m a b : ℕ) → t ≡ u → d ≡ e → n ≡ m → a ≡ b →
    ◌≡◌ {A = Job} (record { time = t; due = d; need = n; maker = a }) (record { time = u; due = e; need = m; maker = b })
same-job t u d e n m a b p q r s = cc

-- an order whose counts are within the limits is that of its struct
pub table_of-order_of : (o : Order) → processor_count o ≤ 16 → job_count o ≤ 48 → order_of (table_of o) ≡ o
unfolding table_of
table_of-order_of o few-processors few-jobs =
    same-order _ _ _ _
    (tabulate-cong (processor_count o) _ (λ i. get_or o.memories i 0)
    (λ i l. get_d_tabulate 16 (λ i. get_or o.memories i 0) 0 i (omega arith))
    ∙ tabulate-get_or o.memories 0)
    (tabulate-cong (job_count o) _ (λ j. get_or o.jobs j no_job)
    (λ j l.
    same-job _ _ _ _ _ _ _ _
    (get_d_tabulate 48 (λ j. (get_or o.jobs j no_job).time) _ j (omega arith))
    (get_d_tabulate 48 (λ j. (get_or o.jobs j no_job).due) _ j (omega arith))
    (get_d_tabulate 48 (λ j. (get_or o.jobs j no_job).need) _ j (omega arith))
    (get_d_tabulate 48 (λ j. (get_or o.jobs j no_job).maker) _ j (omega arith)))
    ∙ tabulate-get_or o.jobs no_job)

-- its order has the struct's counts
module _ (t : OrderTable) where
  pub job-count : job_count (order_of t) ≡ t.jobs
  job-count = length-tabulate t.jobs (job_at t)

  pub processor-count : processor_count (order_of t) ≡ t.processors
  processor-count = length-tabulate t.processors (λ i. get_or t.memories i 0)

-- what is known of the struct of an accepted order: its counts, and the numbers at each place
module _ (t : OrderTable) (a : Accepted (order_of t)) where
  pub few-jobs : t.jobs ≤ 48
  few-jobs = omega (arith, ((accepted-iff (order_of t)).0 a).few-jobs, job-count t)

  pub few-processors : t.processors ≤ 16
  few-processors = omega (arith, ((accepted-iff (order_of t)).0 a).few-processors, processor-count t)

  -- what holds of each job holds of the one at a place
  pub job-at : (P : Job → Type 0) → All P (order_of t).jobs → (j : ℕ) → j < t.jobs → P (job_at t j)
  job-at P h j l =
      rw (get_d_tabulate t.jobs (job_at t) no_job j l) at (All-at P (order_of t).jobs no_job h j (rw length-tabulate l))

  pub due-in-range-at : (j : ℕ) → j < t.jobs → due_in_range (get_or t.dues j (pos 0)) ≡ true
  due-in-range-at =
      job-at (λ (job : Job). due_in_range job.due ≡ true) (dues-in-range (order_of t) ((accepted-iff (order_of t)).0 a))

  pub time-in-range-at : (j : ℕ) → j < t.jobs → (1 ≤ get_or t.times j 0) × (get_or t.times j 0 ≤ 100000)
  time-in-range-at = job-at _ ((accepted-iff (order_of t)).0 a).times

  pub maker-in-range-at : (j : ℕ) → j < t.jobs → (1 ≤ get_or t.makers j 0) × (get_or t.makers j 0 ≤ most_makers)
  maker-in-range-at = job-at _ ((accepted-iff (order_of t)).0 a).makers
