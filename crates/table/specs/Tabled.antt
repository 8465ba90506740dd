-- What a table says of an order, and that its numbers are in range. Due times stand as leads, counted back from a minute `top` that no
-- due time exceeds: 1,000,000 for an accepted order.
use Rattle.std.specs.Prelude.{ℕ, suc, ◌<◌, ◌≤◌, ◌≡◌, length, get_or, ℤ}
use Rattle.sums.specs.Sum.{sum}
use Rattle.sums.specs.Lists.{down_to}
use Rattle.order.specs.Order.{Order, processor_count, job_count, job_of, memory_of}
use Rattle.order.specs.Sorted.{due_times, processor_order, job_order}
use Rattle.order.specs.Class.{classes, class_for, class_of, processors_in}
use Rattle.order.specs.Table.{padded}
use Rattle.order.specs.Lead.{lead, due_at}
use Rattle.table.specs.Held.{number_at, EachOnce, beside}
use Rattle.table.specs.declared.Members.{Members}
use Rattle.table.specs.declared.Table.{Table}

-- the leads of an order's distinct due times, by rising due time
pub record GridOf (top : ℤ) (o : Order) (m : Members) : Type 0 where
  pub some : 0 < m.count
  pub few : m.count ≤ 48
  pub dues : due_times o ≡ down_to (λ d. due_at top (get_or m.at d 0)) m.count
  pub beyond : (i : ℕ) → m.count ≤ i → get_or m.at i 0 ≡ 0

-- a table is that of an order, with the job of number `number k` at place k; the jobs' numbers by falling need stand in `by_need`
pub record TabledBy (number : ℕ → ℕ) (top : ℤ) (o : Order) (t : Table) : Type 0 where
  pub jobs : t.n ≡ job_count o
  pub processors : t.m ≡ processor_count o
  pub few-jobs : t.n ≤ 48
  pub few-processors : t.m ≤ 16
  pub few-classes : t.s ≤ 16
  pub classed : t.s ≡ length (classes o)
  pub each-once : EachOnce (job_count o) number
  pub times : (k : ℕ) → k < job_count o → get_or t.times k 0 ≡ (job_of o (number k)).time
  pub leads : (k : ℕ) → k < job_count o → get_or t.leads k 0 ≡ lead top (job_of o (number k)).due
  pub classes-of : (k : ℕ) → k < job_count o → get_or t.classes k 0 ≡ class_of o (job_of o (number k))
  pub kinds : (i : ℕ) → i < processor_count o → get_or t.kinds i 0 ≡ class_for o (memory_of o (suc i))
  pub procs : (i : ℕ) → i < 16 → get_or t.procs i 0 ≡ processors_in o (suc i)
  pub grid : GridOf top o (record { count = t.q; at = t.grid })
  pub by-memory : t.by_memory ≡ padded 16 (processor_order o)
  pub by-need : t.by_need ≡ padded 48 (job_order o)

-- §8's table: the jobs lie by falling need, ties in input order, so that `by_need` has the number beside each
abbrev pub Tabled : ℤ → Order → Table → Type 0
Tabled top o t = TabledBy (number_at o) top o t

-- the input-order table: job j + 1 lies at place j
abbrev pub InInputOrder : ℤ → Order → Table → Type 0
InInputOrder top o t = TabledBy suc top o t

-- the numbers of a table are those of an accepted order
pub record Fine (t : Table) : Type 0 where
  pub jobs : t.n ≤ 48
  pub classed : t.s ≤ 16
  pub some-due : 0 < t.q
  pub dues : t.q ≤ 48
  pub numbers : EachOnce t.n (beside t.by_need)
  pub classes : (k : ℕ) → k < t.n → (1 ≤ get_or t.classes k 0) × (get_or t.classes k 0 ≤ 16)
  pub by-class : (i k : ℕ) → i < k → k < t.n → get_or t.classes i 0 ≤ get_or t.classes k 0
  pub times : (j : ℕ) → j < t.n → get_or t.times j 0 ≤ 100000
  pub leads : (j : ℕ) → j < t.n → get_or t.leads j 0 ≤ 2000000
  pub grid : (d : ℕ) → get_or t.grid d 0 ≤ 2000000
  pub some-proc : (i : ℕ) → i < t.s → 0 < get_or t.procs i 0
  pub procs : (i : ℕ) → i < 16 → get_or t.procs i 0 ≤ 16
  pub procs-all : sum 16 (λ i. get_or t.procs i 0) ≤ 16
