-- Document 02, §8, "Jobs held by class", of the table: it holds the jobs of the order, "by falling need, ties in input order, each job once,
-- with the input number kept beside each".
use Rattle.std.specs.Prelude.{ℕ, suc, ◌≤◌, ◌<◌, ◌≡◌, refl, List, ℤ, length, get_or}
use Rattle.std.proofs.Common.{sym, ap, ◌∙◌, arith}
use Rattle.sums.specs.Lists.{tabulate}
use Rattle.sums.specs.Pairs.{Pairwise-at}
use Rattle.sums.specs.Places.{get_d_tabulate}
use Rattle.sums.specs.Rearranged.{Rearranged}
use Rattle.sums.specs.Sum.{sum, sum-cong}
use Rattle.sums.specs.Totals.{total-tabulate}
use Rattle.order.specs.Order.{Order, job_count, job_of}
use Rattle.order.specs.OrderingLaws.{jobs-ordered}
use Rattle.order.specs.Sorted.{job_order}
use Rattle.order.specs.Class.{class_of}
use Rattle.order.proofs.ClassLaws.{class-antitone}
use Rattle.order.specs.Lead.{lead}
use Rattle.table.specs.Held.{number_at, EachOnce, beside, by_number}
use Rattle.table.specs.HeldLaws.{input-once, beside-is, beside-once, held-read}
use Rattle.table.specs.Tabled.{TabledBy, Tabled, InInputOrder}
use Rattle.table.specs.declared.Table.{Table}

-- what a table holds of a job, with the job's input number
pub record Entry : Type 0 where
  pub number : ℕ
  pub time : ℕ
  pub class : ℕ
  pub lead : ℕ

-- at place k, where the numbers stand so
abbrev pub entry_at : Table → (ℕ → ℕ) → ℕ → Entry
entry_at t number k =
    record { number = number k; time = get_or t.times k 0; class = get_or t.classes k 0; lead = get_or t.leads k 0 }

-- the jobs of §8's table, each with the number beside it; and those of the input-order table
abbrev pub held_jobs : Table → List Entry
held_jobs t = tabulate t.n (entry_at t (beside t.by_need))

abbrev pub input_jobs : Table → List Entry
input_jobs t = tabulate t.n (entry_at t suc)

-- wherever they lie, the jobs of a table are the order's, and so a sum over them is one over the jobs in input order
module _ {top : ℤ} {number : ℕ → ℕ} (o : Order) (t : Table) (m : TabledBy number top o t) (f : Entry → ℕ) where
  abbrev entry_of : ℕ → Entry
  entry_of j = record { number = j; time = (job_of o j).time; class = class_of o (job_of o j); lead = lead top (job_of o j).due }

  entry-is : (number' : ℕ → ℕ) → ((k : ℕ) → k < job_count o → number' k ≡ number k) → (k : ℕ) → k < job_count o →
      f (entry_at t number' k) ≡ f (entry_of (number k))
  entry-is number' h k l = rw (h k l, m.times k l, m.classes-of k l, m.leads k l) refl

  entries-sum : (number' : ℕ → ℕ) → ((k : ℕ) → k < job_count o → number' k ≡ number k) →
      sum t.n (λ k. f (entry_at t number' k)) ≡ sum (job_count o) (λ j. f (entry_of (suc j)))
  entries-sum number' h =
      ap (λ (n : ℕ). sum n (λ k. f (entry_at t number' k))) m.jobs
      ∙ sum-cong (job_count o) _ _ (entry-is number' h) ∙ m.each-once.sums (λ j. f (entry_of j))

-- the held table is a rearrangement of the input-order table
pub held-rearranged : {top : ℤ} (o : Order) (t u : Table) → Tabled top o t → InInputOrder top o u →
    Rearranged (held_jobs t) (input_jobs u)
held-rearranged o t u m i f =
    total-tabulate t.n _ f ∙ entries-sum o t m f (beside t.by_need) (beside-is o t m)
    ∙ sym (entries-sum o u i f suc (λ k l. ap suc (omega arith))) ∙ sym (total-tabulate u.n _ f)

-- each order with a held table has an input-order table
abbrev pub in_input_order : Table → Table
in_input_order t =
    record {
      n = t.n;
      m = t.m;
      s = t.s;
      q = t.q;
      times = tabulate t.n (by_number t).time;
      classes = tabulate t.n (by_number t).class;
      leads = tabulate t.n (by_number t).lead;
      kinds = t.kinds;
      procs = t.procs;
      grid = t.grid;
      by_memory = t.by_memory;
      by_need = t.by_need;
    }

pub in-input-order : {top : ℤ} (o : Order) (t : Table) → Tabled top o t → InInputOrder top o (in_input_order t)
in-input-order o t m =
    let r = held-read o t m in
    record {
      jobs = m.jobs;
      processors = m.processors;
      few-jobs = m.few-jobs;
      few-processors = m.few-processors;
      few-classes = m.few-classes;
      classed = m.classed;
      each-once = input-once (job_count o);
      times = λ j l. get_d_tabulate t.n (by_number t).time 0 j (omega (arith, m.jobs)) ∙ r.times j l;
      leads = λ j l. get_d_tabulate t.n (by_number t).lead 0 j (omega (arith, m.jobs)) ∙ r.leads j l;
      classes-of = λ j l. get_d_tabulate t.n (by_number t).class 0 j (omega (arith, m.jobs)) ∙ r.classes j l;
      kinds = m.kinds;
      procs = m.procs;
      grid = m.grid;
      by-memory = m.by-memory;
      by-need = m.by-need;
    }

-- how the jobs lie in the held table
pub record HeldByClass (o : Order) (t : Table) : Type 0 where
  -- "each job once, with the input number kept beside each"
  pub each-once : EachOnce t.n (beside t.by_need)
  -- "by falling need"
  pub falls : (i k : ℕ) → i < k → k < t.n → (job_of o (beside t.by_need k)).need ≤ (job_of o (beside t.by_need i)).need
  -- "ties in input order"
  pub ties : (i k : ℕ) → i < k → k < t.n → (job_of o (beside t.by_need i)).need ≡ (job_of o (beside t.by_need k)).need →
      beside t.by_need i < beside t.by_need k
  -- and so by class: from place to place the class never falls, and the jobs of a class lie together
  pub by-class : (i k : ℕ) → i < k → k < t.n → get_or t.classes i 0 ≤ get_or t.classes k 0

pub held-by-class : {top : ℤ} (o : Order) (t : Table) → Tabled top o t → HeldByClass o t
unfolding class_of
held-by-class o t m =
    record {
      each-once = beside-once o t m;
      falls = λ i k l b. rw (is k b, is i (omega arith)) (fall i k l b);
      ties = λ i k l b. rw (is k b, is i (omega arith)) (Pairwise-at _ (job_order o) 0 (jobs-ordered o).ties i k l (inside b));
      by-class = λ i k l b.
          rw (m.classes-of i (at (omega arith)), m.classes-of k (at b)) (class-antitone o _ _ (fall i k l b));
    }
  where
    at : {k : ℕ} → k < t.n → k < job_count o
    at l = omega (arith, m.jobs)

    inside : {k : ℕ} → k < t.n → k < length (job_order o)
    inside l = omega (arith, m.jobs, (jobs-ordered o).count)

    is : (k : ℕ) → k < t.n → beside t.by_need k ≡ number_at o k
    is k l = beside-is o t m k (at l)

    fall : (i k : ℕ) → i < k → k < t.n → (job_of o (number_at o k)).need ≤ (job_of o (number_at o i)).need
    fall i k l b = Pairwise-at _ (job_order o) 0 (jobs-ordered o).falls i k l (inside b)
