-- The table of a struct, from its parts; and the numbers of an accepted order's table are in range.
use Rattle.std.specs.Prelude.{ℕ, zero, suc, ◌≤◌, ◌<◌, ◌≡◌, List, pos, get_or}
use Rattle.std.proofs.Common.{sym, ap, ◌∙◌}
use native.Mathlib.Omega.{arith}
use Rattle.sums.specs.Sum.{sum-cong}
use Rattle.sums.specs.Lists.{nth}
use Rattle.sums.specs.Members.{All-nth, nth_in}
use Rattle.sums.specs.Places.{length-tabulate, get_d_tabulate}
use Rattle.order.specs.Order.{Order, Job, Numbers, processor_count, job_count, job_of, memory_of, no_job}
use Rattle.order.specs.Sorted.{processor_order, job_order}
use Rattle.order.specs.Class.{class_for, class_of, processors_in, processors_to}
use Rattle.order.proofs.RefusalLaws.{Acceptable, dues-in-range}
use Rattle.order.proofs.StructLaws.{job-count, processor-count}
use Rattle.order.specs.Table.{order_of, job_at, padded}
use Rattle.order.specs.declared.Order.{Order as OrderTable}
use Rattle.order.specs.Lead.{lead, last_due}
use Rattle.sums.specs.Arrays.{RowOf}
use Rattle.table.specs.ByClass.{held-by-class}
use Rattle.table.specs.ClassRows.{few-listed}
use Rattle.table.specs.Held.{number_at, beside}
use Rattle.table.specs.HeldLaws.{held-once, padded-beside, beside-once}
use Rattle.table.specs.Passed.{listing}
use Rattle.table.specs.Tabled.{Fine, GridOf, Tabled}
use Rattle.table.specs.declared.Listing.{Listing}
use Rattle.table.specs.declared.Members.{Members}
use Rattle.table.specs.declared.Table.{Table}
use Rattle.order.proofs.ClassLaws.{class-at-most, class-some, processors_in-some, processors_in-few, processors_to-few}
use Rattle.order.proofs.LeadLaws.{lead-most}
use Rattle.table.specs.GridLaws.{grid-small}

-- the table of a struct, from its parts
pub tabled-made : (t : OrderTable) → t.jobs ≤ 48 → t.processors ≤ 16 → (l : Listing) (g : Members)
    (ls ts' cs' ls' ks ms ns : List ℕ) → l ≡ listing (order_of t) → GridOf last_due (order_of t) g →
    RowOf (λ j. lead last_due (get_or t.dues j (pos 0))) t.jobs ls → RowOf (λ k. nth t.times (beside ns k) 0) t.jobs ts' →
    RowOf (λ k. class_of (order_of t) (job_of (order_of t) (number_at (order_of t) k))) t.jobs cs' →
    RowOf (λ k. nth ls (beside ns k) 0) t.jobs ls' →
    RowOf (λ i. class_for (order_of t) (get_or t.memories i 0)) t.processors ks →
    ms ≡ padded 16 (processor_order (order_of t)) → ns ≡ padded 48 (job_order (order_of t)) →
    Tabled last_due (order_of t) (record {
      n = t.jobs;
      m = t.processors;
      s = l.count;
      q = g.count;
      times = ts';
      classes = cs';
      leads = ls';
      kinds = ks;
      procs = l.procs;
      grid = g.at;
      by_memory = ms;
      by_need = ns;
    })
tabled-made t few-jobs few-processors l g ls ts' cs' ls' ks ms ns c d hl ht' hc' hl' hk hm hn =
    record {
      jobs = sym (job-count t);
      processors = sym (processor-count t);
      few-jobs = few-jobs;
      few-processors = few-processors;
      few-classes = few-listed (order_of t) (omega (arith, processor-count t)) l c;
      classed = ap (λ (l : Listing). l.count) c;
      each-once = held-once (order_of t);
      times = held t.times ts' (λ (job : Job). job.time) ht' (λ j l. ap (λ (job : Job). job.time) (sym (job j l)));
      leads = held ls ls' (λ (job : Job). lead last_due job.due) hl'
          (λ j l. hl.at j (few l) ∙ ap (λ (job : Job). lead last_due job.due) (sym (job j l)));
      classes-of = λ k l. hc'.at k (few l);
      kinds = λ i l. hk.at i (fewer l) ∙ ap (class_for (order_of t)) (sym (memory i l));
      procs = λ i b. ap (λ (l : Listing). get_or l.procs i 0) c
          ∙ get_d_tabulate 16 (λ i. processors_in (order_of t) (suc i)) 0 i b;
      grid = d;
      by-memory = hm;
      by-need = hn;
    }
  where
    few : {j : ℕ} → j < job_count (order_of t) → j < t.jobs
    few l = rw length-tabulate at l

    fewer : {i : ℕ} → i < processor_count (order_of t) → i < t.processors
    fewer l = rw length-tabulate at l

    memory : (i : ℕ) → i < processor_count (order_of t) → memory_of (order_of t) (suc i) ≡ get_or t.memories i 0
    memory i l = get_d_tabulate t.processors (λ i. get_or t.memories i 0) 0 i (fewer l)

    job : (j : ℕ) → j < job_count (order_of t) → job_of (order_of t) (suc j) ≡ job_at t j
    job j l = get_d_tabulate t.jobs (job_at t) no_job j (few l)

    number : (k : ℕ) → k < job_count (order_of t) → beside ns k ≡ number_at (order_of t) k
    number = padded-beside (order_of t) (omega (arith, job-count t)) ns hn

    -- what each job has, at the places
    held : (xs xs' : List ℕ) (value : Job → ℕ) → RowOf (λ k. nth xs (beside ns k) 0) t.jobs xs' →
        ((j : ℕ) → j < job_count (order_of t) → get_or xs j 0 ≡ value (job_of (order_of t) (suc j))) →
        (k : ℕ) → k < job_count (order_of t) → get_or xs' k 0 ≡ value (job_of (order_of t) (number_at (order_of t) k))
    held xs xs' value h f k l =
        h.at k (few l) ∙ ap (λ (x : ℕ). nth xs x 0) (number k l)
        ∙ go (number_at (order_of t) k) ((held-once (order_of t)).are k l)
      where
        go : (x : ℕ) → Numbers (job_count (order_of t)) x → nth xs x 0 ≡ value (job_of (order_of t) x)
        go zero b = absurd (omega arith)
        go (suc j) b = f j b.1

module _ (o : Order) (t : Table) (m : Tabled last_due o t) where
  pub fine_of : Acceptable o → Fine t
  unfolding processors_to class_of
  fine_of a =
      record {
        jobs = omega (arith, m.jobs, a.few-jobs);
        classed = m.few-classes;
        some-due = m.grid.some;
        dues = m.grid.few;
        numbers = beside-once o t m;
        classes = λ k l. (
          omega (arith, m.classes-of k (at l), classed (number_at o k) (named l)),
          omega (arith, m.classes-of k (at l), class-at-most o (job_of o (number_at o k)).need, m.classed, m.few-classes),
        );
        by-class = (held-by-class o t m).by-class;
        times = λ k l. omega (
          arith,
          m.times k (at l),
          (All-nth _ o.jobs no_job a.times (number_at o k) (named l).0 (named l).1).1,
        );
        leads = λ k l. omega (
          arith,
          m.leads k (at l),
          lead-most (job_of o (number_at o k)).due
              (All-nth _ o.jobs no_job (dues-in-range o a) (number_at o k) (named l).0 (named l).1),
        );
        grid = grid-small o a _ m.grid;
        procs = λ i l. omega (arith, m.procs i l, processors_in-few o (suc i), a.few-processors);
        some-proc = λ i l. omega (
          arith,
          m.procs i (omega (arith, m.few-classes)),
          processors_in-some o i (omega (arith, m.classed)),
        );
        procs-all = omega (arith, sum-cong 16 _ _ m.procs, processors_to-few o 16, a.few-processors);
      }
    where
      at : {k : ℕ} → k < t.n → k < job_count o
      at l = omega (arith, m.jobs)

      named : {k : ℕ} → k < t.n → Numbers (job_count o) (number_at o k)
      named {k} l = (held-once o).are k (at l)

      -- a job that fits a processor has a class
      classed : (j : ℕ) → Numbers (job_count o) j → 1 ≤ class_of o (job_of o j)
      classed j b =
          let f = All-nth _ o.jobs no_job a.fit j b.0 b.1 in
          class-some o (job_of o j).need (memory_of o f.0) (nth_in o.memories 0 f.0 f.1.0 f.1.1) f.2
