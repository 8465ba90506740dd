-- The plan laid out of an order's table is the order's layout in a frame with the same marks, where the same processors are open.
use Rattle.std.specs.Prelude.{ℕ, zero, suc, ◌≤◌, ◌<◌, ◌≡◌, refl, List, length, get_or, take, ℤ}
use Rattle.std.proofs.Common.{sym, ap, ◌∙◌, arith}
use Rattle.sums.specs.Kept.{keep_same}
use Rattle.sums.specs.Lists.{keep}
use Rattle.sums.specs.Members.{All-at, All-map}
use Rattle.sums.specs.Places.{get_d_tabulate, take-tabulate}
use Rattle.order.specs.Order.{Order, processor_count, job_count, Numbers}
use Rattle.order.specs.Sorted.{processor_order, job_order}
use Rattle.order.specs.OrderingLaws.{processors-ordered, jobs-ordered}
use Rattle.order.specs.Table.{padded}
use Rattle.plan.specs.Plan.{Row}
use Rattle.wrap.specs.Frame.{Frame, open_in, open_order, stretch_rows_in, in_turn, layout_in}
use Rattle.table.specs.Tabled.{TabledBy}
use Rattle.table.specs.declared.Table.{Table}
use Rattle.layout.specs.Laid.{Numbered}
use Rattle.layout.specs.Planned.{rows_in, laid_out}

-- an order stands at the first places of its array
take-padded : (size : ℕ) (xs : List ℕ) (n : ℕ) (ys : List ℕ) → length xs ≡ n → n ≤ size → ys ≡ padded size xs → take n ys ≡ xs
take-padded size xs n ys e h f = rw (f, sym e) (take-tabulate xs size 0 (omega arith))

module _ {top : ℤ} {number : ℕ → ℕ} (o : Order) (t : Table) (m : TabledBy number top o t) where
  pub first-processors : take t.m t.by_memory ≡ processor_order o
  first-processors =
      take-padded 16 (processor_order o) t.m t.by_memory ((processors-ordered o).count ∙ sym m.processors)
      m.few-processors m.by-memory

  pub first-jobs : take t.n t.by_need ≡ job_order o
  first-jobs =
      take-padded 48 (job_order o) t.n t.by_need ((jobs-ordered o).count ∙ sym m.jobs) m.few-jobs m.by-need

  -- and holds numbers
  pub processors-numbered : Numbered t.m t.by_memory
  processors-numbered =
      record {
        at = λ k l.
            let n : k < length (processor_order o) = omega (arith, (processors-ordered o).count, m.processors) in
            let e = All-at (Numbers (processor_count o)) (processor_order o) 0 (processors-ordered o).no_other k n in
            rw (m.by-memory, get_d_tabulate 16 (λ i. get_or (processor_order o) i 0) 0 k (omega (arith, m.few-processors)))
            (omega (arith, e.0), omega (arith, e.1, m.processors));
      }

  pub jobs-numbered : Numbered t.n t.by_need
  jobs-numbered =
      record {
        at = λ k l.
            let n : k < length (job_order o) = omega (arith, (jobs-ordered o).count, m.jobs) in
            let e = All-at (Numbers (job_count o)) (job_order o) 0 (jobs-ordered o).no_other k n in
            rw (m.by-need, get_d_tabulate 48 (λ i. get_or (job_order o) i 0) 0 k (omega (arith, m.few-jobs)))
            (omega (arith, e.0), omega (arith, e.1, m.jobs));
      }

-- two frames with the same marks, in which the same processors are open, have the same rows
turn-same : (rows rows' : ℕ → List Row) (n : ℕ) → ((s : ℕ) → s < n → rows s ≡ rows' s) → in_turn rows n ≡ in_turn rows' n
unfolding in_turn
turn-same rows rows' zero h = refl
turn-same rows rows' (suc n) h = rw (turn-same rows rows' n (λ s l. h s (omega arith)), h n (omega arith)) refl

pub laid-out-is : (o : Order) (f g : Frame) (a : ℕ → ℕ → ℕ) → g.stretches ≡ f.stretches →
    ((s : ℕ) → s ≤ f.stretches → g.mark s ≡ f.mark s) →
    ((s i : ℕ) → s < f.stretches → Numbers (processor_count o) i → open_in g s i ≡ open_in f s i) →
    laid_out (processor_order o) (job_order o) g a ≡ layout_in o f a
unfolding laid_out layout_in rows_in stretch_rows_in open_order
laid-out-is o f g a same marks opened =
    ap (λ (n : ℕ). in_turn (rows_in (processor_order o) (job_order o) g a) n) same
    ∙ turn-same _ _ f.stretches stretch
  where
    rows_same : (s : ℕ) → g.mark s ≡ f.mark s → g.mark (suc s) ≡ f.mark (suc s) →
        keep (open_in g s) (processor_order o) ≡ keep (open_in f s) (processor_order o) →
        rows_in (processor_order o) (job_order o) g a s ≡ stretch_rows_in o f a s
    rows_same s e f' k = rw (e, f', k) refl

    stretch : (s : ℕ) → s < f.stretches → rows_in (processor_order o) (job_order o) g a s ≡ stretch_rows_in o f a s
    stretch s l = rows_same s (marks s (omega arith)) (marks (suc s) l)
        (keep_same (open_in g s) (open_in f s) (processor_order o)
        (All-map (Numbers (processor_count o)) _ (processor_order o) (λ i h. opened s i l h) (processors-ordered o).no_other))
