-- The pass over the sorted list: it begins with no class, each processor passed has no more memory than those before it, and with all
-- of them passed the listing is the order's: "the former one for every order".
use Rattle.std.specs.Prelude.{ℕ, zero, suc, ◌-◌, ◌≤◌, ◌<◌, ◌≡◌, refl, List, [], eqb, length, get_or, take, replicate}
use Rattle.std.proofs.Common.{sym, ap, ◌∙◌, arith, get_or-take, length-take-le}
use Rattle.sums.specs.Lists.{All, total, only, tabulate}
use Rattle.sums.specs.Members.{All-at, All-from}
use Rattle.sums.specs.Pairs.{Pairwise-at}
use Rattle.sums.specs.Places.{length-tabulate, get_d_tabulate, tabulate-cong, tabulate-get_or}
use Rattle.sums.specs.Rearranged.{Rearranged, rearranged-in}
use Rattle.order.specs.Order.{Order, Numbers, processor_count, memory_of}
use Rattle.order.specs.Sorted.{distinct, processor_order}
use Rattle.order.specs.OrderingLaws.{processors-ordered}
use Rattle.order.specs.Class.{classes, last_that_suffices, class_for, memory_of_class, processors_in}
use Rattle.order.proofs.StructLaws.{processor-count}
use Rattle.order.specs.Table.{order_of, padded}
use Rattle.order.specs.declared.Order.{Order as OrderTable}
use Rattle.table.specs.FallingLaws.{distinct-same, ordered-places}
use Rattle.table.specs.Passed.{listing, processors_of, passed, last_class}
use Rattle.table.specs.declared.LastClass.{LastClass}
use Rattle.table.specs.declared.Listing.{Listing}

-- the order in which processors stand does not matter
pub listing-same : (o o' : Order) → Rearranged o.memories o'.memories → listing o ≡ listing o'
unfolding classes class_for processors_in
listing-same o o' same =
    let e : classes o ≡ classes o' = distinct-same o.memories o'.memories (rearranged-in o'.memories o.memories same)
    (rearranged-in o.memories o'.memories (λ f. sym (same f))) in
    cc (
      ap length e,
      ap (padded 16) e,
      tabulate-cong 16 (λ i. processors_in o (suc i)) (λ i. processors_in o' (suc i)) (λ i l.
          same (λ m. only (eqb (class_for o m) (suc i)) 1)
          ∙ ap (λ (cs : List ℕ). total o'.memories (λ m. only (eqb (last_that_suffices m cs) (suc i)) 1)) e),
    )

-- before the first processor there is no class
pub none_passed :
    (◌≡◌ {A = LastClass} (record { number = 0; memory = 0; procs = 0 }) (last_class (processors_of [])))
    × (◌≡◌ {A = Listing} (record { count = 0; memories = replicate 16 0; procs = replicate 16 0 }) (listing (processors_of [])))
unfolding classes distinct memory_of_class processors_in
none_passed = (refl, refl)

module _ (o : Order) where
  abbrev order : List ℕ
  order = processor_order o

  abbrev memory : ℕ → ℕ
  memory i = memory_of o (get_or order i 0)

  -- none has more memory than one before it
  pub passed-least : (k : ℕ) → k < processor_count o → All (λ m. memory k ≤ m) (passed o k).memories
  passed-least k l =
      All-from _ (tabulate k memory) 0
      (λ i h. let b : i < k = rw length-tabulate at h in
      rw (get_d_tabulate k memory 0 i b)
      (Pairwise-at _ order 0 (processors-ordered o).falls i k b (omega (arith, (processors-ordered o).count))))

  -- with all passed, the listing is the order's
  pub all-passed : listing (passed o (processor_count o)) ≡ listing o
  all-passed =
      listing-same (passed o (processor_count o)) o
      (λ f. ordered-places (memory_of o) (processor_count o) order (processors-ordered o) f
      ∙ ap (λ (ms : List ℕ). total ms f) (tabulate-get_or o.memories 0))

-- the processors passed, and the memory of the next, where an array has the sorted list
module _ (t : OrderTable) (few : t.processors ≤ 16) (at : List ℕ) (e : at ≡ padded 16 (processor_order (order_of t))) where
  pub passed-length : length (take t.processors at) ≡ t.processors
  passed-length = rw e (length-take-le t.processors (padded 16 (processor_order (order_of t)))
      (omega (arith, length-tabulate 16 (λ i. get_or (processor_order (order_of t)) i 0))))

  number-is : (k : ℕ) → k < t.processors → get_or (take t.processors at) k 0 ≡ get_or (processor_order (order_of t)) k 0
  number-is k l =
      get_or-take t.processors at k 0 l
      ∙ ap (λ (xs : List ℕ). get_or xs k 0) e ∙ get_d_tabulate 16 (λ i. get_or (processor_order (order_of t)) i 0) 0 k (omega arith)

  pub next-number : (k : ℕ) → k < t.processors → Numbers t.processors (get_or (take t.processors at) k 0)
  next-number k l =
      let o = processors-ordered (order_of t) in
      let n = processor-count t in
      rw (number-is k l)
      (let b = All-at _ (processor_order (order_of t)) 0 o.no_other k (omega (arith, n, o.count)) in (b.0, omega (arith, n, b.1)))

  pub next-memory : (k : ℕ) → k < t.processors →
      get_or t.memories (get_or (take t.processors at) k 0 - 1) 0 ≡ memory_of (order_of t) (get_or (processor_order (order_of t)) k 0)
  next-memory k l =
      go (get_or (take t.processors at) k 0) (next-number k l) ∙ ap (memory_of (order_of t)) (number-is k l)
    where
      go : (x : ℕ) → Numbers t.processors x → get_or t.memories (x - 1) 0 ≡ memory_of (order_of t) x
      go zero b = absurd (omega arith)
      go (suc x) b =
          ap (λ (i : ℕ). get_or t.memories i 0) (omega arith)
          ∙ sym (get_d_tabulate t.processors (λ i. get_or t.memories i 0) 0 x (omega arith))
