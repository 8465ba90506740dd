use Prim.Native.Nat.{ℕ}
use mathlib.Core.Path.{◌≡◌, sym, ap, ◌∙◌}
use mathlib.Core.List.{List, [], ◌∷◌, ◌++◌}
use lib.ListN.{get_or}
use Rattle.sums.specs.Lists.{tabulate}
use Rattle.sums.specs.Places.{length-tabulate, tabulate-more}
use Rattle.order.specs.Order.{memory_of, processor_count}
use Rattle.order.specs.Sorted.{processor_order}
use Rattle.order.proofs.StructLaws.{processor-count}
use Rattle.order.specs.Table.{order_of}
use Rattle.order.specs.declared.Order.{Order}
use Rattle.table.specs.OneMoreLaws.{last-small}
use Rattle.table.specs.Passed.{listing, processors_of, passed, last_class, with_class}
use Rattle.table.specs.PassedLaws.{none_passed, passed-least, all-passed, passed-length, next-number, next-memory}
use Rattle.table.specs.declared.Listing.{Listing}
use native.Mathlib.Omega.{arith}
use Rattle.table.proofs.passing.classes_of.Goals as goal

-- the memory of the processor passed after i others
abbrev memory : Order → ℕ → ℕ
memory t i = memory_of (order_of t) (get_or (processor_order (order_of t)) i 0)

pub loop-number-init : goal.loop-number-init
loop-number-init c = none_passed

pub overflow_sub-number : goal.overflow_sub-number
overflow_sub-number c =
    omega (arith, passed-length c.args.order c.requires.0 c.args.by_memory c.requires.1, next-number c.args.order c.requires.0 c.args.by_memory c.requires.1 c.loop-number.number-index (omega (arith, passed-length c.args.order c.requires.0 c.args.by_memory c.requires.1)))

pub bounds-order-number : goal.bounds-order-number
bounds-order-number c =
    omega (arith, passed-length c.args.order c.requires.0 c.args.by_memory c.requires.1, next-number c.args.order c.requires.0 c.args.by_memory c.requires.1 c.loop-number.number-index (omega (arith, passed-length c.args.order c.requires.0 c.args.by_memory c.requires.1)))

pub with_processor-last-requires : goal.with_processor-last-requires
with_processor-last-requires c =
    let l = c.loop-number in
    rw l.invariant.0 (last-small _ (omega (arith, c.requires.0, length-tabulate l.number-index (memory c.args.order), passed-length c.args.order c.requires.0 c.args.by_memory c.requires.1)))

pub loop-number-preserved : goal.loop-number-preserved
loop-number-preserved c =
    let l = c.loop-number in
    let o = order_of c.args.order in
    let f = memory c.args.order in
    let e = next-memory c.args.order c.requires.0 c.args.by_memory c.requires.1 l.number-index (omega (arith, passed-length c.args.order c.requires.0 c.args.by_memory c.requires.1)) in
    let so_far = tabulate l.number-index f in
    let more = c.with_processor-last.ensures.one_more so_far (rw e (passed-least o l.number-index (omega (arith, passed-length c.args.order c.requires.0 c.args.by_memory c.requires.1, processor-count c.args.order))))
    l.invariant.0 in
    let next = ap (λ (m : ℕ). so_far ++ (m ∷ [])) e ∙ sym (tabulate-more l.number-index f) in (
      more.0 ∙ ap (λ (ms : List ℕ). last_class (processors_of ms)) next,
      ap (λ (found : Listing). with_class found c.with_processor-last.result) l.invariant.1 ∙ more.1
          ∙ ap (λ (ms : List ℕ). listing (processors_of ms)) next,
    )

pub returns : goal.returns
returns c =
    let e : c.loop-number.number-index ≡ processor_count (order_of c.args.order) = omega (arith, passed-length c.args.order c.requires.0 c.args.by_memory c.requires.1, processor-count c.args.order) in
    c.loop-number.invariant.1 ∙ ap (λ (k : ℕ). listing (passed (order_of c.args.order) k)) e ∙ all-passed (order_of c.args.order)
