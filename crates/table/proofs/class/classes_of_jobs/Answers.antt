use borrow.Author.Rules.{rules}
use native.Mathlib.Omega.{arith}
use Prim.Native.Nat.{ℕ}
use mathlib.Core.Path.{◌≡◌, ap, ◌∙◌}
use lib.ListN.{get_or}
use Rattle.sums.specs.Arrays.{fill-at}
use Rattle.sums.specs.Lists.{tabulate}
use Rattle.order.specs.Order.{job_of}
use Rattle.order.specs.Class.{last_that_suffices, class_of}
use Rattle.order.proofs.RefusalLaws.{accepted-iff}
use Rattle.order.proofs.StructLaws.{few-jobs}
use Rattle.order.specs.Table.{order_of}
use Rattle.table.specs.ClassRows.{few-listed, class-of-is}
use Rattle.table.specs.Held.{number_at}
use Rattle.table.proofs.NeedsFall.{job-number, job-need, class-listed, class-fits}
use Rattle.table.proofs.class.classes_of_jobs.Goals as goal

pub bounds-by_need-k : goal.bounds-by_need-k
bounds-by_need-k c = omega (arith, (few-jobs c.args.order c.requires.0))

pub overflow_sub-need : goal.overflow_sub-need
overflow_sub-need c = omega (arith, (job-number c.args.order (few-jobs c.args.order c.requires.0) c.args.by_need c.requires.1 c.loop-k.k (omega arith)))

pub bounds-order-by_need : goal.bounds-order-by_need
bounds-order-by_need c = omega (arith, (job-number c.args.order (few-jobs c.args.order c.requires.0) c.args.by_need c.requires.1 c.loop-k.k (omega arith)), (few-jobs c.args.order c.requires.0))

pub class_for-class-requires : goal.class_for-class-requires
class_for-class-requires c =
    let l = c.loop-k in
    let o = c.args.order in (
      few-listed (order_of o) ((accepted-iff (order_of o)).0 c.requires.0).few-processors c.args.classes c.requires.2,
      l.invariant.2,
      λ i h. omega (
        arith,
        job-need o (few-jobs o c.requires.0) c.args.by_need c.requires.1 l.k (omega arith),
        l.invariant.3 i l.k h (omega arith) (omega arith),
      ),
    )

pub bounds-r-k : goal.bounds-r-k
bounds-r-k c = omega (arith, (few-jobs c.args.order c.requires.0))

pub loop-k-preserved : goal.loop-k-preserved
loop-k-preserved c =
    let l = c.loop-k in
    let o = c.args.order in
    let accept = (accepted-iff (order_of o)).0 c.requires.0 in
    let need = job-need o (few-jobs o c.requires.0) c.args.by_need c.requires.1 l.k (omega arith) in
    let e = c.class_for-class.ensures ∙ ap (λ (x : ℕ). last_that_suffices x (tabulate c.args.classes.count (λ i. get_or c.args.classes.memories i 0))) need
    ∙ class-of-is (order_of o) accept.few-processors c.args.classes c.requires.2 (job_of (order_of o) (number_at (order_of o) l.k)) in (
      search rules,
      record {
        at = fill-at (λ (k v : ℕ). v ≡ class_of (order_of o) (job_of (order_of o) (number_at (order_of o) k))) 0 l.r l.k
            c.class_for-class.result (omega (arith, (few-jobs c.args.order c.requires.0), l.invariant.0)) l.invariant.1.at e;
      },
      class-listed o accept.few-processors c.args.classes c.requires.2 l.k c.class_for-class.result e,
      λ i j h q b. class-fits o accept.few-processors c.args.classes c.requires.2 l.k c.class_for-class.result e i j h
          (omega arith) (omega arith),
    )
