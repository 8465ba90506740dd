use Rattle.std.proofs.Common.{rules, arith, ℕ, ◌≡◌, ◌∙◌, get_or}
use Rattle.sums.specs.Arrays.{fill-at}
use Rattle.order.specs.Class.{class_for}
use Rattle.order.specs.Table.{order_of}
use Rattle.order.proofs.RefusalLaws.{accepted-iff}
use Rattle.order.proofs.StructLaws.{few-processors}
use Rattle.table.specs.ClassRows.{few-listed, class-is}
use Rattle.table.proofs.class.classes_of_processors.Goals as goal

pub bounds-order-i : goal.bounds-order-i
bounds-order-i c = omega (arith, few-processors c.args.order c.requires.0)

pub class_for-requires : goal.class_for-requires
class_for-requires c = (
  few-listed (order_of c.args.order) ((accepted-iff (order_of c.args.order)).0 c.requires.0).few-processors c.args.classes c.requires.1,
  omega arith,
  λ i l. absurd (omega arith),
)

pub bounds-r-i : goal.bounds-r-i
bounds-r-i c = omega (arith, few-processors c.args.order c.requires.0, c.loop-i.invariant.0)

pub loop-i-preserved : goal.loop-i-preserved
loop-i-preserved c =
    let l = c.loop-i in
    let o = c.args.order in (
      search rules,
      record {
        at = fill-at (λ (k v : ℕ). v ≡ class_for (order_of o) (get_or o.memories k 0)) 0 l.r l.i c.class_for.result
            (omega (arith, few-processors o c.requires.0, l.invariant.0)) l.invariant.1.at (c.class_for.ensures
            ∙ class-is (order_of o) ((accepted-iff (order_of o)).0 c.requires.0).few-processors
            c.args.classes c.requires.1 (get_or o.memories l.i 0));
      },
    )
