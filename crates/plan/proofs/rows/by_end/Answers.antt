-- The deadline is the end cut off, of the due time and the bound as the machine reads them back.
use mathlib.Core.Path.{ap, ◌∙◌}
use Prim.Native.Nat.{ℕ}
use lib.Dec.{leb}
use Rattle.plan.proofs.Orders.{read-both}
use Rattle.plan.proofs.rows.by_end.Goals as goal

pub returns : goal.returns
returns c =
    ap (λ (d : ℕ). leb c.args.to d)
    (c.deadline.ensures ∙ read-both c.args.due c.args.bound c.ranges.due c.ranges.bound)
