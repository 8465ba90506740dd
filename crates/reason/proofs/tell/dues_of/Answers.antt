use Rattle.std.proofs.Common.{rules, tests}
use Rattle.sums.specs.FromFn.{from_fn-at}
use Rattle.reason.specs.Asked.{due_or}
use Rattle.std.specs.Prelude.{pos}
use Rattle.reason.proofs.tell.dues_of.Goals as goal

pub returns : goal.returns
returns c = (
  c.from_fn.ensures.items.long,
  λ i l. from_fn-at _ _ (due_or c.args.grid.now c.args.stairs.now.at c.args.stairs.now.count) _ (λ j y q b k. search (rules, tests))
      c.from_fn.ensures.items i (pos 0) l,
)
