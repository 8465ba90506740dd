use Rattle.std.proofs.Common.{rules, ◌-◌, get_or}
use Rattle.sums.specs.FromFn.{from_fn-row}
use Rattle.timed.proofs.moments.to_minutes.Goals as goal

pub returns : goal.returns
returns c = from_fn-row _ _ (λ i. 11000001 - get_or c.args.leads i 0) _ (λ i y q l k. search rules) c.from_fn.ensures.items
