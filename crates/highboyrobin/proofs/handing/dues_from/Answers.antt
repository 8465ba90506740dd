use Rattle.std.proofs.Common.{rules, ◌+◌, get_or}
use Rattle.std.specs.Prelude.{pos}
use Rattle.sums.specs.FromFn.{from_fn-list}
use Rattle.highboyrobin.proofs.handing.dues_from.Goals as goal

pub returns : goal.returns
returns c = from_fn-list _ _ (λ i. get_or c.args.numbers.now (3 + i) (pos 0)) _ (λ i y q l k. search rules) c.from_fn.ensures.items
