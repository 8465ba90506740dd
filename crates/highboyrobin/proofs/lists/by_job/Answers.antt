use Rattle.std.proofs.Common.{rules, get_or}
use Rattle.sums.specs.FromFn.{from_fn-list}
use Rattle.highboyrobin.proofs.lists.by_job.Goals as goal

pub returns : goal.returns
returns c = from_fn-list _ _ (λ j. get_or c.args.list.now j 0) _ (λ i y q l k. search rules) c.from_fn.ensures.items
