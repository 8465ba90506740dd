-- `read_counted`: the counts decide; where they are good, the lists are the file's order.
use Rattle.std.proofs.Common.{refl, sym, ap, ◌∙◌}
use Rattle.order.specs.Table.{acceptance_told}
use Rattle.order_file.proofs.Reading.{accepted-read, few-counted, counted}
use Rattle.order_file.proofs.read.read_counted.Goals as goal

pub read_lists-requires-clause-processors_bound : goal.read_lists-requires-clause-processors_bound
read_lists-requires-clause-processors_bound c =
    few-counted c.args.file.now c.args.lists c.requires _ c.accept_counts.ensures c.in_ok-accept_counts.was

pub returns : goal.returns
returns c =
    let e = c.accept_counts.ensures in
    let is = c.in_ok-accept_counts.was in
    accepted-read _ _ _ c.read_lists.result refl (sym e ∙ ap acceptance_told is)
    (counted c.args.file.now c.args.lists c.requires _ e _ is c.read_lists.ensures) c.read_lists.ensures
