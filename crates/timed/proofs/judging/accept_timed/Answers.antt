use Rattle.std.proofs.Common.{ap, sym, ◌∙◌}
use Rattle.order.specs.Table.{acceptance_told}
use Rattle.order.proofs.StructLaws.{few-jobs, few-processors}
use Rattle.timed.proofs.judging.accept_timed.Goals as goal

pub accept_times-requires : goal.accept_times-requires
accept_times-requires c =
    let ok = sym c.accept.ensures ∙ ap acceptance_told c.in_ok-accept.was in
    (few-jobs c.args.order ok, few-processors c.args.order ok)
