use lib.IntN.{pos}
use lib.ListN.{get_or}
use Rattle.order.specs.Machine.{machine-back}
use Rattle.highboyrobin.proofs.Handed.{why-is}
use Rattle.highboyrobin.proofs.handing.why_from.Goals as goal

pub returns : goal.returns
returns c =
    let n = c.args.numbers.now in
    why-is n _ _ _ _ _ (machine-back (get_or n 0 (pos 0)) c.tightness_from-arg-1.given)
    (machine-back (get_or n 1 (pos 0)) c.tightness_from-arg-2-1.given)
    (machine-back (get_or n 2 (pos 0)) c.tightness_from-arg-3-1.given)
    c.tightness_from.ensures c.dues_from-dues.ensures
