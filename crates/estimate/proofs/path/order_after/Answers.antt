use mathlib.Core.Path.{◌∙◌}
use Rattle.estimate.specs.Estimate.{path_at}
use Rattle.estimate.specs.Told.{estimate_of}
use Rattle.estimate.specs.StructLaws.{spans, array-is}
use Rattle.estimate.proofs.Ordered.{with_array}
use Rattle.estimate.proofs.path.order_after.Goals as goal

pub times_after-requires : goal.times_after-requires
times_after-requires c =
    spans c.args.estimate c.requires

pub returns : goal.returns
returns c =
    with_array c.args.estimate.order (path_at (estimate_of c.args.estimate) c.args.k) _
    (c.times_after.ensures ∙ array-is c.args.estimate c.requires c.args.k)
