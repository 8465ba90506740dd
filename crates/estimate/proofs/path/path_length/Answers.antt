use mathlib.Core.Path.{◌∙◌}
use native.Mathlib.Omega.{arith}
use Rattle.estimate.specs.StructLaws.{spans, length-is, length_most}
use Rattle.estimate.proofs.path.path_length.Goals as goal

pub minutes_between-requires : goal.minutes_between-requires
minutes_between-requires c = spans c.args.estimate c.requires

pub returns : goal.returns
returns c =
    let e = c.minutes_between.ensures ∙ length-is c.args.estimate c.requires in
    (e, omega (arith, e, length_most c.args.estimate c.requires))
