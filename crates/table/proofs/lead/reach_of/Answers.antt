use mathlib.Core.Path.{◌≡◌, ap, ◌∙◌}
use native.Mathlib.Omega.{arith}
use lib.IntN.{ℤ}
use mir.Syntax.{w32}
use mir.ValLaws.{to_z-of_z}
use Rattle.order.specs.Lead.{reach_at, last_due}
use Rattle.order.proofs.LeadLaws.{reach-most}
use Rattle.table.proofs.lead.reach_of.Goals as goal

pub returns : goal.returns
returns c =
    let e : c.deadline.result ≡ reach_at last_due c.args.bound
    = c.deadline.ensures ∙ ap (λ (z : ℤ). reach_at last_due z) (to_z-of_z w32 c.args.bound c.ranges.bound) in
    (e, omega (arith, e, reach-most c.args.bound c.requires))
