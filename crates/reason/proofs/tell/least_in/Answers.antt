use mathlib.Core.Path.{ap, ◌∙◌}
use Rattle.order.specs.Machine.{machine-back}
use Rattle.order.specs.Lead.{bound_at, last_due}
use Rattle.order.proofs.LeadLaws.{bound-small}
use Rattle.reason.proofs.tell.least_in.Goals as goal

pub bound_of-requires : goal.bound_of-requires
bound_of-requires c = c.least_reach.ensures.1

pub returns : goal.returns
returns c =
    machine-back c.bound_of.result
    (rw c.bound_of.ensures (bound-small _ c.least_reach.ensures.1))
    ∙ (c.bound_of.ensures ∙ ap (bound_at last_due) c.least_reach.ensures.0)
