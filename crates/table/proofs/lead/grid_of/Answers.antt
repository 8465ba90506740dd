use Rattle.table.specs.GridLaws.{grid-of-leads}
use Rattle.table.proofs.lead.grid_of.Goals as goal

pub returns : goal.returns
returns c =
    grid-of-leads c.args.order c.requires _ c.leads_of-leads.ensures _ c.distinct_down.ensures
