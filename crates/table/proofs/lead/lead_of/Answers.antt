use Rattle.table.proofs.Dues.{lead-fits, lead-casts, lead-read}
use Rattle.table.proofs.lead.lead_of.Goals as goal

pub overflow_sub-result : goal.overflow_sub-result
overflow_sub-result c = lead-fits _ c.ranges.due c.requires

pub overflow_cast-result : goal.overflow_cast-result
overflow_cast-result c = lead-casts _ c.ranges.due c.requires

pub returns : goal.returns
returns c = lead-read _ c.ranges.due c.requires
