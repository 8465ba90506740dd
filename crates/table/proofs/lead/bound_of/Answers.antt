use native.Mathlib.Omega.{arith}
use Rattle.table.proofs.Dues.{sum_fits, bound-read}
use Rattle.table.proofs.lead.bound_of.Goals as goal

pub overflow_sub-result : goal.overflow_sub-result
overflow_sub-result c = sum_fits _ c.requires _ (omega arith)

pub returns : goal.returns
returns c = bound-read _ c.requires
