use mir.Syntax.{w32}
use mir.ValLaws.{to_z-of_z}
use Rattle.table.proofs.Dues.{due-fits, due-machine}
use Rattle.table.proofs.lead.due_of.Goals as goal

pub overflow_sub-result : goal.overflow_sub-result
overflow_sub-result c = rw (due-machine _ c.requires) (due-fits _ c.requires)

pub returns : goal.returns
returns c = rw (due-machine _ c.requires) (to_z-of_z w32 _ (due-fits _ c.requires))
