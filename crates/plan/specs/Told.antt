-- What the code's answers stand for.
use Rattle.std.specs.Prelude.{Bool, false, Result, Ok, Err}
use Rattle.order.specs.Refusals.{Answer, answer, answer_by}
use Rattle.order.specs.Table.{refusal_told}
use Rattle.order.specs.declared.Refusal.{Refusal}

-- the check's: yes or no, or the refusal
abbrev pub checked_told : Result Bool Refusal → Answer Bool
checked_told (Ok right) = answer right
checked_told (Err r) = answer_by (refusal_told r) false
