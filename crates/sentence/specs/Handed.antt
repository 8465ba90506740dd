-- A reason as it is handed in, in the code's values: those in which the planner tells it (reason/specs/Told.antt#why_of). Values that
-- tell none, with another time beside a job, a count beyond the due times or a due time beyond the count, are "anything else".
use Rattle.std.specs.Prelude.{Option, None, Some}
use Rattle.std.specs.Prelude.{Bool, true, cond, ◌&&◌, List, [], ◌∷◌, leb, eqb, ℤ, pos, length, take, drop}
use Rattle.order.specs.Order.{Order, job_of}
use Rattle.profile.specs.Reason.{Reason as TightReason, over_end, stairs}
use Rattle.profile.specs.Search.{Found, nothing, found}
use Rattle.profile.specs.Standing.{same_z}
use Rattle.reason.specs.declared.Reason.TheVariants.{Job, Stairs}
use Rattle.reason.specs.declared.Why.{Why}
use Rattle.reason.specs.declared.Reason.{Reason}

unfoldable pub all_zero : List ℤ → Bool
all_zero [] = true
all_zero (d ∷ ds) = same_z d (pos 0) && all_zero ds

-- the reason that values tell, or none
abbrev pub handed_by : Order → Option Reason → List ℤ → Found TightReason
handed_by o None dues = nothing
handed_by o (Some (Job j time)) dues = cond (eqb time (job_of o j).time && all_zero dues) (found (over_end j)) nothing
handed_by o (Some (Stairs k)) dues = cond (leb k (length dues) && all_zero (drop k dues)) (found (stairs (take k dues))) nothing

abbrev pub handed : Order → Why → Found TightReason
handed o why = handed_by o why.reason why.dues
