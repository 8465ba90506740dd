-- What the code tells at a bound as numbers. Only this crate's own functions are held to these.
use Rattle.std.specs.Prelude.{Option, None, Some}
use Rattle.std.specs.Prelude.{ℕ, List, ◌∷◌, ℤ, pos}
use Rattle.reason.specs.declared.Reason.TheVariants.{Job, Stairs}
use Rattle.reason.specs.declared.Why.{Why}
use Rattle.reason.specs.declared.Reason.{Reason}

abbrev pub kind_of : Option Reason → ℕ
kind_of None = 0
kind_of (Some (Job job time)) = 1
kind_of (Some (Stairs count)) = 2

abbrev pub which_of : Option Reason → ℕ
which_of None = 0
which_of (Some (Job job time)) = job
which_of (Some (Stairs count)) = count

abbrev pub time_of : Option Reason → ℕ
time_of None = 0
time_of (Some (Job job time)) = time
time_of (Some (Stairs count)) = 0

abbrev pub why_numbers : Why → List ℤ
why_numbers why =
    pos (kind_of why.reason) ∷ pos (which_of why.reason) ∷ pos (time_of why.reason) ∷ why.dues
