-- What the code's answer at a bound stands for: document 01's reason, or that there is none. The due times stand beside the enum.
use Rattle.std.specs.Prelude.{Option, None, Some}
use Rattle.std.specs.Prelude.{List, [], ℤ, pos, length, get_or, take}
use Rattle.sums.specs.Lists.{tabulate}
use Rattle.order.specs.Order.{Order, job_of}
use Rattle.profile.specs.Reason.{Reason as TightReason, over_end, stairs}
use Rattle.profile.specs.Search.{Found, found, nothing}
use Rattle.reason.specs.declared.Reason.{Reason}
use Rattle.reason.specs.declared.Reason.TheVariants.{Job, Stairs}
use Rattle.reason.specs.declared.Why.{Why}

-- document 01's reason of each kind: the job; the due times of the classes 1 to k
abbrev pub reason_told : Reason → List ℤ → TightReason
reason_told (Job job time) dues = over_end job
reason_told (Stairs count) dues = stairs (take count dues)

abbrev pub tightness_told : Option Reason → List ℤ → Found TightReason
tightness_told (Some reason) dues = found (reason_told reason dues)
tightness_told None dues = nothing

abbrev pub why_told : Why → Found TightReason
why_told why = tightness_told why.reason why.dues

-- sixteen due times: those given, and 0 beyond
abbrev pub sixteen : List ℤ → List ℤ
sixteen dues = tabulate 16 (λ i. get_or dues i (pos 0))

-- the whole answer that tells a reason of an order, or that there is none: a job comes with its time, and what is not named is 0
abbrev pub why_of : Order → Found TightReason → Why
why_of o (found (over_end j)) = record { reason = Some (Job j (job_of o j).time); dues = sixteen [] }
why_of o (found (stairs dues)) = record { reason = Some (Stairs (length dues)); dues = sixteen dues }
why_of o nothing = record { reason = None; dues = sixteen [] }
