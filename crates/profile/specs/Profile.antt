-- Document 01, "Why a bound is too tight": minutes owed, minutes on hand, and the overfull staircase. The field's word for
-- document 01's staircase is profile. A profile is given by the due times of the jobs whose ends are its times: those of
-- class 1, of class 2, .. of class k.
use Rattle.std.specs.Prelude.{ℕ, suc, ◌+◌, ◌≤◌, ◌<◌, ◌≡◌, cond, List, [], ◌∷◌, ◌⊎◌, eqb, ℤ, pos, ◌+ℤ◌, ◌-ℤ◌, ◌*ℤ◌, length, ◌≤ℤ◌, ◌<ℤ◌}
use Rattle.std.specs.Int.Signed.{le_z}
use Rattle.sums.specs.Lists.{All, Pairwise, total, only}
use Rattle.order.specs.Order.{Job, Order, job_count, Numbers, job_of, end_at, end_of}
use Rattle.order.specs.Class.{classes, class_of, processors_in}
use Rattle.order.specs.Deadline.{cut}

-- "For a time T, the minutes owed by a job are its whole time if its end is at most T, else its time less (end - T), and 0
-- if that is negative."
unfoldable pub owed : ℤ → ℤ → Job → ℕ
owed bound T job =
    cond (le_z (end_of bound job) T) job.time (cut (pos job.time -ℤ (end_of bound job -ℤ T)))

-- "the minutes owed by the jobs of each class at that class's time"
unfoldable pub class_owes : Order → ℤ → ℕ → ℤ → ℕ
class_owes o bound k T = total o.jobs (λ (job : Job). only (eqb (class_of o job) k) (owed bound T job))

-- summed over the classes from k on
unfoldable pub owed_from : Order → ℤ → ℕ → List ℤ → ℕ
owed_from o bound k [] = 0
owed_from o bound k (due ∷ dues) = class_owes o bound k (end_at bound due) + owed_from o bound (suc k) dues

-- "the sum over the classes of (processors in class × time)", from class k on
unfoldable pub on_hand_from : Order → ℤ → ℕ → List ℤ → ℤ
on_hand_from o bound k [] = pos 0
on_hand_from o bound k (due ∷ dues) = pos (processors_in o k) *ℤ end_at bound due +ℤ on_hand_from o bound (suc k) dues

-- the two sums of a profile
abbrev pub minutes_owed : Order → ℤ → List ℤ → ℕ
minutes_owed o bound dues = owed_from o bound 1 dues

abbrev pub minutes_on_hand : Order → ℤ → List ℤ → ℤ
minutes_on_hand o bound dues = on_hand_from o bound 1 dues

-- "a count k and, for classes 1 to k, times that never rise, each the end of some job"
pub record Profile (o : Order) (bound : ℤ) (dues : List ℤ) : Type 0 where
  pub of-classes : length dues ≤ length (classes o)
  pub never-rise : Pairwise (λ (d e : ℤ). end_at bound e ≤ℤ end_at bound d) dues
  pub of-jobs : All (λ (d : ℤ). (j : ℕ) × Numbers (job_count o) j × (end_at bound d ≡ end_of bound (job_of o j))) dues

-- "Such a staircase is called overfull": the minutes owed exceed those on hand
pub record Overfull (o : Order) (bound : ℤ) (dues : List ℤ) : Type 0 where
  pub profile : Profile o bound dues
  pub exceeds : minutes_on_hand o bound dues <ℤ pos (minutes_owed o bound dues)

-- "the earliest time for class 1, then for class 2, and so on"
abbrev pub Earlier : List ℤ → List ℤ → Type 0
Earlier [] [] = ⊥
Earlier [] (e ∷ es) = ⊥
Earlier (d ∷ ds) [] = ⊥
Earlier (d ∷ ds) (e ∷ es) = (d <ℤ e) ⊎ ((d ≡ e) × Earlier ds es)

-- "Of several staircases the reason has the fewest classes, then the earliest time for class 1, ..": due times rank as the
-- ends that belong to them
abbrev pub RanksBefore : List ℤ → List ℤ → Type 0
RanksBefore ds es = (length ds < length es) ⊎ ((length ds ≡ length es) × Earlier ds es)

-- the overfull profile that ranks before all others
pub record FirstOverfull (o : Order) (bound : ℤ) (dues : List ℤ) : Type 0 where
  pub overfull : Overfull o bound dues
  pub first : (others : List ℤ) → Overfull o bound others → ¬ RanksBefore others dues
