-- Sums and tests as the code makes them, and the line in the code's values. Only this crate's own functions are held to these.
use Rattle.std.specs.Prelude.{ℕ, suc, ◌-◌, ◌*◌, ◌<◌, ◌≤◌, ◌≡◌, Bool, true, cond, List, eqb, ℤ, pos, length, get_or, take, ◌≤ℤ◌, MatchOption}
use Rattle.std.specs.List.{list_any}
use Rattle.std.specs.Ordering.{int_eq}
use Rattle.std.specs.declared.option.Option.{Option}
use Rattle.sums.specs.Sum.{sum}
use Rattle.sums.specs.Lists.{All, In, Pairwise}
use Rattle.order.specs.Order.{Order, job_of}
use Rattle.order.specs.Sorted.{due_times}
use Rattle.order.specs.Lead.{lead, last_due}
use Rattle.order.specs.Refusals.{due_in_range}
use Rattle.order.specs.declared.Order.{Order as OrderTable}
use Rattle.profile.specs.Profile.{minutes_owed, minutes_on_hand}
use Rattle.profile.specs.Reason.{over_end, stairs, Stands}
use Rattle.profile.specs.Search.{nothing, found}
use Rattle.reason.specs.Asked.{owes_by}
use Rattle.table.specs.declared.Table.{Table}
use Rattle.sentence.specs.Line.{composed}
use Rattle.sentence.specs.declared.Sums.{Sums}

-- the two sums of due times
abbrev pub owed_to : Table → List ℤ → ℕ
owed_to t dues = sum (length dues) (λ i. owes_by t (suc i) (lead last_due (get_or dues i (pos 0))))

abbrev pub hand_to : Table → ℕ → List ℤ → ℕ
hand_to t reach dues = sum (length dues) (λ i. get_or t.procs i 0 * (reach - lead last_due (get_or dues i (pos 0))))

-- due times are in range; their ends are not negative
pub record StepsReached (reach : ℕ) (dues : List ℤ) : Type 0 where
  pub in-range : (i : ℕ) → i < length dues → due_in_range (get_or dues i (pos 0)) ≡ true
  pub within : (i : ℕ) → i < length dues → lead last_due (get_or dues i (pos 0)) ≤ reach

-- whether some job is due at this time
abbrev pub is_due : OrderTable → ℤ → Bool
is_due t due = list_any (λ d. int_eq d due) (take t.jobs t.dues)

-- each due time is some job's, and none rises above one before it
pub record StepsFit (o : Order) (dues : List ℤ) : Type 0 where
  pub due : All (λ (d : ℤ). In d (due_times o)) dues
  pub falls : Pairwise (λ (d e : ℤ). e ≤ℤ d) dues

-- the two sums of a staircase that stands, or none of one that does not
abbrev pub WeighedTold : Order → ℤ → List ℤ → Option Sums → Type 0
WeighedTold o bound dues w = MatchOption w (¬ Stands o bound (stairs dues)) (λ s.
    Stands o bound (stairs dues) × (s.owed ≡ minutes_owed o bound dues) × (pos s.on_hand ≡ minutes_on_hand o bound dues)
    × (s.on_hand < s.owed) × (s.owed ≤ 76800000))

-- the line of a job that is handed in with this time
abbrev pub job_composed : Order → ℤ → ℕ → ℕ → List ℕ
job_composed o bound j time = composed o bound (cond (eqb time (job_of o j).time) (found (over_end j)) nothing)
