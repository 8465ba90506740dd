-- The reason by trying: every job in input order, then every profile in ranking order, up to the first that is overfull.
use Rattle.std.specs.Prelude.{ℕ, zero, suc, Bool, cond, List, [], ◌∷◌, ◌++◌, map, ℤ, pos, length}
use Rattle.std.specs.Int.Signed.{lt_z}
use Rattle.order.specs.Order.{Job, Order, end_of}
use Rattle.order.specs.Sorted.{due_times}
use Rattle.order.specs.Class.{classes}
use Rattle.order.specs.Refusals.{Finding, clear, holds, first}
use Rattle.profile.specs.Profile.{minutes_owed, minutes_on_hand}
use Rattle.profile.specs.Reason.{Reason, over_end, stairs}

-- the lists of k members of a falling list that never rise, the smallest first member first, then the smallest second, ..
unfoldable pub choices : ℕ → List ℤ → List (List ℤ)
choices zero dues = [] ∷ []
choices (suc k) [] = []
choices (suc k) (d ∷ dues) = choices (suc k) dues ++ map (λ (es : List ℤ). d ∷ es) (choices k (d ∷ dues))

-- those of at most k members, in ranking order: fewest members first
unfoldable pub ranked : ℕ → List ℤ → List (List ℤ)
ranked zero dues = []
ranked (suc k) dues = ranked k dues ++ choices (suc k) dues

-- what is found of a kind, or nothing
pub data Found (A : Type 0) : Type 0 where
  nothing : Found A
  found : A → Found A

-- the first member that passes a test
unfoldable pub first_such : {A : Type 0} → (A → Bool) → List A → Found A
first_such test [] = nothing
first_such test (x ∷ xs) = cond (test x) (found x) (first_such test xs)

abbrev pub is_overfull : Order → ℤ → List ℤ → Bool
is_overfull o bound dues = lt_z (minutes_on_hand o bound dues) (pos (minutes_owed o bound dues))

-- the first overfull profile in ranking order
unfoldable pub first_overfull : Order → ℤ → Found (List ℤ)
first_overfull o bound = first_such (is_overfull o bound) (ranked (length (classes o)) (due_times o))

-- the first job whose time exceeds its end
abbrev pub first_over_end : Order → ℤ → Finding
first_over_end o bound = first (λ (job : Job). lt_z (end_of bound job) (pos job.time)) o.jobs

abbrev pub reason_by : Finding → Found (List ℤ) → Found Reason
reason_by (holds j) profile = found (over_end j)
reason_by clear (found dues) = found (stairs dues)
reason_by clear nothing = nothing

-- the reason, if there is one
unfoldable pub reason_of : Order → ℤ → Found Reason
reason_of o bound = reason_by (first_over_end o bound) (first_overfull o bound)
