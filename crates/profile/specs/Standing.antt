-- The reasons that stand at a bound, by trying (document 02, §1): every job over its end, in input order, or, with none such, every
-- overfull staircase, in ranking order.
use Rattle.std.specs.Prelude.{ℕ, suc, Bool, false, ◌||◌, List, [], ◌∷◌, map, eqb, ℤ, pos, negsuc, length}
use Rattle.std.specs.Int.Signed.{lt_z}
use Rattle.sums.specs.Lists.{keep, tabulate}
use Rattle.sums.specs.Same.{same_list}
use Rattle.order.specs.Order.{Order, job_count, job_of, end_of}
use Rattle.order.specs.Sorted.{due_times}
use Rattle.order.specs.Class.{classes}
use Rattle.profile.specs.Reason.{Reason, over_end, stairs}
use Rattle.profile.specs.Search.{Found, nothing, found, ranked, is_overfull}

-- the numbers of the jobs over their ends
unfoldable pub jobs_over_end : Order → ℤ → List ℕ
jobs_over_end o bound =
    keep (λ j. lt_z (end_of bound (job_of o j)) (pos (job_of o j).time)) (tabulate (job_count o) suc)

-- the overfull staircases
unfoldable pub overfull_stairs : Order → ℤ → List (List ℤ)
overfull_stairs o bound = keep (is_overfull o bound) (ranked (length (classes o)) (due_times o))

-- a list, or another where it has no member
abbrev pub or_else : {A : Type 0} → List A → List A → List A
or_else [] ys = ys
or_else (x ∷ xs) ys = x ∷ xs

-- the reasons that stand
unfoldable pub reasons_at : Order → ℤ → List Reason
reasons_at o bound = or_else (map over_end (jobs_over_end o bound)) (map stairs (overfull_stairs o bound))

-- the first member
abbrev pub head_of : {A : Type 0} → List A → Found A
head_of [] = nothing
head_of (x ∷ xs) = found x

-- whether two reasons are one
abbrev pub same_z : ℤ → ℤ → Bool
same_z (pos m) (pos n) = eqb m n
same_z (pos m) (negsuc n) = false
same_z (negsuc m) (pos n) = false
same_z (negsuc m) (negsuc n) = eqb m n

abbrev pub same_reason : Reason → Reason → Bool
same_reason (over_end i) (over_end j) = eqb i j
same_reason (over_end i) (stairs es) = false
same_reason (stairs ds) (over_end j) = false
same_reason (stairs ds) (stairs es) = same_list same_z ds es

-- whether a reason is one of some
unfoldable pub is_one_of : Reason → List Reason → Bool
is_one_of r [] = false
is_one_of r (s ∷ ss) = same_reason r s || is_one_of r ss

-- whether a reason stands
abbrev pub is_standing : Order → ℤ → Reason → Bool
is_standing o bound r = is_one_of r (reasons_at o bound)
