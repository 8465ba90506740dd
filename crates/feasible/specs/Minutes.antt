-- Document 01, "Why a bound is too tight": the minutes owed and the minutes on hand of a staircase. Where no job's time
-- exceeds its end, every end is a natural number, and the two signed sums are natural ones.
use Prim.Native.Nat.{ℕ, suc, ◌+◌, ◌-◌, ◌*◌, ◌<◌}
use Rattle.std.specs.Prelude.{◌≡◌, ◌↔◌, eqb, ℤ, length, get_or, ◌<ℤ◌}
use Rattle.std.proofs.Math.Path.{refl, ap}
use Rattle.std.proofs.Common.{◌∙◌, eq-eqb, ne_eqb}
use mathlib.Core.List.{List, [], ◌∷◌}
use native.Mathlib.Omega.{arith}
use Rattle.std.proofs.Math.Decide.{ℕ_discrete}
use Rattle.std.proofs.Math.IntN.{pos}
use Rattle.sums.specs.Sum.{sum, sum-cong}
use Rattle.sums.specs.Gate.{at, at_in, at_out}
use Rattle.sums.specs.Lists.{only}
use Rattle.sums.specs.Totals.{sum_first, total-places}
use Rattle.order.specs.Order.{Job, Order, job_count, Numbers, job_of, no_job, end_at, end_of}
use Rattle.order.specs.Class.{class_of, processors_in}
use Rattle.order.specs.Deadline.{deadline_of}
use Rattle.profile.specs.Profile.{owed, class_owes, owed_from, on_hand_from, minutes_owed, minutes_on_hand}
use Rattle.profile.specs.Reason.{InTime}
use Rattle.profile.proofs.Weights.{owed-between}
use Rattle.order.specs.Ends.{pos-<, <-pos, above-pos}

-- no job's time exceeds its end
abbrev pub AllInTime : Order → ℤ → Type 0
AllInTime o bound = (j : ℕ) → Numbers (job_count o) j → InTime bound (job_of o j)

-- T i is the end that belongs to the i-th due time, counted from 0
abbrev pub EndsAre : ℤ → List ℤ → (ℕ → ℕ) → Type 0
EndsAre bound dues T = (i : ℕ) → i < length dues → end_at bound (get_or dues i (pos 0)) ≡ pos (T i)

-- what the jobs of class k owe at the time t
abbrev pub class_owes_at : Order → ℤ → ℕ → ℕ → ℕ
class_owes_at o bound k t =
    sum (job_count o) (λ j.
    at (class_of o (job_of o (suc j))) k ((job_of o (suc j)).time - (deadline_of bound (job_of o (suc j)) - t)))

-- the end of a job that is in time is its deadline
pub end_is : (o : Order) (bound : ℤ) → AllInTime o bound → (j : ℕ) → Numbers (job_count o) j →
    end_of bound (job_of o j) ≡ pos (deadline_of bound (job_of o j))
unfolding deadline_of
end_is o bound in-time j b = above-pos (job_of o j).time (end_of bound (job_of o j)) (in-time j b)

-- what a job owes, where its end and the time are natural numbers
owed-is : (bound T : ℤ) (job : Job) (e t : ℕ) → end_of bound job ≡ pos e → T ≡ pos t →
    owed bound T job ≡ job.time - (e - t)
unfolding owed
owed-is bound T job e t he ht = rw (he, ht) (owed-between job.time e t)

only_at : (a b v : ℕ) → only (eqb a b) v ≡ at a b v
only_at a b v =
    elim (ℕ_discrete a b) [
      | yes e ↦ rw (eq-eqb a b e, at_in a b v e) refl
      | no e ↦ rw (ne_eqb a b e, at_out a b v e) refl
    ]

-- places counted from k on
first-place : (k : ℕ) → k + 0 ≡ k
first-place k = omega arith

next_place : (k i : ℕ) → k + suc i ≡ suc k + i
next_place k i = omega arith

from_one : (i : ℕ) → 1 + i ≡ suc i
from_one i = omega arith

module _ (o : Order) (bound : ℤ) where
  class_owes-is : AllInTime o bound → (k : ℕ) (T : ℤ) (t : ℕ) → T ≡ pos t → class_owes o bound k T ≡ class_owes_at o bound k t
  unfolding class_owes
  class_owes-is in-time k T t e =
      total-places o.jobs no_job (λ (job : Job). only (eqb (class_of o job) k) (owed bound T job))
      ∙ sum-cong (job_count o) _ _ (λ j l.
      only_at (class_of o (job_of o (suc j))) k (owed bound T (job_of o (suc j)))
      ∙ ap (λ (v : ℕ). at (class_of o (job_of o (suc j))) k v)
      (owed-is bound T (job_of o (suc j)) (deadline_of bound (job_of o (suc j))) t
      (end_is o bound in-time (suc j) (omega arith, l)) e))

  on_hand_from-is : (k : ℕ) (dues : List ℤ) (T : ℕ → ℕ) → EndsAre bound dues T →
      on_hand_from o bound k dues ≡ pos (sum (length dues) (λ i. processors_in o (k + i) * T i))
  unfolding on_hand_from sum
  on_hand_from-is k [] T h = refl
  on_hand_from-is k (due ∷ dues) T h =
      rw (h 0 (omega arith), on_hand_from-is (suc k) dues (λ i. T (suc i)) (λ i l. h (suc i) (omega arith)))
      (ap pos (omega (
        arith,
        sum_first (length dues) (λ i. processors_in o (k + i) * T i),
        ap (λ (x : ℕ). processors_in o x * T 0) (first-place k),
        sum-cong (length dues) (λ i. processors_in o (k + suc i) * T (suc i)) (λ i. processors_in o (suc k + i) * T (suc i))
            (λ i l. ap (λ (x : ℕ). processors_in o x * T (suc i)) (next_place k i)),
      )))

  owed_from-is : AllInTime o bound → (k : ℕ) (dues : List ℤ) (T : ℕ → ℕ) → EndsAre bound dues T →
      owed_from o bound k dues ≡ sum (length dues) (λ i. class_owes_at o bound (k + i) (T i))
  unfolding owed_from sum
  owed_from-is in-time k [] T h = refl
  owed_from-is in-time k (due ∷ dues) T h =
      omega (
        arith,
        class_owes-is in-time k (end_at bound due) (T 0) (h 0 (omega arith)),
        owed_from-is in-time (suc k) dues (λ i. T (suc i)) (λ i l. h (suc i) (omega arith)),
        sum_first (length dues) (λ i. class_owes_at o bound (k + i) (T i)),
        ap (λ (x : ℕ). class_owes_at o bound x (T 0)) (first-place k),
        sum-cong (length dues) (λ i. class_owes_at o bound (k + suc i) (T (suc i)))
            (λ i. class_owes_at o bound (suc k + i) (T (suc i)))
            (λ i l. ap (λ (x : ℕ). class_owes_at o bound x (T (suc i))) (next_place k i)),
      )

  -- the minutes on hand and the minutes owed as sums of natural numbers
  pub on-hand-is : (dues : List ℤ) (T : ℕ → ℕ) → EndsAre bound dues T →
      minutes_on_hand o bound dues ≡ pos (sum (length dues) (λ i. processors_in o (suc i) * T i))
  on-hand-is dues T h =
      on_hand_from-is 1 dues T h
      ∙ ap pos (sum-cong (length dues) _ _ (λ i l. ap (λ (x : ℕ). processors_in o x * T i) (from_one i)))

  pub owed-in-all-is : AllInTime o bound → (dues : List ℤ) (T : ℕ → ℕ) → EndsAre bound dues T →
      minutes_owed o bound dues ≡ sum (length dues) (λ i. class_owes_at o bound (suc i) (T i))
  owed-in-all-is in-time dues T h =
      owed_from-is in-time 1 dues T h
      ∙ sum-cong (length dues) _ _ (λ i l. ap (λ (x : ℕ). class_owes_at o bound x (T i)) (from_one i))

  -- more is owed than is on hand exactly if the natural sums say so
  pub exceeds-is : AllInTime o bound → (dues : List ℤ) (T : ℕ → ℕ) → EndsAre bound dues T →
      (minutes_on_hand o bound dues <ℤ pos (minutes_owed o bound dues))
      ↔ (sum (length dues) (λ i. processors_in o (suc i) * T i)
      < sum (length dues) (λ i. class_owes_at o bound (suc i) (T i)))
  exceeds-is in-time dues T h =
      rw (on-hand-is dues T h, owed-in-all-is in-time dues T h) (pos-<, <-pos)
