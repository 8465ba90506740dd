-- How a call by the caller's limits comes to its verdict: the answer's room, the length of a lent list, the trailer, then the dock's call.
use Rattle.std.specs.Prelude.{Ok, Err}
use Prim.Native.Nat.{ℕ, ◌≤◌}
use mathlib.Core.Path.{◌≡◌, refl, sym, ap, ◌∙◌, subst}
use mathlib.Core.Bool.{not}
use mathlib.Core.List.{List, [], ◌∷◌, ◌++◌}
use borrow.Author.Tests.{le-ltb}
use lib.IntN.{ℤ}
use Rattle.order.specs.Order.{Order, processor_count, job_count}
use Rattle.order.specs.Refusals.{limits, TableRow, Verdict, judge, job_rows, order_rows}
use Rattle.order.proofs.RefusalLaws.{judge-clear}
use Rattle.order.specs.Callers.{limits_of, rows_by, rows_for}
use Rattle.order.specs.Table.{Acceptance, refusal_told, acceptance_told, carried_by}
use Rattle.order.specs.declared.Caller.{Caller}
use Rattle.order.specs.declared.Refusal.{Refusal}
use Rattle.order_file.specs.File.{good_file, order_in}
use Rattle.callers.specs.Trailers.{trailer_rows}
use Rattle.callers.specs.TrailerLaws.{trailer-refused, trailer-passed}
use Rattle.highboyrobin.specs.Results.{answer_row, file_call, short_list_row, list_call}
use Rattle.highboyrobin.specs.ScreenCallLaws.{ItselfIn}
use Rattle.highboyrobin.proofs.Answering.{Ended, PlanEnded}
use Rattle.highboyrobin.proofs.SentenceTold.{SentenceEnded}
use Rattle.highboyrobin.proofs.ClassesTold.{ClassesEnded}
use Rattle.highboyrobin.proofs.Carried.{whole_carries, count-carries, carried-few}

module _ (caller : Caller) (f : List ℕ) where
  -- a trailer's refusal carries nothing
  pub trailer_carries : (a : Acceptance) → acceptance_told a ≡ judge (trailer_rows (limits_of caller) f) → (why : Refusal) →
      a ≡ Err why → carried_by (refusal_told why) ≤ 16777215
  trailer_carries a e why is =
      carried-few _ _ (sym e ∙ ap acceptance_told is)
      (whole_carries 12 48 (not (good_file f)) _ (count-carries (limits_of caller) (processor_count (order_in f)) (job_count (order_in f))))

  module _ (lent asked : ℕ) where
    pub for-refused : asked ≤ lent → (a : Acceptance) → acceptance_told a ≡ judge (trailer_rows (limits_of caller) f) → (why : Refusal) →
        a ≡ Err why → (rows later : List TableRow) → rows ≡ order_rows limits (order_in f) ++ later →
        judge (rows_for caller (order_in f) (file_call lent asked f rows)) ≡ refusal_told why
    unfolding rows_by file_call
    for-refused room a e why is rows later begins =
        rw begins (judge-clear (answer_row lent asked ∷ []) _ (rw (le-ltb lent asked room) refl, tt)
        ∙ trailer-refused caller f a e why is (job_rows (order_in f) ++ later))

    -- the same of a call with a list
    module _ (numbers wanted : ℕ) where
      abbrev table : List TableRow → List TableRow
      table rows = rows_for caller (order_in f) (list_call lent asked numbers wanted f rows)

      pub for-list-refused : asked ≤ lent → wanted ≤ numbers → (a : Acceptance) →
          acceptance_told a ≡ judge (trailer_rows (limits_of caller) f) → (why : Refusal) → a ≡ Err why →
          (rows later : List TableRow) → rows ≡ order_rows limits (order_in f) ++ later → judge (table rows) ≡ refusal_told why
      unfolding rows_by list_call
      for-list-refused room enough a e why is rows later begins =
          rw begins (judge-clear (answer_row lent asked ∷ short_list_row numbers wanted ∷ []) _
          (rw (le-ltb lent asked room) refl, (rw (le-ltb numbers wanted enough) refl, tt))
          ∙ trailer-refused caller f a e why is (job_rows (order_in f) ++ later))

-- what a call leaves behind, with the verdict and the bound last
abbrev pub LeftAt : (ℤ → List ℤ) → List ℤ → ℕ → List ℤ → Verdict → ℤ → Type 0
LeftAt numbers entry result exit v z = Ended v (numbers z) entry result exit

abbrev pub PlanAt : Order → List ℤ → List ℕ → List ℤ → ℕ → List ℕ → List ℤ → Verdict → ℤ → Type 0
PlanAt o first rows entry result rows' exit v z = PlanEnded v o z first rows entry result rows' exit

abbrev pub SentenceAt : (ℤ → List ℕ) → List ℕ → List ℤ → ℕ → List ℕ → List ℤ → Verdict → ℤ → Type 0
SentenceAt text line entry result line' exit v z = SentenceEnded v (text z) line entry result line' exit

abbrev pub ClassesBy : Order → List ℕ → List ℤ → ℕ → List ℕ → List ℤ → Verdict → Type 0
ClassesBy o list entry result list' exit v = ClassesEnded v o list entry result list' exit

-- the dock's own reply, where the trailer is accepted
module _ (caller : Caller) (f : List ℕ) (a : Acceptance) (e : acceptance_told a ≡ judge (trailer_rows (limits_of caller) f))
    (is : a ≡ Ok tt) where
  pub same-replies : (P : Verdict → Type 0) {rows : List TableRow} → ItselfIn f rows → P (judge rows) →
      P (judge (rows_for caller (order_in f) rows))
  same-replies P {rows} itself p = subst P (sym (trailer-passed caller f a e is rows itself)) p

  -- of a call with a bound, told as it was passed and as the machine reads it back
  pub same-replies-at : (P : Verdict → ℤ → Type 0) {rows : ℤ → List TableRow} → ((z : ℤ) → ItselfIn f (rows z)) → (bound read : ℤ) →
      read ≡ bound → P (judge (rows read)) read → P (judge (rows_for caller (order_in f) (rows bound))) bound
  same-replies-at P {rows} itself bound read same p =
      same-replies (λ (v : Verdict). P v bound) (itself bound) (subst (λ (z : ℤ). P (judge (rows z)) z) same p)
