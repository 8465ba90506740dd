-- How an entry point by the caller's limits comes to its answer: where the counts are refused, that refusal is the verdict of its table,
-- whatever rows follow; where they are accepted, the verdict is the dock's, and all that holds by it holds.
use Prim.Native.Nat.{ℕ}
use mathlib.Core.Path.{◌≡◌, sym, ap, ◌∙◌, subst}
use mathlib.Core.List.{List}
use lib.IntN.{ℤ}
use Rattle.order.specs.Order.{processor_count, job_count}
use Rattle.order.specs.Refusals.{limits, TableRow, Verdict, refused, judge, count_rows, order_rows}
use Rattle.order.specs.Callers.{limits_of, rows_by, rows_for}
use Rattle.order.proofs.CallerLaws.{counts-pass, counts-refuse}
use Rattle.order.proofs.StructLaws.{job-count, processor-count}
use Rattle.order.specs.Table.{Acceptance, order_of, refusal_told, acceptance_told}
use Rattle.order.proofs.TableLaws.{refused-told}
use Rattle.std.specs.Prelude.{Ok, Err}
use Rattle.order.specs.declared.Caller.{Caller}
use Rattle.order.specs.declared.Order.{Order as OrderTable}
use Rattle.order.specs.declared.Refusal.{Refusal}
use Rattle.callers.specs.Counted.{Counted, accept-counted}

module _ (caller : Caller) (t : OrderTable) (a : Acceptance)
    (e : acceptance_told a ≡ judge (count_rows (limits_of caller) t.processors t.jobs)) where
  abbrev m : ℕ
  m = processor_count (order_of t)

  abbrev n : ℕ
  n = job_count (order_of t)

  counted : judge (count_rows (limits_of caller) m n) ≡ acceptance_told a
  counted = rw (processor-count t, job-count t) (sym e)

  module _ (P : Verdict → Type 0) {rows : List TableRow} (table : Counted (order_of t) rows) where
    -- the dock's own answer, where the counts are accepted
    pub passes : a ≡ Ok tt → P (judge rows) → P (judge (rows_for caller (order_of t) rows))
    passes is p = subst P (sym (counts-pass caller m n rows table.itself (counted ∙ ap acceptance_told is))) p

    -- the refusal of the counts
    pub refuses : (why : Refusal) → a ≡ Err why → P (refusal_told why) → P (judge (rows_for caller (order_of t) rows))
    refuses why is p =
        let r = refused-told why in
        subst P
        (r.2
        ∙ sym (ap (λ (rows : List TableRow). judge (rows_for caller (order_of t) rows)) table.begins
        ∙ counts-refuse caller m n table.later r.0 r.1 (counted ∙ ap acceptance_told is ∙ r.2))) p

  -- acceptance, whose table takes the limits itself
  pub accept-passes : (r : Acceptance) → a ≡ Ok tt → acceptance_told r ≡ judge (order_rows limits (order_of t)) →
      acceptance_told r ≡ judge (order_rows (limits_of caller) (order_of t))
  unfolding rows_by
  accept-passes r is p = passes (λ (v : Verdict). acceptance_told r ≡ v) (accept-counted (order_of t)) is p

  pub accept-refuses : (why : Refusal) → a ≡ Err why → acceptance_told a ≡ judge (order_rows (limits_of caller) (order_of t))
  unfolding rows_by
  accept-refuses why is =
      refuses (λ (v : Verdict). acceptance_told a ≡ v) (accept-counted (order_of t)) why is (ap acceptance_told is)

  -- the same of a table with a bound, told as it was passed and as the machine reads it back
  module _ (P : Verdict → ℤ → Type 0) {rows : ℤ → List TableRow} (table : (z : ℤ) → Counted (order_of t) (rows z)) (bound : ℤ) where
    pub passes_at : (read : ℤ) → read ≡ bound → a ≡ Ok tt → P (judge (rows read)) read →
        P (judge (rows_for caller (order_of t) (rows bound))) bound
    passes_at read same is p =
        passes (λ (v : Verdict). P v bound) (table bound) is (subst (λ (z : ℤ). P (judge (rows z)) z) same p)

    pub refuses-at : (why : Refusal) → a ≡ Err why → P (refusal_told why) bound →
        P (judge (rows_for caller (order_of t) (rows bound))) bound
    refuses-at why is p = refuses (λ (v : Verdict). P v bound) (table bound) why is p

-- what holds by every refusal holds by one of the code's
pub told : (P : Verdict → Type 0) (why : Refusal) → ((number carried : ℕ) → P (refused number carried)) → P (refusal_told why)
told P why p = let r = refused-told why in subst P (sym r.2) (p r.0 r.1)
