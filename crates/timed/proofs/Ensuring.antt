-- How the timed planner's answer is put together: the rows before 9 refuse, then the buffer is too short, then there is a plan or none.
use Rattle.std.specs.Prelude.{Option, Some, None, Result, Ok, Err}
use Prim.Native.Nat.{ℕ, suc, ◌+◌, ◌-◌, ◌*◌, ◌≤◌, ◌<◌, ◌/◌}
use mathlib.Core.Path.{◌≡◌, refl, sym, ap, ◌∙◌}
use mathlib.Core.List.{List, [], ◌∷◌}
use native.Mathlib.Nat.{mul-le-mul}
use native.Mathlib.Omega.{arith}
use borrow.Author.Tests.{not-false, leb-true, ltb-true, lt-ltb, le-ltb}
use lib.Dec.{leb, ltb}
use lib.IntN.{ℤ}
use lib.ListN.{length}
use Rattle.sums.specs.Lists.{All, tabulate}
use Rattle.sums.specs.Members.{All-in}
use Rattle.sums.specs.Places.{numbers-in}
use Rattle.order.specs.Order.{Order, processor_count, job_count, Numbers}
use Rattle.order.specs.Refusals.{limits, clear, TableRow, Verdict, accepted, refused, judge, order_rows, tight_row, answer, answer_by}
use Rattle.order.proofs.RefusalLaws.{
  both_true,
  judge-accepted,
  judge-refused-append,
  judge-accepted-append,
  first-clear,
}
use Rattle.order.specs.Table.{refusal_told}
use Rattle.order.proofs.TableLaws.{refused-told}
use Rattle.order.specs.declared.Refusal.{Refusal}
use Rattle.order.specs.declared.Refusal.TheVariants.{BufferTooShort}
use Rattle.order.specs.Lead.{last_due}
use Rattle.table.specs.Tabled.{Tabled}
use Rattle.table.specs.declared.Table.{Table}
use Rattle.wrap.specs.FrameAt.{Times}
use Rattle.timed.specs.Changes.{timed_rows_asked}
use Rattle.timed.specs.Making.{InRange, TimedOf, ChangesOf, Made}
use Rattle.timed.proofs.NoneLaws.{none-timed, some-timed}
use Rattle.timed.specs.Rows.{none_timed, times_rows, asked_rows, timed_buffer, earlier_timed, timed_rows}
use Rattle.timed.specs.Times.{most_minute, times_of}
use Rattle.timed.specs.Written.{TimedBufferBy, timed_told, timed_count, asked_told}
use Rattle.timed.specs.declared.Changes.{Changes}
use Rattle.timed.specs.declared.Times.{Times as TimesTable}
use Rattle.timed.proofs.Refusing.{order-good, bound-good}

-- the two clauses of the planner's contract
abbrev pub Ensured : Order → ℤ → Times → (entry exit : List ℕ) → Result (Option ℕ) Refusal → Type 0
Ensured o bound t entry exit r =
    (timed_told r ≡ answer_by (judge (timed_rows o bound t (length entry))) (timed_count r))
    × TimedBufferBy (judge (timed_rows o bound t (length entry))) o bound t entry exit (timed_count r)

module _ (o : Order) (bound : ℤ) (t : Times) where
  -- of an accepted table no time is beyond the last minute
  module _ (ok : judge (asked_rows o bound t) ≡ accepted) where
    times-clear : All (λ (r : TableRow). r.finding ≡ clear) (times_rows o bound t)
    unfolding asked_rows
    times-clear =
        (judge-accepted (times_rows o bound t)).0
        (sym (judge-accepted-append (order_rows limits o) (times_rows o bound t) (order-good o bound t ok)) ∙ ok)

    window-good : (i : ℕ) → Numbers (processor_count o) i → (t.opens i < t.closes i) × (t.closes i ≤ most_minute)
    window-good i b =
        let h = All-in _ (tabulate (processor_count o) suc) (first-clear _ (tabulate (processor_count o) suc) 0 times-clear.1.0) i
        (numbers-in (processor_count o) i b.0 b.1) in
        let g = both_true (ltb (t.opens i) (t.closes i)) (leb (t.closes i) most_minute) (not-false _ h) in
        (ltb-true (t.opens i) (t.closes i) g.0, leb-true (t.closes i) most_minute g.1)

    pub in-range : InRange o t
    in-range =
        record {
          readies = λ j b.
              leb-true (t.ready j) most_minute
              (not-false _ (All-in _ (tabulate (job_count o) suc) (first-clear _ (tabulate (job_count o) suc) 0 times-clear.0) j
              (numbers-in (job_count o) j b.0 b.1)));
          openings = λ i b. omega (arith, window-good i b);
          closings = λ i b. (window-good i b).1;
        }

  module _ (entry : List ℕ) where
    told-by : (k c : ℕ) (exit : List ℕ) (r : Result (Option ℕ) Refusal) → judge (timed_rows o bound t (length entry)) ≡ refused k c →
        timed_told r ≡ answer_by (refused k c) 0 → timed_count r ≡ 0 → exit ≡ entry → Ensured o bound t entry exit r
    told-by k c exit r e told count same = rw e (told, (same, count))

    -- a refusal of the first rows
    pub asked-refused : (rf : Refusal) → refusal_told rf ≡ judge (asked_rows o bound t) → Ensured o bound t entry entry (Err rf)
    unfolding timed_rows earlier_timed
    asked-refused rf e =
        let k = refused-told rf in
        let first = judge-refused-append (asked_rows o bound t) (timed_buffer o bound t (length entry) ∷ []) k.0 k.1 (sym e ∙ k.2) in
        let whole = judge-refused-append (earlier_timed o bound t (length entry)) (tight_row (none_timed o bound t) ∷ []) k.0 k.1 first in
        told-by k.0 k.1 entry (Err rf) whole (ap (λ (v : Verdict). answer_by v 0) k.2) refl refl

    module _ (ok : judge (asked_rows o bound t) ≡ accepted) where
      -- 9
      pub short-refused : length entry / 4 < timed_rows_asked o bound t → Ensured o bound t entry entry (Err BufferTooShort)
      unfolding timed_rows earlier_timed judge
      short-refused h =
          let nine : judge (timed_buffer o bound t (length entry) ∷ []) ≡ refused 9 0
          = rw (lt-ltb (length entry / 4) (timed_rows_asked o bound t) h) refl in
          let first = judge-accepted-append (asked_rows o bound t) (timed_buffer o bound t (length entry) ∷ []) ok ∙ nine in
          let whole = judge-refused-append (earlier_timed o bound t (length entry)) (tight_row (none_timed o bound t) ∷ []) 9 0 first in
          told-by 9 0 entry (Err BufferTooShort) whole refl refl refl

      -- then the plan decides
      module _ (room : timed_rows_asked o bound t ≤ length entry / 4) where
        left : judge (timed_rows o bound t (length entry)) ≡ judge (tight_row (none_timed o bound t) ∷ [])
        unfolding timed_rows earlier_timed judge
        left =
            let none : judge (timed_buffer o bound t (length entry) ∷ []) ≡ accepted
            = rw (le-ltb (length entry / 4) (timed_rows_asked o bound t) room) refl in
            judge-accepted-append (earlier_timed o bound t (length entry)) (tight_row (none_timed o bound t) ∷ [])
            (judge-accepted-append (asked_rows o bound t) (timed_buffer o bound t (length entry) ∷ []) ok ∙ none)

        pub made-ensured : (exit : List ℕ) (r : Option ℕ) → Made o bound t entry exit r → Ensured o bound t entry exit (Ok r)
        unfolding judge
        made-ensured exit (Some count) m =
            let e : judge (timed_rows o bound t (length entry)) ≡ accepted
            = left ∙ rw (some-timed o bound t (order-good o bound t ok) m.0.plan m.0.plan-of.right) refl in
            rw e (refl, m.0)
        made-ensured exit None m =
            let e : judge (timed_rows o bound t (length entry)) ≡ refused 10 0
            = left ∙ rw ((none-timed o bound t (order-good o bound t ok)).1 (m.1 1 (omega arith))) refl in
            told-by 10 0 exit (Ok None) e refl refl m.0

-- a table of an order whose first rows are clear
pub timed-of : (o : Order) (tb : Table) (bound : ℤ) (times : TimesTable) → judge (asked_rows o bound (times_of times)) ≡ accepted →
    Tabled last_due o tb → TimedOf o tb bound times
timed-of o tb bound times ok m =
    record {
      accepted = order-good o bound (times_of times) ok;
      bound-good = bound-good o bound (times_of times) ok;
      in-range = in-range o bound (times_of times) ok;
      tabled = m;
    }

-- the code's number of rows asked for
module _ {o : Order} {tb : Table} {bound : ℤ} {times : TimesTable} {c : Changes} (T : TimedOf o tb bound times)
    (C : ChangesOf o bound (times_of times) c) where
  pub asked_is : c.count * (tb.n + tb.m - 1) ≡ timed_rows_asked o bound (times_of times)
  asked_is = rw (C.count-is, T.tabled.jobs, T.tabled.processors) refl

  pub asked-few : c.count * (tb.n + tb.m - 1) ≤ 8064
  asked-few =
      let n : tb.n + tb.m - 1 ≤ 63 = omega (arith, T.tabled.few-jobs, T.tabled.few-processors) in
      mul-le-mul {n₂ = 128} {m₂ = 63} C.few n

-- the rows to be lent
module _ (o : Order) (bound : ℤ) (t : Times) where
  pub rows_told : judge (asked_rows o bound t) ≡ accepted → {n : ℕ} → n ≡ timed_rows_asked o bound t →
      asked_told (Ok n) ≡ answer_by (judge (asked_rows o bound t)) (timed_rows_asked o bound t)
  rows_told ok {n} e = ap answer e ∙ sym (ap (λ (v : Verdict). answer_by v (timed_rows_asked o bound t)) ok)
