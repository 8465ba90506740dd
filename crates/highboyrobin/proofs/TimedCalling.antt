-- How a call with times comes to its verdict: the answer's room, the file, the lists' lengths and the order, then the entry point.
use Rattle.std.specs.Prelude.{Ok, Err}
use Prim.Native.Nat.{ℕ, ◌≤◌}
use mathlib.Core.Path.{◌≡◌, refl, ap, ◌∙◌, subst}
use mathlib.Core.List.{List, [], ◌∷◌, ◌++◌}
use borrow.Author.Tests.{ltb-false}
use lib.IntN.{ℤ}
use lib.ListN.{length}
use Rattle.order.specs.Order.{Order}
use Rattle.order.specs.Refusals.{limits, clear, TableRow, Verdict, accepted, refused, judge, order_rows, file_row, Accepted}
use Rattle.order.proofs.RefusalLaws.{judge-accepted, judge-clear, judge-refused-append, whole-clear}
use Rattle.order.specs.Table.{order_of}
use Rattle.order.specs.declared.Order.{Order as OrderTable}
use Rattle.order_file.specs.File.{good_file, order_in}
use Rattle.sums.specs.Lists.{All}
use Rattle.wrap.specs.FrameAt.{Times}
use Rattle.timed.specs.Times.{times_of}
use Rattle.timed.specs.declared.Times.{Times as TimesTable}
use Rattle.highboyrobin.specs.Results.{result_of, answer_row}
use Rattle.highboyrobin.specs.TimedCalls.{times_from, times_in, wrong_times_row, timed_call, ReadBy}
use Rattle.highboyrobin.proofs.StatusTold.{status-refused, status-read}

module _ (lent : ℕ) (f ready windows : List ℕ) where
  abbrev call : List TableRow → List TableRow
  call rows = timed_call lent f ready windows rows

  abbrev ordered : List TableRow
  ordered = order_rows limits (order_in f)

  abbrev read : Verdict
  read = judge (timed_call lent f ready windows (order_rows limits (order_in f)))

  call-append : (rows later : List TableRow) → call (rows ++ later) ≡ call rows ++ later
  unfolding timed_call
  call-append rows later = refl

  -- what is refused by the first rows is the call's, since its rows begin with the order's
  pub timed-refused : (result : ℕ) → ReadBy read f ready windows (Err result) → (rows later : List TableRow) →
      rows ≡ order_rows limits (order_in f) ++ later →
      (k : ℕ) × (c : ℕ) × (judge (timed_call lent f ready windows rows) ≡ refused k c) × (result ≡ result_of (refused k c))
  timed-refused result h rows later begins =
      let w = status-refused read (Err result) _ h result refl in (
        w.0,
        w.1,
        ap (λ (xs : List TableRow). judge (call xs)) begins ∙ ap judge (call-append ordered later)
            ∙ judge-refused-append (call ordered) later w.0 w.1 w.2,
        w.3,
      )

  module _ (r : OrderTable × TimesTable) (h : ReadBy read f ready windows (Ok r)) where
    accepts : (read ≡ accepted) × ((order_of r.0 ≡ order_in f) × (r.1 ≡ times_from ready windows))
    accepts = status-read read (Ok r) _ h r refl

    -- what is told of the order, the bound and the times as they were read holds of them as they were lent
    pub timed-told : (P : Order → ℤ → Times → Type 0) (read bound : ℤ) → read ≡ bound → P (order_of r.0) read (times_of r.1) →
        P (order_in f) bound (times_in ready windows)
    timed-told P read bound e p =
        subst (λ (x : Times). P (order_in f) bound x) (ap times_of accepts.1.1)
        (subst (λ (z : ℤ). P (order_in f) z (times_of r.1)) e (subst (λ (x : Order). P x read (times_of r.1)) accepts.1.0 p))

    all-clear : All (λ (x : TableRow). x.finding ≡ clear) (call ordered)
    all-clear = (judge-accepted (call ordered)).0 accepts.0

    -- the entry point's rows decide
    pub timed-read : (rows : List TableRow) → judge (timed_call lent f ready windows rows) ≡ judge rows
    unfolding timed_call
    timed-read rows =
        judge-clear
        (answer_row lent 1 ∷ file_row (good_file f) ∷ wrong_times_row (order_in f) (length ready) (length windows) ∷ []) rows
        (all-clear.0, (all-clear.1.0, (all-clear.1.1.0, tt)))

    pub timed-accepted : Accepted (order_in f)
    unfolding timed_call
    timed-accepted = (judge-accepted ordered).1 all-clear.1.1.1

    pub timed-room : 1 ≤ lent
    unfolding timed_call
    timed-room = ltb-false lent 1 (whole-clear _ all-clear.0)
