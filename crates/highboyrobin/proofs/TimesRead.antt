-- How a call with times comes to its verdict: the answer's room, the file, the lengths of the lists, then the reader.
use Rattle.std.specs.Prelude.{Option, Some, None, Result, Ok, Err}
use Prim.Native.Nat.{ℕ, ◌*◌, ◌≤◌}
use mathlib.Core.Path.{◌≡◌, refl, sym, ap, ◌∙◌}
use mathlib.Core.Bool.{true}
use mathlib.Core.List.{List}
use mathlib.Core.Logic.{◌≢◌}
use borrow.Author.Tests.{le-ltb, eq-eqb, ne_eqb}
use lib.ListN.{length}
use Rattle.order.specs.Refusals.{limits, Verdict, refused, judge, answer_by, order_rows}
use Rattle.order.specs.Table.{refusal_told}
use Rattle.order.proofs.TableLaws.{refused-told}
use Rattle.order.specs.declared.Order.{Order as OrderTable}
use Rattle.order.specs.declared.Refusal.{Refusal}
use Rattle.order_file.specs.File.{good_file, order_in, read_rows}
use Rattle.order_file.specs.Inside.{trailer_of, Within, Placed}
use Rattle.order_file.specs.ReaderLaws.{reader-refused, order_is, order-accepted}
use Rattle.order_file.specs.Told.{read_told}
use Rattle.order_file.specs.TrailerLaws.{trailer-bad, trailer-good, lists-placed, processors-are, jobs-are}
use Rattle.order_file.specs.declared.Lists.{Lists}
use Rattle.timed.specs.declared.Times.{Times as TimesTable}
use Rattle.highboyrobin.specs.Results.{result_of}
use Rattle.highboyrobin.specs.TimedCalls.{times_from, timed_call, ReadBy}
use Rattle.highboyrobin.proofs.StatusTold.{refused-status, read-status}

module _ (lent : ℕ) (f ready windows : List ℕ) where
  -- the verdict of the answer's room, the file, the lists and the order
  abbrev verdict : Verdict
  verdict = judge (timed_call lent f ready windows (order_rows limits (order_in f)))

  refuses : (number result : ℕ) → verdict ≡ refused number 0 → result ≡ result_of (refused number 0) →
      ReadBy verdict f ready windows (Err result)
  refuses number result v e = refused-status verdict (Err result) _ number 0 v (ap (λ (n : ℕ). Err n) e)

  module _ (room : 1 ≤ lent) (t : Option Lists) (is : t ≡ trailer_of f) where
    -- the file is bad
    bad : t ≡ None → verdict ≡ refused 12 0
    unfolding judge timed_call
    bad e = rw (le-ltb lent 1 room, trailer-bad f t is e)

    pub bad-file : t ≡ None → ReadBy verdict f ready windows (Err 12)
    bad-file e = refuses 12 12 (bad e) refl

    -- the file is good, and its trailer gives the lists l
    module _ (l : Lists) (w : Within f t) (good : t ≡ Some l) where
      placed : Placed f l.processors_at l.jobs_at l.processors l.jobs
      placed = lists-placed f t l w good

      is-good : good_file f ≡ true
      is-good = trailer-good f t is l good

      -- a list is not as long as the file's counts
      jobs-differ : length ready ≢ l.jobs → verdict ≡ refused 253 0
      unfolding judge timed_call
      jobs-differ d = rw (le-ltb lent 1 room, is-good, jobs-are f l placed, ne_eqb (length ready) l.jobs d)

      windows-differ : length ready ≡ l.jobs → length windows ≢ 2 * l.processors → verdict ≡ refused 253 0
      unfolding judge timed_call
      windows-differ e d =
          rw (
            le-ltb lent 1 room,
            is-good,
            jobs-are f l placed,
            processors-are f l placed,
            eq-eqb (length ready) l.jobs e,
            ne_eqb (length windows) (2 * l.processors) d,
          )

      pub other-jobs : length ready ≢ l.jobs → ReadBy verdict f ready windows (Err 253)
      other-jobs d = refuses 253 253 (jobs-differ d) refl

      module _ (ej : length ready ≡ l.jobs) where
        pub other-windows : length windows ≢ 2 * l.processors → ReadBy verdict f ready windows (Err 253)
        other-windows d = refuses 253 253 (windows-differ ej d) refl

        -- the lists are as long: the reader decides
        module _ (ew : length windows ≡ 2 * l.processors) (o : Result OrderTable Refusal)
            (e : read_told o ≡ answer_by (judge (read_rows f)) (order_in f)) where
          order-decides : verdict ≡ judge (order_rows limits (order_in f))
          unfolding judge timed_call
          order-decides =
              rw (
                le-ltb lent 1 room,
                is-good,
                jobs-are f l placed,
                processors-are f l placed,
                eq-eqb (length ready) l.jobs ej,
                eq-eqb (length windows) (2 * l.processors) ew,
              )

          reader-decides : judge (read_rows f) ≡ judge (order_rows limits (order_in f))
          unfolding judge read_rows
          reader-decides = rw is-good

          pub reader-refuses : (why : Refusal) → o ≡ Err why → (result : ℕ) → result ≡ result_of (refusal_told why) →
              ReadBy verdict f ready windows (Err result)
          reader-refuses why is result er =
              let v : verdict ≡ refusal_told why = order-decides ∙ (sym reader-decides ∙ reader-refused f o e why is) in
              let k = refused-told why in
              refused-status verdict (Err result) _ k.0 k.1 (v ∙ k.2) (ap (λ (n : ℕ). Err n) (er ∙ ap result_of k.2))

          pub reader-accepts : (order : OrderTable) → o ≡ Ok order → (times : TimesTable) → times ≡ times_from ready windows →
              ReadBy verdict f ready windows (Ok (order, times))
          reader-accepts order is times et =
              read-status verdict (Ok (order, times)) _ (order-decides ∙ order-accepted f o e order is) (order, times) refl
              (order_is f o e order is, et)
