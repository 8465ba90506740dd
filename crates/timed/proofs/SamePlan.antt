-- Document 02, §8, of the timed planner: its answer and its rows are equal to those of the input-order table. Whatever table they were
-- gathered from, the times at which something changes are the order's.
use Rattle.std.specs.Prelude.{ℕ, ◌+◌, ◌*◌, ◌-◌, ◌≡◌, refl, Bool, List, ◌↔◌, ℤ}
use Rattle.std.proofs.Common.{arith}
use Rattle.sums.specs.Places.{get_d_tabulate}
use Rattle.order.specs.Order.{Order}
use Rattle.order.specs.Lead.{last_due, reach_at}
use Rattle.order.proofs.LeadLaws.{workable}
use Rattle.order.specs.Refusals.{Accepted}
use Rattle.order.proofs.RefusalLaws.{accepted-iff}
use Rattle.wrap.specs.Frame.{Frame, Rising}
use Rattle.table.specs.Held.{Reading, by_number, by_place, ReadingOf}
use Rattle.table.specs.HeldLaws.{held-read, input-read}
use Rattle.table.specs.Tabled.{TabledBy, Tabled, InInputOrder}
use Rattle.table.specs.declared.Table.{Table}
use Rattle.allot.specs.InFrame.{Agrees}
use Rattle.allot.specs.SameRows.{
  ends_from,
  LentNumbers,
  frame_of,
  AnswerFrom,
  RowsFrom,
  RowsIn,
  rows-one,
  rows_in,
  answer-carried,
  rows-carried,
}
use Rattle.timed.specs.Changes.{timed_frame}
use Rattle.timed.proofs.ChangeLaws.{timed-rising}
use Rattle.timed.specs.LentTimes.{times-agree}
use Rattle.timed.specs.Making.{ChangesOf}
use Rattle.timed.specs.Times.{times_of}
use Rattle.timed.specs.Written.{TimedWritten}
use Rattle.timed.specs.declared.Changes.{Changes}
use Rattle.timed.specs.declared.Times.{Times as TimesTable}

-- the frame of these changes from a table whose jobs are so read, at a reach
abbrev pub lent_times : Reading → Table → ℕ → TimesTable → Changes → LentNumbers
lent_times r t reach times c =
    record {
      stretches = c.count;
      marks = c.marks;
      ready = times.ready;
      until = ends_from r t reach;
      opens = times.opens;
      closes = times.closes;
    }

-- `count` rows from it
abbrev pub TimedFrom : Reading → Table → ℕ → TimesTable → Changes → (entry exit : List ℕ) → ℕ → Type 0
TimedFrom r t reach times c entry exit count = RowsFrom r t (lent_times r t reach times c) entry exit count

module _ (o : Order) (ok : Accepted o) (bound : ℤ) (times : TimesTable) where
  abbrev reach : ℕ
  reach = reach_at last_due bound

  abbrev f : Frame
  f = timed_frame o bound (times_of times)

  up : Rising f
  up = timed-rising o bound (times_of times)

  framed : {number : ℕ → ℕ} (t : Table) → TabledBy number last_due o t → (r : Reading) → ReadingOf last_due o r → (c : Changes) →
      ChangesOf o bound (times_of times) c → Agrees o f (frame_of (lent_times r t reach times c))
  framed t m r R c C =
      times-agree o (workable o ((accepted-iff o).0 ok)) bound times c C r R refl (ends_from r t reach)
      (record { at = λ j l. get_d_tabulate t.n (λ j. reach - r.lead j) 0 j (omega (arith, m.jobs)) })

  written_in : (entry exit : List ℕ) (count : ℕ) → TimedWritten o bound (times_of times) entry exit count → RowsIn o f entry exit count
  written_in entry exit count W =
      let p = W.plan-of in
      record {
        amounts = p.amounts;
        run = p.chosen;
        rows_are = rw p.plan-is at W.rows_are;
        count-is = rw p.plan-is at W.count-is;
      }

  module _ (t u : Table) (m : Tabled last_due o t) (i : InInputOrder last_due o u) (c d : Changes)
      (C : ChangesOf o bound (times_of times) c) (D : ChangesOf o bound (times_of times) d) where
    held : Agrees o f (frame_of (lent_times (by_number t) t reach times c))
    held = framed t m (by_number t) (held-read o t m) c C

    input : Agrees o f (frame_of (lent_times (by_place u) u reach times d))
    input = framed u i (by_place u) (input-read o u i) d D

    abbrev of_held : LentNumbers
    of_held = lent_times (by_number t) t reach times c

    abbrev of_input : LentNumbers
    of_input = lent_times (by_place u) u reach times d

    -- 9: of both tables as many rows are asked for
    pub asked-same : c.count * (t.n + t.m - 1) ≡ d.count * (u.n + u.m - 1)
    asked-same = rw (C.count-is, D.count-is, m.jobs, i.jobs, m.processors, i.processors) refl

    -- 10: "too tight" is the answer of both or of neither
    pub answer-same : (w : List ℕ) (b : Bool) → AnswerFrom (by_number t) t of_held w b ↔ AnswerFrom (by_place u) u of_input w b
    answer-same w b = (
      answer-carried o f up t u m i (by_number t) (by_place u) (held-read o t m) (input-read o u i) of_held of_input held input w b,
      answer-carried o f up u t i m (by_place u) (by_number t) (input-read o u i) (held-read o t m) of_input of_held input held w b,
    )

    module _ (entry exit : List ℕ) (count : ℕ) where
      -- rows from §8's table are rows from the input-order table, and the other way round
      pub timed-rows-same : TimedFrom (by_number t) t reach times c entry exit count ↔ TimedFrom (by_place u) u reach times d entry exit count
      timed-rows-same = (
        rows-carried o f up t u m i (by_number t) (by_place u) (held-read o t m) (input-read o u i) of_held of_input held input entry exit
            count,
        rows-carried o f up u t i m (by_place u) (by_number t) (input-read o u i) (held-read o t m) of_input of_held input held entry exit
            count,
      )

      -- what the timed planner leaves by its contract are the rows from the input-order table, and there are no others
      pub timed-rows-planned : TimedWritten o bound (times_of times) entry exit count → (exit' : List ℕ) (count' : ℕ) →
          TimedFrom (by_place u) u reach times d entry exit' count' → (exit ≡ exit') × (count ≡ count')
      timed-rows-planned W exit' count' X =
          rows-one o f entry exit exit' count count' (written_in entry exit count W)
          (rows_in o f up u i (by_place u) (input-read o u i) of_input input entry exit' count' X)
