-- The changes of an order, its times and the ends of its jobs, as lent numbers, agree with the order's frame.
use Prim.Native.Nat.{ℕ, zero, suc, ◌-◌, ◌≤◌, ◌<◌}
use Rattle.std.specs.Prelude.{◌≡◌, List, ℤ}
use Rattle.std.proofs.Math.Path.{refl}
use Rattle.std.proofs.Common.{arith}
use Rattle.sums.specs.Arrays.{RowOf}
use Rattle.order.specs.Order.{Order, processor_count, job_count, Numbers, job_of}
use Rattle.order.specs.Deadline.{deadline_of}
use Rattle.order.specs.Lead.{last_due, reach_at, Workable}
use Rattle.wrap.specs.Frame.{Frame, lies, open_in}
use Rattle.layout.specs.Planned.{frame_lent}
use Rattle.table.specs.Held.{Reading, ReadingOf}
use Rattle.allot.specs.GridMarks.{deadlines-are}
use Rattle.allot.specs.InFrame.{Agrees}
use Rattle.timed.specs.Changes.{mark_at, timed_frame}
use Rattle.timed.specs.Making.{ChangesOf}
use Rattle.timed.specs.Times.{times_of}
use Rattle.timed.specs.declared.Changes.{Changes}
use Rattle.timed.specs.declared.Times.{Times as TimesTable}

module _ (o : Order) (work : Workable last_due o) (bound : ℤ) (times : TimesTable) (c : Changes) (C : ChangesOf o bound (times_of times) c)
    (r : Reading) (R : ReadingOf last_due o r) {reach : ℕ} (e : reach ≡ reach_at last_due bound) (ds : List ℕ)
    (hd : RowOf (λ j. reach - r.lead j) (job_count o) ds) where
  abbrev f : Frame
  f = timed_frame o bound (times_of times)

  abbrev g : Frame
  g = frame_lent c.count c.marks times.ready ds times.opens times.closes

  marks-same : (s : ℕ) → s ≤ f.stretches → g.mark s ≡ f.mark s
  unfolding mark_at
  marks-same zero l = refl
  marks-same (suc s) l = C.marks-are s (omega (arith, C.count-is))

  ready-same : (j : ℕ) → Numbers (job_count o) j → g.ready j ≡ f.ready j
  ready-same zero b = absurd (omega arith)
  ready-same (suc j) b = refl

  until-same : (j : ℕ) → Numbers (job_count o) j → g.until j ≡ deadline_of bound (job_of o j)
  until-same zero b = absurd (omega arith)
  until-same (suc j) b = deadlines-are o work bound r R reach e ds hd j b.1

  open-same : (s i : ℕ) → s < f.stretches → Numbers (processor_count o) i → open_in g s i ≡ open_in f s i
  unfolding lies
  open-same s zero l b = absurd (omega (arith, b.0))
  open-same s (suc i) l b = rw (marks-same s (omega arith), marks-same (suc s) l) refl

  pub times-agree : Agrees o f g
  times-agree =
      record {
        stretches-same = C.count-is;
        marks-same = marks-same;
        ready-same = ready-same;
        until-same = until-same;
        open-same = open-same;
      }
