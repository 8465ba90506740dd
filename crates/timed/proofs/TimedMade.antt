-- How a plan is made of a table in the frame of its changes: the lent numbers agree with the frame; feasible amounts have a layout that is
-- right and keeps the times, and a cut shuts out every list of rows.
use Prim.Native.Nat.{ℕ, suc, ◌+◌, ◌-◌, ◌*◌, ◌≤◌, ◌<◌}
use mathlib.Core.Path.{◌≡◌, refl, ap}
use mathlib.Core.Bool.{Bool, true, false}
use mathlib.Core.List.{List, ◌++◌}
use native.Mathlib.Omega.{arith}
use native.Mathlib.Nat.{mul-le-mul, mul-le-mul_right, mul-le-mul_left}
use lib.IntN.{ℤ}
use lib.ListN.{length, drop}
use Rattle.sums.specs.Arrays.{RowOf}
use Rattle.amounts.specs.Flow.{Flow, Feasible, Cut}
use Rattle.engine.specs.View.{grid, Answer}
use Rattle.engine.specs.Run.{RunOf}
use Rattle.order.specs.Order.{Order, processor_count, job_count}
use Rattle.order.specs.Lead.{last_due, reach_at}
use Rattle.order.proofs.LeadLaws.{workable}
use Rattle.order.proofs.RefusalLaws.{Acceptable, accepted-iff}
use Rattle.plan.specs.Check.{numbers_of}
use Rattle.plan.specs.Join.{joined}
use Rattle.plan.specs.Plan.{Row}
use Rattle.wrap.specs.Flows.{amount_in}
use Rattle.wrap.specs.Frame.{Frame, FeasibleIn, layout_in, Rising}
use Rattle.wrap.specs.FrameAt.{RightTimed, timed-in, timed-out}
use Rattle.wrap.proofs.Joined.{joined-layout-right, joined-count-in}
use Rattle.feasible.specs.FramePlan.{cut-no-plan}
use Rattle.table.specs.Held.{by_number, ReadingOf}
use Rattle.table.specs.HeldLaws.{held-read}
use Rattle.table.specs.declared.Table.{Table}
use Rattle.allot.specs.Flows.{flow_on, Long, Sized}
use Rattle.allot.specs.InFrame.{Agrees, classed-in, sized-in-frame, feasible-in-frame, cut-in-frame, run-in-frame}
use Rattle.allot.specs.LaidInFrame.{planned-is, planned-given}
use Rattle.layout.specs.Laid.{Numbered}
use Rattle.layout.specs.Planned.{frame_lent, lent_frame, planned, Joinable}
use Rattle.timed.specs.Changes.{timed_frame}
use Rattle.timed.proofs.ChangeLaws.{timed-rising, timed-framed}
use Rattle.timed.specs.LentTimes.{times-agree}
use Rattle.timed.specs.Making.{RoomFor}
use Rattle.timed.specs.Times.{times_of}
use Rattle.timed.specs.Written.{TimedWritten}
use Rattle.timed.specs.declared.Changes.{Changes}
use Rattle.timed.specs.declared.Times.{Times as TimesTable}

-- the engine's answer, by what it says
pub cut_of : (flow : Flow) (m : ℕ) (w : ℕ → ℕ → ℕ) (r : Bool) → Answer flow m w r → r ≡ false → Cut flow m
cut_of flow m w true h e = absurd (let z : ◌≡◌ {A = ℕ} 0 1 = cc in omega (arith, z))
cut_of flow m w false h e = h

pub amounts-of : (flow : Flow) (m : ℕ) (w : ℕ → ℕ → ℕ) (r : Bool) → Answer flow m w r → r ≡ true → Feasible flow 1 w
amounts-of flow m w true h e = h
amounts-of flow m w false h e = absurd (let z : ◌≡◌ {A = ℕ} 0 1 = cc in omega (arith, z))

pub run_of : (flow : Flow) (m : ℕ) (w : ℕ → ℕ → ℕ) (r : Bool) → RunOf flow m w r → r ≡ true → RunOf flow m w true
run_of flow m w true h e = h
run_of flow m w false h e = absurd (let z : ◌≡◌ {A = ℕ} 0 1 = cc in omega (arith, z))

module _ {o : Order} {t : Table} {bound : ℤ} {times : TimesTable} {c : Changes} {lent : ℕ} (m : RoomFor o t bound times c lent)
    {reach : ℕ} {ds : List ℕ} (e : reach ≡ reach_at last_due bound) (hd : RowOf (λ j. reach - (by_number t).lead j) t.n ds) where
  abbrev a : Acceptable o
  a = (accepted-iff o).0 m.timed.accepted

  abbrev f : Frame
  f = timed_frame o bound (times_of times)

  abbrev g : Frame
  g = frame_lent c.count c.marks times.ready ds times.opens times.closes

  read : ReadingOf last_due o (by_number t)
  read = held-read o t m.timed.tabled

  up : Rising f
  up = timed-rising o bound (times_of times)

  few : f.stretches ≤ 128
  few = omega (arith, m.changed.few, m.changed.count-is)

  agrees : Agrees o f g
  agrees =
      times-agree o (workable o a) bound times c m.changed (by_number t) read e ds
      (record { at = λ j l. hd.at j (omega (arith, m.timed.tabled.jobs)) })

  small : (s : ℕ) → s < f.stretches → f.mark (suc s) ≤ 176000016
  small s l =
      let k : s < c.count = omega (arith, m.changed.count-is) in
      omega (arith, m.changed.marks-are s k, m.changed.marks-small s k)

  pub amounts-sized : Sized t g
  amounts-sized =
      sized-in-frame o t m.timed.tabled f g agrees (classed-in o (workable o a)) up few small

  pub amounts-long : length c.marks ≡ 128 → length times.ready ≡ 48 → length ds ≡ 48 → length times.opens ≡ 16 →
      length times.closes ≡ 16 → (w : List ℕ) → length w ≡ 6272 →
      Long t c.count c.marks times.ready ds times.opens times.closes w
  amounts-long lm lr ld lo lc w lw =
      let g = m.timed.tabled in
      record {
        l-marks = omega (arith, m.changed.few);
        l-ready = omega (arith, g.few-jobs);
        l-until = omega (arith, g.few-jobs);
        l-opens = omega (arith, g.few-processors);
        l-closes = omega (arith, g.few-processors);
        l-w = omega (
          arith,
          mul-le-mul_right c.count g.few-jobs,
          mul-le-mul_left 49 m.changed.few,
        );
      }

  -- where a cut violates there is no plan, in any parts
  pub none_made : Cut (flow_on t g) (suc t.s) → (p : ℕ) → 1 ≤ p → (rows : List Row) → ¬ RightTimed p o bound (times_of times) rows
  none_made cut p parts rows R =
      cut-no-plan o f (timed-framed o bound (times_of times)) (cut-in-frame o t m.timed.tabled f g agrees (by_number t) read cut) p parts rows
      (timed-in p o bound (times_of times) _ _ rows R)

  -- else the amounts are laid out
  module _ (w : List ℕ) (F : Feasible (flow_on t g) 1 (grid c.count w)) where
    feasible : FeasibleIn o f (amount_in c.count w)
    feasible = feasible-in-frame o t m.timed.tabled f g agrees (by_number t) read w F

    pub plan-given : length c.marks ≡ 128 → length times.opens ≡ 16 → length times.closes ≡ 16 → length w ≡ 6272 →
        ((t.m ≤ 16) × (t.n ≤ 48) × Numbered t.m t.by_memory × Numbered t.n t.by_need
        × (c.count ≤ 128) × (c.count ≤ length c.marks) × (t.m ≤ length times.opens) × (t.m ≤ length times.closes)
        × (t.n * c.count ≤ length w) × Rising (lent_frame c.count c.marks times.opens times.closes))
        × ((4 * length (planned t c.count c.marks times.opens times.closes w) ≤ lent)
        × Joinable (planned t c.count c.marks times.opens times.closes w))
    plan-given lm lo lc lw =
        let k = m.timed.tabled in
        planned-given o t k c.count c.marks times.ready ds times.opens times.closes w f agrees up feasible lent few
        (omega (arith, m.changed.few)) (omega (arith, k.few-processors)) (omega (arith, k.few-processors))
        (omega (arith, mul-le-mul_right c.count k.few-jobs, mul-le-mul_left 48 m.changed.few)) m.room

    plan-is : planned t c.count c.marks times.opens times.closes w ≡ layout_in o f (amount_in c.count w)
    plan-is =
        planned-is o t m.timed.tabled c.count c.marks times.ready ds times.opens times.closes w f agrees up

    pub plan-few : (count : ℕ) → count ≡ length (joined (planned t c.count c.marks times.opens times.closes w)) →
        count ≤ 8064
    plan-few count h =
        let n : job_count o + processor_count o - 1 ≤ 63 = omega (arith, a.few-jobs, a.few-processors) in
        omega (
          arith,
          h,
          ap (λ (rows : List Row). length (joined rows)) plan-is,
          joined-count-in o f up (amount_in c.count w),
          mul-le-mul {n₂ = 128} {m₂ = 63} few n,
        )

    pub plan-made : RunOf (flow_on t g) (suc t.s) (grid c.count w) true → (entry exit : List ℕ) (count : ℕ) →
        count ≡ length (joined (planned t c.count c.marks times.opens times.closes w)) →
        exit ≡ numbers_of (joined (planned t c.count c.marks times.opens times.closes w))
        ++ drop (4 * length (joined (planned t c.count c.marks times.opens times.closes w))) entry →
        TimedWritten o bound (times_of times) entry exit count
    plan-made run entry exit count h k =
        record {
          plan = joined (layout_in o f (amount_in c.count w));
          plan-of =
              record {
                amounts = amount_in c.count w;
                chosen = run-in-frame o t m.timed.tabled f g agrees (by_number t) read (grid c.count w) true run;
                feasible = feasible;
                plan-is = refl;
                right = timed-out 1 o bound (times_of times) _ _ _ (joined-layout-right o f up (amount_in c.count w) feasible);
              };
          rows_are = rw plan-is at k;
          count-is = rw plan-is at h;
        }
