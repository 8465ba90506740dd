-- How a plan is made of a table where there is no reason: its amounts are the order's and feasible, their layout has room, and joined it is
-- right.
use Prim.Native.Nat.{ℕ, suc, ◌-◌, ◌*◌, ◌≤◌, ◌<◌}
use mathlib.Core.Path.{◌≡◌, refl, ap, ◌∙◌}
use mathlib.Core.Bool.{Bool}
use mathlib.Core.List.{List, ◌++◌}
use native.Mathlib.Omega.{arith}
use native.Mathlib.Nat.{mul-le-mul_left, mul-le-mul_right}
use lib.IntN.{ℤ}
use lib.ListN.{length, get_or, drop}
use Rattle.sums.specs.Arrays.{RowOf}
use Rattle.order.specs.Order.{Order}
use Rattle.order.specs.Lead.{last_due, reach_at}
use Rattle.order.proofs.LeadLaws.{workable}
use Rattle.order.proofs.RefusalLaws.{Acceptable, accepted-iff}
use Rattle.order.specs.SortedLaws.{dues-few}
use Rattle.plan.specs.Check.{numbers_of}
use Rattle.plan.specs.Join.{joined}
use Rattle.plan.specs.Plan.{Row}
use Rattle.wrap.specs.Stretches.{FeasibleFor}
use Rattle.wrap.specs.Marks.{mark-up}
use Rattle.wrap.specs.Layout.{layout}
use Rattle.wrap.proofs.LayoutJoined.{joined-few, joined-plan}
use Rattle.wrap.specs.Flows.{amount_in}
use Rattle.wrap.specs.Frame.{Frame, Rising}
use Rattle.wrap.proofs.FrameBase.{base_frame, layout_is, feasible-in}
use Rattle.engine.specs.View.{grid, Answer}
use Rattle.engine.specs.Run.{RunOf}
use Rattle.table.specs.Held.{by_number}
use Rattle.table.specs.HeldLaws.{held-read}
use Rattle.table.specs.declared.Table.{Table}
use Rattle.allot.specs.Flows.{flow_on, Long, Sized}
use Rattle.allot.specs.InFrame.{Agrees}
use Rattle.allot.specs.LaidInFrame.{planned-is, planned-given}
use Rattle.allot.specs.GridMarks.{lent-agrees}
use Rattle.allot.proofs.Feasible.{tabled-sized, tabled-feasible, tabled-chosen}
use Rattle.layout.specs.Laid.{Numbered}
use Rattle.layout.specs.Planned.{frame_lent, lent_frame, planned, Joinable}
use Rattle.planner.specs.RowLaws.{asked-few}
use Rattle.planner.specs.Written.{Written}
use Rattle.planner.specs.Making.{MadeOf}

module _ {o : Order} {t : Table} {bound : ℤ} {lent : ℕ} (m : MadeOf o t bound lent) {reach : ℕ} {ds ms : List ℕ}
    (e : reach ≡ reach_at last_due bound) (hd : RowOf (λ j. reach - (by_number t).lead j) t.n ds)
    (hm : RowOf (λ i. reach - get_or t.grid i 0) 48 ms) where
  abbrev a : Acceptable o
  a = (accepted-iff o).0 m.accepted

  -- every job is lent as ready at 0, every processor as open from 0 to the reach
  module _ (zs opens closes : List ℕ) (hz : (j : ℕ) → j < 48 → get_or zs j 0 ≡ 0) (ho : (i : ℕ) → i < 16 → get_or opens i 0 ≡ 0)
      (hc : (i : ℕ) → i < 16 → get_or closes i 0 ≡ reach) where
    abbrev lent_by : Frame
    lent_by = frame_lent t.q ms zs ds opens closes

    agrees : Agrees o (base_frame o bound) lent_by
    agrees =
        lent-agrees o (workable o a) bound t m.tabled (by_number t) (held-read o t m.tabled) reach e ds ms hd hm zs opens closes
        hz ho hc

    pub amounts-sized : Sized t lent_by
    amounts-sized = tabled-sized o a bound m.bound-good t m.tabled lent_by agrees

    pub amounts-fit : length ms ≡ 48 → length zs ≡ 48 → length ds ≡ 48 → length opens ≡ 16 → length closes ≡ 16 →
        (w : List ℕ) → length w ≡ 2352 → (Sized t lent_by × (t.q ≤ 48)) × Long t t.q ms zs ds opens closes w
    amounts-fit lm lz ld lo lc w lw = (
      (amounts-sized, m.tabled.grid.few),
      record {
        l-marks = omega (arith, m.tabled.grid.few);
        l-ready = omega (arith, m.tabled.few-jobs);
        l-until = omega (arith, m.tabled.few-jobs);
        l-opens = omega (arith, m.tabled.few-processors);
        l-closes = omega (arith, m.tabled.few-processors);
        l-w = omega (
          arith,
          mul-le-mul_right t.q m.tabled.few-jobs,
          mul-le-mul_left 49 m.tabled.grid.few,
        );
      },
    )

    -- the plan laid out is the order's layout
    plan-is : (w : List ℕ) → planned t t.q ms opens closes w ≡ layout o bound (amount_in t.q w)
    plan-is w =
        planned-is o t m.tabled t.q ms zs ds opens closes w (base_frame o bound) agrees (mark-up o bound)
        ∙ layout_is o bound (amount_in t.q w)

    -- the engine's amounts are feasible
    plan-feasible : (w : List ℕ) (r : Bool) → Answer (flow_on t lent_by) (suc t.s) (grid t.q w) r →
        FeasibleFor o bound (amount_in t.q w)
    plan-feasible w r answer = tabled-feasible o (workable o a) bound m.no-reason t m.tabled lent_by agrees w r answer

    pub plan-given : (w : List ℕ) (r : Bool) → Answer (flow_on t lent_by) (suc t.s) (grid t.q w) r →
        length ms ≡ 48 → length opens ≡ 16 → length closes ≡ 16 → length w ≡ 2352 →
        ((t.m ≤ 16) × (t.n ≤ 48) × Numbered t.m t.by_memory × Numbered t.n t.by_need
        × (t.q ≤ 128) × (t.q ≤ length ms) × (t.m ≤ length opens) × (t.m ≤ length closes)
        × (t.n * t.q ≤ length w) × Rising (lent_frame t.q ms opens closes))
        × ((4 * length (planned t t.q ms opens closes w) ≤ lent) × Joinable (planned t t.q ms opens closes w))
    plan-given w r answer lm lo lc lw =
        planned-given o t m.tabled t.q ms zs ds opens closes w (base_frame o bound) agrees (mark-up o bound)
        (feasible-in o bound (amount_in t.q w) (plan-feasible w r answer)) lent
        (omega (arith, dues-few o, a.few-jobs)) (omega (arith, m.tabled.grid.few)) (omega (arith, m.tabled.few-processors))
        (omega (arith, m.tabled.few-processors))
        (omega (arith, mul-le-mul_right t.q m.tabled.few-jobs, mul-le-mul_left 48 m.tabled.grid.few)) m.room

    pub plan-made : (w : List ℕ) (r : Bool) → Answer (flow_on t lent_by) (suc t.s) (grid t.q w) r →
        RunOf (flow_on t lent_by) (suc t.s) (grid t.q w) r → (entry exit : List ℕ) (count : ℕ) →
        count ≡ length (joined (planned t t.q ms opens closes w)) →
        exit ≡ numbers_of (joined (planned t t.q ms opens closes w))
        ++ drop (4 * length (joined (planned t t.q ms opens closes w))) entry → Written o bound entry exit count
    plan-made w r answer run entry exit count f g =
        let b : ℕ → ℕ → ℕ = amount_in t.q w in
        let feasible = plan-feasible w r answer in
        record {
          plan = joined (layout o bound b);
          plan-of =
              record {
                amounts = b;
                chosen = tabled-chosen o (workable o a) bound m.no-reason t m.tabled lent_by agrees w r answer run;
                feasible = feasible;
                plan-is = refl;
                right = joined-plan o bound b feasible;
              };
          rows_are = rw (plan-is w) at g;
          count-is = rw (plan-is w) at f;
        }

    pub plan-few : (w : List ℕ) (count : ℕ) → count ≡ length (joined (planned t t.q ms opens closes w)) → count ≤ 3024
    plan-few w count f =
        let e : length (joined (planned t t.q ms opens closes w)) ≡ length (joined (layout o bound (amount_in t.q w))) =
        ap (λ (l : List Row). length (joined l)) (plan-is w) in
        omega (arith, f, e, joined-few o bound (amount_in t.q w), asked-few o m.accepted)
