-- A table of an order in a frame of lent numbers that agrees with a frame of the order: it holds that frame's numbers; so feasible
-- amounts of its flow are feasible in the frame, a cut that violates in its flow violates in the frame, and its run is the frame's.
use Prim.Native.Nat.{ℕ, zero, suc, pred, ◌*◌, ◌≤◌, ◌<◌}
use Rattle.std.specs.Prelude.{◌≡◌, Bool, leb, ℤ, pos, length, get_or}
use Rattle.std.proofs.Math.Path.{refl, ap}
use Rattle.std.proofs.Common.{◌∙◌}
use mathlib.Core.List.{List}
use native.Mathlib.Omega.{arith}
use Rattle.sums.specs.Sum.{sum}
use Rattle.sums.specs.Lists.{total, only, keep}
use Rattle.sums.specs.Kept.{keep_same}
use Rattle.sums.specs.Members.{All-map, nth_in}
use Rattle.sums.specs.Totals.{total-cong}
use Rattle.amounts.specs.Flow.{Feasible, Cut}
use Rattle.engine.specs.View.{grid}
use Rattle.engine.specs.Run.{SameFlow, RunOf}
use Rattle.engine.specs.RunLaws.{flow-turned, run-carried}
use Rattle.order.specs.Order.{Order, processor_count, job_count, Numbers, job_of, memory_of}
use Rattle.order.specs.Class.{classes}
use Rattle.order.proofs.ClassLaws.{class-at-most, class-of-processor}
use Rattle.order.specs.Lead.{Workable}
use Rattle.order.specs.OrderingLaws.{processors-ordered}
use Rattle.order.specs.Sorted.{processor_order}
use Rattle.wrap.specs.Stretches.{held_up_to}
use Rattle.wrap.specs.HeldInOrder.{class-by-at-most}
use Rattle.wrap.specs.Flows.{by_number, amount_in, jobs-classed}
use Rattle.wrap.specs.Frame.{Frame, length_in, lies, cap_in, open_in, open_order, open_to, FeasibleIn, Rising}
use Rattle.wrap.specs.FrameLaws.{processor_class, open-are}
use Rattle.wrap.specs.FrameFlow.{flow_in, Classed}
use Rattle.layout.specs.PlannedLaws.{first-processors, processors-numbered}
use Rattle.table.specs.Held.{Reading, ReadingOf}
use Rattle.table.specs.HeldLaws.{beside-once}
use Rattle.table.specs.Tabled.{TabledBy}
use Rattle.table.specs.declared.Table.{Table}
use Rattle.allot.specs.Flows.{open_on, flow_from, Sized}
use Rattle.allot.specs.Holds.{Holds, holds-feasible, holds-cut}

-- every job of a workable order has a class
pub classed-in : {top : ℤ} (o : Order) → Workable top o → Classed o
classed-in o work zero b = absurd (omega arith)
classed-in o work (suc j) b = jobs-classed o (pos 0) work j b.1

-- the frame g says what f does of the order's jobs and processors
pub record Agrees (o : Order) (f g : Frame) : Type 0 where
  pub stretches-same : g.stretches ≡ f.stretches
  pub marks-same : (s : ℕ) → s ≤ f.stretches → g.mark s ≡ f.mark s
  pub ready-same : (j : ℕ) → Numbers (job_count o) j → g.ready j ≡ f.ready j
  pub until-same : (j : ℕ) → Numbers (job_count o) j → g.until j ≡ f.until j
  pub open-same : (s i : ℕ) → s < f.stretches → Numbers (processor_count o) i → open_in g s i ≡ open_in f s i

module _ {top : ℤ} {number : ℕ → ℕ} (o : Order) (t : Table) (m : TabledBy number top o t) (f g : Frame) (A : Agrees o f g) where
  caps-are : (j s : ℕ) → j < job_count o → s < f.stretches → cap_in g (suc j) s ≡ cap_in f (suc j) s
  unfolding lies
  caps-are j s l b =
      rw (
        A.marks-same s (omega arith),
        A.marks-same (suc s) b,
        A.ready-same (suc j) (omega arith, l),
        A.until-same (suc j) (omega arith, l),
      ) refl

  -- the classes of the processors by number
  kind-is : (i : ℕ) → Numbers (processor_count o) i → get_or t.kinds (pred i) 0 ≡ processor_class o i
  kind-is zero b = absurd (omega arith)
  kind-is (suc i) b = m.kinds i b.1

  opened : (s k : ℕ) → s < f.stretches → open_on t g s k ≡ open_to o f s k
  unfolding open_to open_order
  opened s k b =
      ap (λ (ps : List ℕ). total (keep (open_in g s) ps) (λ i. only (leb (get_or t.kinds (pred i) 0) k) 1)) (first-processors o t m)
      ∙ ap (λ (ps : List ℕ). total ps (λ i. only (leb (get_or t.kinds (pred i) 0) k) 1))
      (keep_same (open_in g s) (open_in f s) (processor_order o)
      (All-map (Numbers (processor_count o)) _ (processor_order o) (λ i h. A.open-same s i b h) (processors-ordered o).no_other))
      ∙ total-cong (open_order o f s) _ _ (All-map _ _ (open_order o f s)
      (λ i h. ap (λ (c : ℕ). only (leb c k) 1) (kind-is i h.0)) (open-are o f s))

  rooms-are : (s k : ℕ) → s < f.stretches → open_on t g s k * length_in g s ≡ open_to o f s k * length_in f s
  rooms-are s k b = rw (opened s k b, A.marks-same s (omega arith), A.marks-same (suc s) b) refl

  -- flat amounts by job number: the number 0 names no job
  by_number_lem : (q : ℕ) (w : List ℕ) → FeasibleIn o f (by_number (grid q w)) → FeasibleIn o f (amount_in q w)
  unfolding held_up_to
  by_number_lem q w h = record { within = within; whole = whole; fits = h.fits }
    where
      within : (j s : ℕ) → Numbers (job_count o) j → s < f.stretches → amount_in q w j s ≤ cap_in f j s
      within zero s b l = absurd (omega arith)
      within (suc j) s b l = h.within (suc j) s b l

      whole : (j : ℕ) → Numbers (job_count o) j → sum f.stretches (amount_in q w j) ≡ (job_of o j).time
      whole zero b = absurd (omega arith)
      whole (suc j) b = h.whole (suc j) b

  -- with the jobs read in input order
  module _ (r : Reading) (R : ReadingOf top o r) where
    holds : Holds o f (flow_from r t g) t.s
    holds =
        record {
          jobs-are = m.jobs;
          stretches-are = A.stretches-same;
          classes-are = m.classed;
          times-are = R.times;
          job-classes-are = R.classes;
          caps-are = caps-are;
          rooms-are = λ s k b l. rooms-are s k b;
        }

    pub feasible-in-frame : (w : List ℕ) → Feasible (flow_from r t g) 1 (grid g.stretches w) →
        FeasibleIn o f (amount_in g.stretches w)
    feasible-in-frame w F =
        by_number_lem g.stretches w (holds-feasible o f (flow_from r t g) t.s holds (grid g.stretches w) F)

    pub cut-in-frame : Cut (flow_from r t g) (suc t.s) → Cut (flow_in o f) (suc (length (classes o)))
    cut-in-frame c = holds-cut o f (flow_from r t g) t.s holds c

    flow-same : SameFlow (suc (length (classes o))) (flow_from r t g) (flow_in o f)
    flow-same =
        record {
          n-same = m.jobs;
          q-same = A.stretches-same;
          time-same = R.times;
          class_same = R.classes;
          cap-same = caps-are;
          room-same = λ s k b l. rooms-are s k b;
        }

    -- its run is the order's, both ways
    pub run-in-frame : (a : ℕ → ℕ → ℕ) (b : Bool) → RunOf (flow_from r t g) (suc t.s) a b →
        RunOf (flow_in o f) (suc (length (classes o))) a b
    run-in-frame a b h =
        run-carried (suc (length (classes o))) (flow_from r t g) (flow_in o f) a b flow-same (rw m.classed at h)

    pub run-of-frame : (a : ℕ → ℕ → ℕ) (b : Bool) → RunOf (flow_in o f) (suc (length (classes o))) a b →
        RunOf (flow_from r t g) (suc t.s) a b
    run-of-frame a b h =
        rw m.classed
        (run-carried (suc (length (classes o))) (flow_in o f) (flow_from r t g) a b
        (flow-turned (suc (length (classes o))) (flow_from r t g) (flow_in o f) flow-same) h)

  -- its numbers are small where those of the frame are
  pub sized-in-frame : Classed o → Rising f → f.stretches ≤ 128 →
      ((s : ℕ) → s < f.stretches → f.mark (suc s) ≤ 176000016) → Sized t g
  sized-in-frame classed up few small =
      record {
        few-jobs = m.few-jobs;
        few-processors = m.few-processors;
        few-classes = m.few-classes;
        few-stretches = omega (arith, A.stretches-same);
        job-numbers = beside-once o t m;
        classed = λ k b.
            let l : k < job_count o = omega (arith, m.jobs) in (
              omega (arith, m.classes-of k l, classed (number k) (m.each-once.are k l)),
              omega (arith, m.classes-of k l, class-by-at-most o (number k), m.classed),
            );
        numbered = processors-numbered o t m;
        kinds = rw (first-processors o t m)
            (All-map (Numbers (processor_count o)) _ (processor_order o) kind (processors-ordered o).no_other);
        rising = λ s b.
            let l : s < f.stretches = omega (arith, A.stretches-same) in
            omega (arith, A.marks-same s (omega arith), A.marks-same (suc s) l, up s l);
        marks-small = λ s b.
            let l : s < f.stretches = omega (arith, A.stretches-same) in
            omega (arith, A.marks-same (suc s) l, small s l);
      }
    where
      kind : (i : ℕ) → Numbers (processor_count o) i →
          Numbers 16 i × ((1 ≤ get_or t.kinds (pred i) 0) × (get_or t.kinds (pred i) 0 ≤ t.s))
      kind i b =
          let c = class-of-processor o (memory_of o i) (nth_in o.memories 0 i b.0 b.1) in (
            (b.0, omega (arith, b.1, m.processors, m.few-processors)),
            (
              omega (arith, kind-is i b, c.0),
              omega (arith, kind-is i b, class-at-most o (memory_of o i), m.classed),
            ),
          )
