-- A frame in the words of the crate `amounts`: caps are the stretches in the jobs' intervals, rooms the open processors times
-- the stretches' lengths. Its feasible amounts are the frame's; and either there are some or a cut violates.
use Rattle.std.specs.Prelude.{ℕ, zero, suc, ◌-◌, ◌*◌, ◌≤◌, ◌<◌, ◌≡◌, Bool, ◌⊎◌, leb, length}
use Rattle.std.proofs.Math.Path.{ap}
use Rattle.std.proofs.Common.{inl, inr, arith, mul-le-mul_right, le-leb}
use Rattle.std.proofs.Math.Decide.{dec_le}
use Rattle.std.proofs.lemmas.Bool.{lt-leb}
use Rattle.sums.specs.Sum.{sum, sum-cong}
use Rattle.sums.specs.Lists.{only}
use Rattle.sums.specs.Members.{All-map, in-All, nth_in}
use Rattle.sums.specs.Totals.{total-le, total-none}
use Rattle.order.specs.Order.{Order, job_count, Numbers, job_of, memory_of}
use Rattle.order.specs.Class.{classes, class_of}
use Rattle.order.proofs.ClassLaws.{class-of-processor}
use Rattle.amounts.specs.Flow.{Flow, held, Feasible, Cut}
use Rattle.amounts.specs.Complete.{Classes, Outcome, complete}
use Rattle.wrap.specs.Stretches.{held_up_to}
use Rattle.wrap.specs.HeldInOrder.{class_by, class-by-at-most}
use Rattle.wrap.specs.Flows.{by_number, gate-only}
use Rattle.wrap.specs.Frame.{Frame, length_in, cap_in, open_order, open_to, FeasibleIn}
use Rattle.wrap.specs.FrameLaws.{processor_class, open-are}

-- its jobs count from 0, so that job j has the number j + 1
abbrev pub flow_in : Order → Frame → Flow
flow_in o f =
    record {
      q = f.stretches;
      n = job_count o;
      time = λ j. (job_of o (suc j)).time;
      class = λ j. class_of o (job_of o (suc j));
      cap = λ j s. cap_in f (suc j) s;
      room = λ s k. open_to o f s k * length_in f s;
    }

-- each job has a class: it fits some processor
abbrev pub Classed : Order → Type 0
Classed o = (j : ℕ) → Numbers (job_count o) j → 0 < class_by o j

-- what counts for some classes counts for more
pub only-more : (c k m : ℕ) → k ≤ m → only (leb c k) 1 ≤ only (leb c m) 1
only-more c k m h =
    elim (dec_le c k) [
      | yes y ↦ rw (le-leb c k y, le-leb c m (omega arith)) (omega arith)
      | no y ↦ rw (lt-leb c k (omega arith)) (omega arith)
    ]

module _ (o : Order) (f : Frame) where
  held-is : (a : ℕ → ℕ → ℕ) (s k : ℕ) → held (flow_in o f) a s k ≡ held_up_to o (by_number a) k s
  unfolding held_up_to
  held-is a s k = sum-cong (job_count o) _ _ (λ j b. gate-only (class_of o (job_of o (suc j))) k (a j s))

  pub flow-feasible-in : {a : ℕ → ℕ → ℕ} → Feasible (flow_in o f) 1 a → FeasibleIn o f (by_number a)
  flow-feasible-in {a} F =
      record { within = within; whole = whole; fits = λ s k l. omega (arith, F.fits s k l, held-is a s k) }
    where
      within : (j s : ℕ) → Numbers (job_count o) j → s < f.stretches → by_number a j s ≤ cap_in f j s
      within zero s b l = absurd (omega arith)
      within (suc j) s b l = omega (arith, F.caps j s b.1 l)

      whole : (j : ℕ) → Numbers (job_count o) j → sum f.stretches (by_number a j) ≡ (job_of o j).time
      whole zero b = absurd (omega arith)
      whole (suc j) b = omega (arith, F.done j b.1)

  -- there is no room for no class, and no less for more classes
  open_none : (s : ℕ) → open_to o f s 0 ≡ 0
  unfolding open_to
  open_none s =
      total-none (open_order o f s) _ (All-map _ _ (open_order o f s)
      (λ i h.
      ap (λ (t : Bool). only t 1) (lt-leb (processor_class o i) 0
      (class-of-processor o (memory_of o i) (nth_in o.memories 0 i h.0.0 h.0.1)).0))
      (open-are o f s))

  pub open_more : (s k m : ℕ) → k ≤ m → open_to o f s k ≤ open_to o f s m
  unfolding open_to
  open_more s k m h =
      total-le (open_order o f s) _ _ (in-All _ (open_order o f s) (λ i w. only-more (processor_class o i) k m h))

  flow-classes : Classed o → Classes (flow_in o f) (suc (length (classes o)))
  flow-classes classed =
      record {
        some = omega arith;
        low = λ j b. classed (suc j) (omega arith, b);
        high = λ j b. omega (arith, class-by-at-most o (suc j));
        room-none = λ s l. omega (arith, ap (λ (m : ℕ). m * length_in f s) (open_none s));
        room-high = λ s k l h. mul-le-mul_right (length_in f s) (open_more s (suc (length (classes o)) - 1) k (omega arith));
      }

  -- feasible amounts, or a cut that violates
  pub frame-outcome : Classed o →
      ((a : ℕ → ℕ → ℕ) × FeasibleIn o f a) ⊎ Cut (flow_in o f) (suc (length (classes o)))
  frame-outcome classed = told (complete (flow_in o f) (suc (length (classes o))) (flow-classes classed))
    where
      told : Outcome (flow_in o f) (suc (length (classes o))) →
          ((a : ℕ → ℕ → ℕ) × FeasibleIn o f a) ⊎ Cut (flow_in o f) (suc (length (classes o)))
      told (inl w) = inl (by_number w.0, flow-feasible-in w.1)
      told (inr c) = inr c
