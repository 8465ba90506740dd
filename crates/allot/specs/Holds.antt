-- Tables that hold a frame's numbers: amounts that are feasible for them are feasible in the frame, and a cut that violates them
-- violates in it.
use Rattle.std.specs.Prelude.{ℕ, suc, ◌*◌, ◌≤◌, ◌<◌, min, ◌≡◌, length}
use Rattle.std.proofs.Common.{mul-le-mul_right, arith}
use Rattle.amounts.specs.Flow.{Flow, Feasible, Cut}
use Rattle.amounts.specs.Same.{same-violating, same-feasible}
use Rattle.order.specs.Order.{Order, job_count, job_of}
use Rattle.order.specs.Class.{classes, class_of}
use Rattle.wrap.specs.HeldInOrder.{class-by-at-most}
use Rattle.wrap.specs.Flows.{by_number}
use Rattle.wrap.specs.Frame.{Frame, length_in, cap_in, open_to, FeasibleIn}
use Rattle.wrap.specs.FrameFlow.{flow_in, open_more, flow-feasible-in}
use Rattle.allot.specs.AtTop.{feasible-at-top}

-- tables hold a frame's numbers: those of its jobs, stretches and classes
pub record Holds (o : Order) (f : Frame) (t : Flow) (S : ℕ) : Type 0 where
  pub jobs-are : t.n ≡ job_count o
  pub stretches-are : t.q ≡ f.stretches
  pub classes-are : S ≡ length (classes o)
  pub times-are : (j : ℕ) → j < job_count o → t.time j ≡ (job_of o (suc j)).time
  pub job-classes-are : (j : ℕ) → j < job_count o → t.class j ≡ class_of o (job_of o (suc j))
  pub caps-are : (j s : ℕ) → j < job_count o → s < f.stretches → t.cap j s ≡ cap_in f (suc j) s
  pub rooms-are : (s k : ℕ) → s < f.stretches → k ≤ length (classes o) → t.room s k ≡ open_to o f s k * length_in f s

module _ (o : Order) (f : Frame) (t : Flow) (S : ℕ) (H : Holds o f t S) where
  room-no-more : (s k : ℕ) → s < f.stretches → t.room s (min k (length (classes o))) ≤ open_to o f s k * length_in f s
  room-no-more s k b =
      omega (
        arith,
        H.rooms-are s (min k (length (classes o))) b (omega arith),
        mul-le-mul_right (length_in f s) (open_more o f s (min k (length (classes o))) k (omega arith)),
      )

  class-high : (j : ℕ) → j < job_count o → t.class j ≤ length (classes o)
  class-high j l = omega (arith, H.job-classes-are j l, class-by-at-most o (suc j))

  pub holds-feasible : (a : ℕ → ℕ → ℕ) → Feasible t 1 a → FeasibleIn o f (by_number a)
  holds-feasible a F =
      let flow = flow_in o f in
      flow-feasible-in o f
      (same-feasible (job_count o) f.stretches t.time flow.time t.class flow.class t.cap flow.cap
      (λ s k. t.room s (min k (length (classes o)))) flow.room H.times-are H.job-classes-are H.caps-are
      room-no-more 1 a
      (feasible-at-top (job_count o) f.stretches t.time t.class t.cap t.room (length (classes o)) class-high 1 a
      (record {
        parts = F.parts;
        caps = λ j s b l. F.caps j s (omega (arith, H.jobs-are)) (omega (arith, H.stretches-are));
        done = λ j b.
            rw H.stretches-are at (F.done j (omega (arith, H.jobs-are)));
        fits = λ s k l. rw H.jobs-are at (F.fits s k (omega (arith, H.stretches-are)));
      })))

  pub holds-cut : Cut t (suc S) → Cut (flow_in o f) (suc (length (classes o)))
  holds-cut c =
      let flow = flow_in o f in
      let low : (s : ℕ) → c.κ s < suc (length (classes o)) = λ s. omega (arith, c.below s, H.classes-are) in
      record {
        κ = c.κ;
        below = low;
        violating =
            same-violating (job_count o) f.stretches t.time flow.time t.class flow.class t.cap flow.cap
            t.room flow.room H.times-are H.job-classes-are H.caps-are (suc (length (classes o)))
            (λ s k b l. H.rooms-are s k b (omega arith)) c.κ (λ s _. low s)
            (rw (H.jobs-are, H.stretches-are) at c.violating);
      }
