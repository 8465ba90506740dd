-- The frame of an order at a bound with a ready minute for each job and a window for each processor. Rows that are right for the order
-- and keep these times are those that are right in the frame, whatever its marks, in any parts of a minute.
use Rattle.std.specs.Prelude.{ℕ, ◌*◌, ◌≤◌, ◌<◌, List, ◌↔◌, ℤ, pos, ◌*ℤ◌, ◌≤ℤ◌}
use Rattle.std.proofs.Common.{arith}
use Rattle.sums.specs.Lists.{All}
use Rattle.sums.specs.Members.{All-map, All-both}
use Rattle.order.specs.Order.{Order, job_of, end_of}
use Rattle.order.specs.Deadline.{deadline_of}
use Rattle.order.specs.Ends.{≤-mul-cut, mul-cut-≤}
use Rattle.plan.specs.Plan.{Row, RightInParts}
use Rattle.wrap.specs.Frame.{Frame, RightIn}

-- a ready minute for each job, an opening and a closing minute for each processor, by their numbers
pub record Times : Type 0 where
  pub ready : ℕ → ℕ
  pub opens : ℕ → ℕ
  pub closes : ℕ → ℕ

-- no row begins before its job's ready minute or its processor's opening, nor has a `to` above that processor's closing
abbrev pub InWindows : ℕ → Times → List Row → Type 0
InWindows p t rows =
    All (λ (r : Row). (p * t.ready r.job ≤ r.from) × (p * t.opens r.processor ≤ r.from)
    × (r.to ≤ p * t.closes r.processor)) rows

abbrev pub RightTimed : ℕ → Order → ℤ → Times → List Row → Type 0
RightTimed p o bound t rows = RightInParts p o bound rows × InWindows p t rows

-- the frame of an order at a bound, with any marks
abbrev pub frame_at : Order → ℤ → Times → ℕ → (ℕ → ℕ) → Frame
frame_at o bound t stretches mark =
    record {
      stretches = stretches;
      mark = mark;
      ready = t.ready;
      until = λ j. deadline_of bound (job_of o j);
      opens = t.opens;
      closes = t.closes;
    }

-- a row that is not empty ends by its job's end exactly if it ends by the deadline
pub by-end-is : (p : ℕ) (o : Order) (bound : ℤ) (r : Row) → r.from < r.to →
    (pos r.to ≤ℤ (pos p *ℤ end_of bound (job_of o r.job))) ↔ (r.to ≤ p * deadline_of bound (job_of o r.job))
unfolding deadline_of
by-end-is p o bound r l = (
  ≤-mul-cut r.to p (end_of bound (job_of o r.job)) (omega arith),
  mul-cut-≤ r.to p (end_of bound (job_of o r.job)) (omega arith),
)

-- rows that keep the times are those that are right in the frame, whatever its marks
module _ (p : ℕ) (o : Order) (bound : ℤ) (t : Times) (q : ℕ) (mark : ℕ → ℕ) (rows : List Row) where
  pub timed-in : RightTimed p o bound t rows → RightIn p o (frame_at o bound t q mark) rows
  timed-in R =
      record {
        well-formed = R.0.well-formed;
        in-interval = All-map _ _ rows
            (λ (r : Row) h. (h.1.1.0, (by-end-is p o bound r h.0.forward).0 h.1.0))
            (All-both _ _ rows R.0.well-formed (All-both _ _ rows R.0.by_end R.1));
        in_window = All-map _ _ rows (λ (r : Row) h. (h.1, h.2)) R.1;
        jobs-apart = R.0.jobs-apart;
        processors-apart = R.0.processors-apart;
        whole = R.0.whole;
      }

  pub timed-out : RightIn p o (frame_at o bound t q mark) rows → RightTimed p o bound t rows
  timed-out R = (
    record {
      well-formed = R.well-formed;
      by_end = All-map _ _ rows
          (λ (r : Row) h. (by-end-is p o bound r h.0.forward).1 h.1.1)
          (All-both _ _ rows R.well-formed R.in-interval);
      jobs-apart = R.jobs-apart;
      processors-apart = R.processors-apart;
      whole = R.whole;
    },
    All-map _ _ rows (λ (r : Row) h. (h.0.0, h.1.0, h.1.1)) (All-both _ _ rows R.in-interval R.in_window),
  )
