-- Document 01's planner is a frame: every job is ready at minute 0 and may run to its end cut off at 0, the marks are 0 and the
-- ends upwards, and no processor closes before the last of them. Its layout, its feasible amounts and its right plans are the
-- frame's; so document 01's theorems on them follow from those on frames.
use Prim.Native.Nat.{ℕ, zero, suc, ◌*◌, ◌≤◌, ◌<◌}
use Rattle.std.specs.Prelude.{◌≡◌, leb, ℤ}
use Rattle.std.proofs.Math.Path.{refl, sym, ap}
use Rattle.std.proofs.Common.{◌∙◌, arith, mul-le-mul_left}
use mathlib.Core.List.{List, ◌++◌}
use Rattle.std.proofs.Math.Decide.{dec_le, dec_lt}
use Rattle.sums.specs.Kept.{keep-whole}
use Rattle.sums.specs.Lists.{total, only}
use Rattle.sums.specs.Members.{All-map, All-both, in-All}
use Rattle.sums.specs.Totals.{only-le, total-numbers}
use Rattle.order.specs.Order.{Order, job_count, Numbers, job_of}
use Rattle.order.specs.Sorted.{processor_order, job_order}
use Rattle.order.specs.Class.{class_for, processors_to}
use Rattle.order.proofs.ClassLaws.{processors_to-is}
use Rattle.order.specs.OrderingLaws.{processors-ordered}
use Rattle.order.specs.Deadline.{deadline_of}
use Rattle.plan.specs.Plan.{Row, RightInParts}
use Rattle.wrap.specs.Stretches.{stretch_count, mark, stretch_length, FeasibleFor}
use Rattle.wrap.specs.Marks.{mark-zero, mark-up, mark-mono}
use Rattle.wrap.specs.DuePlaces.{due_index, due_index-mark}
use Rattle.wrap.specs.Layout.{fill, shares_of, stretch_rows, rows_up_to, layout}
use Rattle.wrap.specs.Frame.{
  Frame,
  RightIn,
  lies,
  open_in,
  open_order,
  open_to,
  FeasibleIn,
  stretch_rows_in,
  in_turn,
  layout_in,
  Framed,
}
use Rattle.wrap.specs.FrameLaws.{lies-true, lies-is, only-some, processor_class}
use Rattle.wrap.specs.FrameAt.{Times, InWindows, frame_at, by-end-is, timed-in, timed-out}

-- Document 01's frame ------------------------------------------------------------------------------------------------------

-- every job is ready at minute 0, every processor open from 0 to the last of the time
abbrev pub always : (last : ℕ) → Times
always last = record { ready = λ j. 0; opens = λ i. 0; closes = λ i. last }

abbrev pub base_frame : Order → ℤ → Frame
base_frame o bound = frame_at o bound (always (mark o bound (stretch_count o))) (stretch_count o) (mark o bound)

module _ (o : Order) (bound : ℤ) where
  pub base-framed : Framed o (base_frame o bound)
  base-framed =
      record {
        rising = mark-up o bound;
        ready_marked = λ j b. (0, omega arith, mark-zero o bound);
        until-marked = until;
        opens-marked = λ i b. (0, omega arith, mark-zero o bound);
        closes-marked = λ i b. (stretch_count o, omega arith, refl);
      }
    where
      until : (j : ℕ) → Numbers (job_count o) j →
          (i : ℕ) × (i ≤ stretch_count o) × (mark o bound i ≡ deadline_of bound (job_of o j))
      until zero b = absurd (omega arith)
      until (suc j) b = let h = due_index-mark o bound j b.1 in (due_index o j, h.1, h.2)

  -- no deadline is behind the last mark
  deadline-last : (j : ℕ) → Numbers (job_count o) j → deadline_of bound (job_of o j) ≤ mark o bound (stretch_count o)
  deadline-last j b =
      let h = base-framed.until-marked j b in
      omega (arith, h.2, mark-mono o bound h.0 (stretch_count o) h.1 (omega arith))

  -- Right plans are those that are right in the frame, in any parts.
  module _ (p : ℕ) (rows : List Row) where
    never-closed : RightInParts p o bound rows → InWindows p (always (mark o bound (stretch_count o))) rows
    never-closed R =
        All-map _ _ rows
        (λ (r : Row) h. (
          omega arith,
          omega arith,
          omega (
            arith,
            (by-end-is p o bound r h.0.forward).0 h.1,
            mul-le-mul_left p (deadline-last r.job h.0.a-job),
          ),
        ))
        (All-both _ _ rows R.well-formed R.by_end)

    pub right-in : RightInParts p o bound rows → RightIn p o (base_frame o bound) rows
    right-in R = timed-in p o bound _ _ _ rows (R, never-closed R)

    pub right-out : RightIn p o (base_frame o bound) rows → RightInParts p o bound rows
    right-out R = (timed-out p o bound _ _ _ rows R).0

  -- In each stretch all processors are open.
  module _ (s : ℕ) (l : s < stretch_count o) where
    pub open-all : open_order o (base_frame o bound) s ≡ processor_order o
    unfolding open_order
    open-all =
        keep-whole (open_in (base_frame o bound) s) (processor_order o)
        (in-All _ (processor_order o) (λ i h.
        lies-is (base_frame o bound) 0 (mark o bound (stretch_count o)) s (omega arith)
        (mark-mono o bound (suc s) (stretch_count o) l (omega arith))))

    pub open-counts : (k : ℕ) → open_to o (base_frame o bound) s k ≡ processors_to o k
    unfolding open_to
    open-counts k =
        ap (λ (ps : List ℕ). total ps (λ i. only (leb (processor_class o i) k) 1)) open-all
        ∙ (processors-ordered o).sums (λ i. only (leb (processor_class o i) k) 1)
        ∙ sym (total-numbers o.memories 0 (λ m. only (leb (class_for o m) k) 1))
        ∙ sym (processors_to-is o k)

    stretch-is : (a : ℕ → ℕ → ℕ) → stretch_rows_in o (base_frame o bound) a s ≡ stretch_rows o bound a s
    unfolding stretch_rows_in stretch_rows
    stretch-is a =
        ap (λ (ps : List ℕ). fill (mark o bound s) (mark o bound (suc s)) ps (mark o bound s) (shares_of a s (job_order o)))
        open-all

  rows_are : (a : ℕ → ℕ → ℕ) (n : ℕ) → n ≤ stretch_count o →
      in_turn (stretch_rows_in o (base_frame o bound) a) n ≡ rows_up_to o bound a n
  unfolding in_turn rows_up_to
  rows_are a zero l = refl
  rows_are a (suc n) l =
      ap (λ (rows : List Row). rows ++ stretch_rows_in o (base_frame o bound) a n) (rows_are a n (omega arith))
      ∙ ap (λ (rows : List Row). rows_up_to o bound a n ++ rows) (stretch-is n l a)

  -- The layout is the frame's.
  pub layout_is : (a : ℕ → ℕ → ℕ) → layout_in o (base_frame o bound) a ≡ layout o bound a
  unfolding layout_in layout
  layout_is a = rows_are a (stretch_count o) (omega arith)

  -- Feasible amounts are the frame's.
  module _ (a : ℕ → ℕ → ℕ) where
    pub feasible-in : FeasibleFor o bound a → FeasibleIn o (base_frame o bound) a
    feasible-in F =
        record {
          within = λ j s b l.
              elim (dec_le (mark o bound (suc s)) (deadline_of bound (job_of o j))) [
                | yes h ↦ rw (lies-is (base_frame o bound) 0 (deadline_of bound (job_of o j)) s (omega arith) h) (F.within j s b l)
                | no h ↦ omega (arith, F.by-deadline j s b l (omega arith))
              ];
          whole = F.whole;
          fits = λ s k l. omega (
            arith,
            F.fits s k l,
            ap (λ (x : ℕ). x * stretch_length o bound s) (open-counts s l k),
          );
        }

    pub feasible-out : FeasibleIn o (base_frame o bound) a → FeasibleFor o bound a
    feasible-out F =
        record {
          within = λ j s b l. omega (
            arith,
            F.within j s b l,
            only-le (lies (base_frame o bound) 0 (deadline_of bound (job_of o j)) s) (stretch_length o bound s),
          );
          by-deadline = λ j s b l h.
              elim (dec_lt 0 (a j s)) [
                | yes w ↦
                    absurd (omega (
                      arith,
                      (lies-true (base_frame o bound) 0 (deadline_of bound (job_of o j)) s
                          (only-some _ (stretch_length o bound s) (omega (arith, F.within j s b l)))).1,
                    ))
                | no w ↦ omega arith
              ];
          whole = F.whole;
          fits = λ s k l. omega (
            arith,
            F.fits s k l,
            ap (λ (x : ℕ). x * stretch_length o bound s) (open-counts s l k),
          );
        }
