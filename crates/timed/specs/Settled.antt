-- Marks of whole numbers, and what they settle: a frame whose marks are the ready minutes, the ends, the openings and the closings has
-- amounts with a right layout that keeps the times, or no list of rows is a right plan that does, in any parts of a minute.
use Prim.Native.Nat.{ℕ, zero, suc, ◌≤◌, ◌<◌}
use Rattle.std.specs.Prelude.{◌≡◌, true, ◌⊎◌, ℤ, negsuc, length, get_or}
use Rattle.std.proofs.Common.{ap, ◌∙◌, inl, inr, ltb-true}
use mathlib.Core.List.{List, ◌++◌, map, reverse}
use native.Mathlib.Omega.{arith}
use Rattle.std.proofs.Math.IntN.{pos}
use Rattle.std.proofs.lemmas.List.{length-reverse}
use Rattle.std.specs.Int.Signed.{lt_z}
use Rattle.sums.specs.Lists.{In, Pairwise, tabulate}
use Rattle.sums.specs.Members.{in-at, in_left, in_right, map-in}
use Rattle.sums.specs.Pairs.{Pairwise-at}
use Rattle.sums.specs.Places.{numbers-in, get_d_map}
use Rattle.sums.specs.Reversed.{in-reverse, Pairwise-reverse}
use Rattle.order.specs.Order.{Order, processor_count, job_count, job_of, end_of, Numbers}
use Rattle.order.specs.Sorted.{distinct}
use Rattle.order.specs.SortedLaws.{lt_z-strict, distinct-falls, in-distinct}
use Rattle.order.specs.Deadline.{cut, deadline_of}
use Rattle.plan.specs.Plan.{Row}
use Rattle.wrap.specs.Frame.{Frame, FeasibleIn, layout_in, Rising, Marked, Framed}
use Rattle.wrap.specs.FrameAt.{Times, RightTimed, frame_at, timed-in, timed-out}
use Rattle.wrap.specs.FrameFlow.{Classed}
use Rattle.feasible.specs.FramePlan.{frame-decided}
use Rattle.timed.specs.Changes.{mark_at}

cut_up : (x y : ℤ) → lt_z x y ≡ true → cut x ≤ cut y
cut_up (pos a) (pos b) h = omega (arith, ltb-true a b h)
cut_up (pos a) (negsuc b) h = let e : ◌≡◌ {A = ℕ} 0 1 = cc in absurd (omega arith)
cut_up (negsuc a) y h = omega arith

module _ (times : List ℤ) where
  pub mark_at-is : (s : ℕ) → s < length times → mark_at times (suc s) ≡ cut (get_or times s (pos 0))
  unfolding mark_at
  mark_at-is s l = get_d_map cut times 0 (pos 0) s l

  pub mark_at-up : Pairwise (λ x y. lt_z x y ≡ true) times → (s : ℕ) → s < length times →
      mark_at times s ≤ mark_at times (suc s)
  unfolding mark_at
  mark_at-up rise zero l = omega arith
  mark_at-up rise (suc s) l =
      omega (
        arith,
        mark_at-is s (omega arith),
        mark_at-is (suc s) l,
        cut_up (get_or times s (pos 0)) (get_or times (suc s) (pos 0))
            (Pairwise-at _ times (pos 0) rise s (suc s) (omega arith) l),
      )

  -- each of them is a mark
  pub mark_at-met : (z : ℤ) → In z times → (i : ℕ) × (i ≤ length times) × (mark_at times i ≡ cut z)
  mark_at-met z h =
      let r = in-at times (pos 0) z h in
      (suc r.0, r.1, mark_at-is r.0 r.1 ∙ ap cut r.2)

-- a list of whole numbers has each ready minute, end, opening and closing
pub record HasTimes (o : Order) (bound : ℤ) (t : Times) (whole : List ℤ) : Type 0 where
  pub readies : (j : ℕ) → Numbers (job_count o) j → In (pos (t.ready j)) whole
  pub ends : (j : ℕ) → Numbers (job_count o) j → In (end_of bound (job_of o j)) whole
  pub openings : (i : ℕ) → Numbers (processor_count o) i → In (pos (t.opens i)) whole
  pub closings : (i : ℕ) → Numbers (processor_count o) i → In (pos (t.closes i)) whole

-- the frame between the distinct ones of a list
abbrev pub frame_between : Order → ℤ → Times → List ℤ → Frame
frame_between o bound t whole =
    frame_at o bound t (length (distinct lt_z whole)) (mark_at (reverse (distinct lt_z whole)))

module _ (o : Order) (bound : ℤ) (t : Times) (whole : List ℤ) where
  abbrev up : List ℤ
  up = reverse (distinct lt_z whole)

  up-length : length up ≡ length (distinct lt_z whole)
  up-length = length-reverse (distinct lt_z whole)

  pub between-marked : (z : ℤ) → In z whole → Marked (frame_between o bound t whole) (cut z)
  between-marked z h =
      let m = mark_at-met up z (in-reverse (distinct lt_z whole) z (in-distinct lt_z lt_z-strict z whole h)) in
      (m.0, omega (arith, m.1, up-length), m.2)

  pub between-rising : Rising (frame_between o bound t whole)
  between-rising s l =
      mark_at-up up (Pairwise-reverse _ (distinct lt_z whole) (distinct-falls lt_z lt_z-strict whole)) s
      (omega (arith, up-length))

  pub between-framed : HasTimes o bound t whole → Framed o (frame_between o bound t whole)
  unfolding deadline_of
  between-framed has =
      record {
        rising = between-rising;
        ready_marked = λ j b. between-marked (pos (t.ready j)) (has.readies j b);
        until-marked = λ j b. between-marked (end_of bound (job_of o j)) (has.ends j b);
        opens-marked = λ i b. between-marked (pos (t.opens i)) (has.openings i b);
        closes-marked = λ i b. between-marked (pos (t.closes i)) (has.closings i b);
      }

  -- amounts with a right layout, or no right rows at all
  pub between-decided : HasTimes o bound t whole → Classed o →
      ((a : ℕ → ℕ → ℕ) × FeasibleIn o (frame_between o bound t whole) a
      × RightTimed 1 o bound t (layout_in o (frame_between o bound t whole) a))
      ⊎ ((p : ℕ) → 1 ≤ p → (rows : List Row) → ¬ RightTimed p o bound t rows)
  between-decided has classed =
      elim (frame-decided o (frame_between o bound t whole) (between-framed has) classed) [
        | inl w ↦ inl (w.0, w.1, timed-out 1 o bound t _ _ _ w.2)
        | inr none ↦ inr (λ p parts rows R. none p parts rows (timed-in p o bound t _ _ rows R))
      ]

module _ (o : Order) (bound : ℤ) (t : Times) where
  -- the ready minutes, ends, openings and closings, one after another
  abbrev pub named : List ℤ
  named =
      map (λ j. pos (t.ready j)) (tabulate (job_count o) suc)
      ++ (map (λ j. end_of bound (job_of o j)) (tabulate (job_count o) suc)
      ++ (map (λ i. pos (t.opens i)) (tabulate (processor_count o) suc)
      ++ map (λ i. pos (t.closes i)) (tabulate (processor_count o) suc)))

  pub named-has : HasTimes o bound t named
  named-has =
      let n = tabulate (job_count o) suc in
      let m = tabulate (processor_count o) suc in
      let readies = map (λ j. pos (t.ready j)) n in
      let ends = map (λ j. end_of bound (job_of o j)) n in
      let openings = map (λ i. pos (t.opens i)) m in
      record {
        readies = λ j b. in_left readies _ _ (map-in (λ j. pos (t.ready j)) n j (numbers-in (job_count o) j b.0 b.1));
        ends = λ j b.
            in_right readies _ _ (in_left ends _ _
            (map-in (λ j. end_of bound (job_of o j)) n j (numbers-in (job_count o) j b.0 b.1)));
        openings = λ i b.
            in_right readies _ _ (in_right ends _ _ (in_left openings _ _
            (map-in (λ i. pos (t.opens i)) m i (numbers-in (processor_count o) i b.0 b.1))));
        closings = λ i b.
            in_right readies _ _ (in_right ends _ _ (in_right openings _ _
            (map-in (λ i. pos (t.closes i)) m i (numbers-in (processor_count o) i b.0 b.1))));
      }
