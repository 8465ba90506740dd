-- The layout in a frame. Of any amounts: rows stand by stretch, then by processor order, then by `from`, and are at most
-- stretches × (n + m - 1). Of feasible amounts: it is right in the frame, the jobs' intervals and the windows included.
use Rattle.std.specs.Prelude.{ℕ, suc, ◌+◌, ◌-◌, ◌*◌, ◌≤◌, ◌<◌, ◌≡◌, refl, Bool, true, false, List, [], ◌∷◌, ◌≢◌, leb, eqb, length, get_or}
use Rattle.std.proofs.Math.Path.{ap}
use Rattle.std.proofs.Common.{◌∙◌, arith, mul-le-mul_right, le-leb}
use Rattle.std.proofs.Math.Logic.{inl, inr}
use Rattle.std.proofs.Math.Decide.{dec_lt}
use Rattle.sums.specs.Sum.{sum-cong}
use Rattle.sums.specs.Kept.{keep-pairs}
use Rattle.sums.specs.Lists.{All, Pairwise, total, only}
use Rattle.sums.specs.Members.{All-map, All-both, in-All, nth_in}
use Rattle.sums.specs.Totals.{only-le, total-cong, total-tabulate}
use Rattle.sums.specs.Pairs.{Pairwise-map, Pairwise-with}
use Rattle.order.specs.Order.{Order, job_count, processor_count, Numbers, job_of, memory_of, Fits}
use Rattle.order.specs.Sorted.{processor_order, job_order}
use Rattle.order.specs.Class.{classes, class_of}
use Rattle.order.proofs.ClassLaws.{fits-class}
use Rattle.order.specs.OrderingLaws.{processors-ordered, jobs-ordered}
use Rattle.plan.specs.Plan.{Row, WellFormed, Apart, lengths_of}
use Rattle.wrap.specs.HeldInOrder.{class_by, class-by-at-most, held-in-order, classes-in-order, sum_number}
use Rattle.wrap.specs.Layout.{Share, shares_of}
use Rattle.wrap.specs.RowOrder.{place_in, place_of, StandsBefore}
use Rattle.wrap.specs.Filled.{Filled, fill-filled}
use Rattle.wrap.specs.FilledRows.{
  filled-jobs,
  filled-processors,
  filled-between,
  filled-forward,
  filled-jobs-apart,
  filled-once,
  filled-lengths,
  filled-few,
}
use Rattle.wrap.specs.FilledPlaces.{placed, place_in-members, filled-room, places-rise, filled-stands-rising}
use Rattle.wrap.specs.Shares.{shares-all, shares-distinct, shares-total, shares-roomy, shares-few}
use Rattle.wrap.specs.Frame.{
  Frame,
  Between,
  RightIn,
  length_in,
  lies,
  open_in,
  open_order,
  open_to,
  FeasibleIn,
  stretch_rows_in,
  layout_in,
  InStretchOf,
  RowBeforeIn,
  Rising,
}
use Rattle.wrap.specs.FrameLaws.{
  lies-true,
  only-some,
  marks-mono,
  processor_class,
  open-are,
  open-once,
  open-few,
  open-class,
  open_to-at-most,
  turn-all,
  turn-pairs,
  turn-total,
  turn-few,
}

-- where nothing is, everything holds
none-all : (P : Row → Type 0) (rows : List Row) → All (λ (r : Row). ⊥) rows → All P rows
none-all P rows h = All-map _ _ rows (λ (r : Row) e. absurd e) h

none-pairs : (R : Row → Row → Type 0) (rows : List Row) → All (λ (r : Row). ⊥) rows → Pairwise R rows
none-pairs R [] h = tt
none-pairs R (r ∷ rows) h = absurd h.0

module _ (o : Order) (f : Frame) (up : Rising f) (a : ℕ → ℕ → ℕ) where
  -- one stretch, of any amounts
  module _ (s : ℕ) where
    filled : Filled (f.mark s) (f.mark (suc s)) (open_order o f s) (f.mark s) (shares_of a s (job_order o))
        (stretch_rows_in o f a s)
    unfolding stretch_rows_in
    filled = fill-filled _ _ (open_order o f s) _ (shares_of a s (job_order o))

    pub stretch-in : s < f.stretches → All (InStretchOf f s) (stretch_rows_in o f a s)
    stretch-in l =
        All-map _ _ (stretch_rows_in o f a s)
        (λ (r : Row) h. record { a-stretch = l; begins = h.0; ends = h.1 })
        (filled-between filled (omega arith) (up s l))

    pub stretch-ordered : Pairwise (StandsBefore o) (stretch_rows_in o f a s)
    unfolding open_order
    stretch-ordered =
        filled-stands-rising (place_in (processor_order o)) filled
        (keep-pairs (open_in f s) _ (processor_order o) (places-rise (processor_order o) (processors-ordered o).once))

    -- a job has one row on a processor
    pub stretch-once : Pairwise (λ (r t : Row). r.job ≡ t.job → r.processor ≢ t.processor) (stretch_rows_in o f a s)
    stretch-once = filled-once filled (open-once o f s) (shares-distinct a s (job_order o) (jobs-ordered o).once)

    stretch-few : length (stretch_rows_in o f a s) ≤ job_count o + processor_count o - 1
    stretch-few =
        omega (arith, filled-few filled, shares-few a s (job_order o), open-few o f s, (jobs-ordered o).count)

  -- a row of an earlier stretch ends before one of a later stretch begins, and so does one of the same processor that stands before
  pub stretches-apart : (i k : ℕ) (r t : Row) → i < k → InStretchOf f i r → InStretchOf f k t → r.to ≤ t.from
  stretches-apart i k r t l h m =
      omega (arith, marks-mono f up (suc i) k l (omega (arith, m.a-stretch)), h.ends, m.begins)

  pub stands-rise : (r t : Row) → StandsBefore o r t → r.processor ≡ t.processor → r.to ≤ t.from
  stands-rise r t (inl w) e = absurd (omega (arith, ap (place_of o) e))
  stands-rise r t (inr w) e = w.1

  -- rows stand by stretch, then by processor order, then by `from`
  pub layout-ordered-in : Pairwise (RowBeforeIn o f) (layout_in o f a)
  unfolding layout_in
  layout-ordered-in =
      turn-pairs (stretch_rows_in o f a) (InStretchOf f) (RowBeforeIn o f) f.stretches stretch-in
      (λ s l. Pairwise-with (InStretchOf f s) (StandsBefore o) (RowBeforeIn o f) (stretch_rows_in o f a s)
      (λ (r t : Row) h k b.
      record { stretch = s; other = s; lies_in = h; other-lies = k; before = inr (refl, b) })
      (stretch-in s l) (stretch-ordered s))
      (λ i k (r t : Row) l h m. record { stretch = i; other = k; lies_in = h; other-lies = m; before = inl l })

  -- at most stretches × (n + m - 1) rows
  pub layout-count-in : length (layout_in o f a) ≤ f.stretches * (job_count o + processor_count o - 1)
  unfolding layout_in
  layout-count-in =
      turn-few (stretch_rows_in o f a) (job_count o + processor_count o - 1) f.stretches (λ s l. stretch-few s)

  module _ (F : FeasibleIn o f a) where
    -- one stretch, of feasible amounts
    module _ (s : ℕ) (l : s < f.stretches) where
      abbrev rows : List Row
      rows = stretch_rows_in o f a s

      abbrev shares : List Share
      shares = shares_of a s (job_order o)

      -- each row's job has an amount in the stretch
      rows-jobs : All (λ (r : Row). Numbers (job_count o) r.job × (0 < a r.job s)) rows
      rows-jobs =
          filled-jobs (λ j. Numbers (job_count o) j × (0 < a j s)) (filled s)
          (shares-all a s (Numbers (job_count o)) _ (job_order o) (λ j n h. (n, h)) (jobs-ordered o).no_other)

      -- no amount is more than the stretch's length
      short : (j : ℕ) → Numbers (job_count o) j → a j s ≤ length_in f s
      short j n = omega (arith, F.within j s n l, only-le (lies f (f.ready j) (f.until j) s) (length_in f s))

      -- a stretch of no length has no rows
      rows_none : ¬ (f.mark s < f.mark (suc s)) → All (λ (r : Row). ⊥) rows
      rows_none none = All-map _ _ rows (λ (r : Row) h. omega (arith, short r.job h.0)) rows-jobs

      pub rows-forward : All (λ (r : Row). r.from < r.to) rows
      rows-forward =
          elim (dec_lt (f.mark s) (f.mark (suc s))) [
            | yes h ↦ filled-forward (filled s) h h
                (shares-all a s (Numbers (job_count o)) _ (job_order o) (λ j n h. h) (jobs-ordered o).no_other)
            | no h ↦ none-all _ rows (rows_none h)
          ]

      rows-jobs-apart : Pairwise (λ (r t : Row). r.job ≡ t.job → Apart r t) rows
      rows-jobs-apart =
          elim (dec_lt (f.mark s) (f.mark (suc s))) [
            | yes h ↦ filled-jobs-apart (filled s) (omega arith) h
                (shares-distinct a s (job_order o) (jobs-ordered o).once)
                (shares-all a s (Numbers (job_count o)) _ (job_order o) (λ j n h. short j n) (jobs-ordered o).no_other)
            | no h ↦ none-pairs _ rows (rows_none h)
          ]

      -- the place of a processor among the open ones
      abbrev place_open : ℕ → ℕ
      place_open i = place_in (open_order o f s) i

      -- each row's processor is among the first open ones that its job may use
      rows-room : All (λ (r : Row). place_open r.processor < open_to o f s (class_by o r.job)) rows
      rows-room =
          filled-room (place_in (open_order o f s)) (λ i. get_or (open_order o f s) i 0) (length_in f s)
          (λ j. open_to o f s (class_by o j)) (omega (arith, up s l)) (filled s) 0 0 0
          (omega arith) (omega arith) (placed (open_order o f s) (open-once o f s))
          (shares-roomy a s (class_by o) (length_in f s) (λ j. open_to o f s (class_by o j)) (job_order o) 0
          (classes-in-order o)
          (in-All _ (job_order o) (λ j i. omega (arith, F.fits s (class_by o j) l, held-in-order o a (class_by o j) s))))

      rows-processors : All (λ (r : Row). Numbers (processor_count o) r.processor
          × (open_in f s r.processor ≡ true)
          × (place_open r.processor < length (open_order o f s))
          × (get_or (open_order o f s) (place_open r.processor) 0 ≡ r.processor)) rows
      rows-processors =
          filled-processors _ (filled s)
          (All-map _ _ (open_order o f s) (λ p h. (h.0.0, h.0.1, h.1.0, h.1.1))
          (All-both _ _ (open_order o f s) (open-are o f s) (place_in-members (open_order o f s) (open-once o f s))))

      -- a processor among the first open ones that a job may use has its memory
      row_fits : (job p : ℕ) → Numbers (processor_count o) p → place_open p < length (open_order o f s) →
          get_or (open_order o f s) (place_open p) 0 ≡ p → place_open p < open_to o f s (class_by o job) →
          Fits (job_of o job) (memory_of o p)
      unfolding class_of
      row_fits job p b i e h =
          let low = (open-class o f s (class_by o job) (place_open p) i).1 h in
          (fits-class o (job_of o job).need (memory_of o p) (nth_in o.memories 0 p b.0 b.1)).1
          (omega (arith, low, ap (λ (p : ℕ). processor_class o p) e))

      pub rows-well-formed : All (WellFormed o) rows
      rows-well-formed =
          All-map _ _ rows
          (λ (r : Row) h.
          record {
            a-job = h.0.0;
            a-processor = h.1.0.0;
            fits = row_fits r.job r.processor h.1.0.0 h.1.0.2 h.1.0.3 h.1.1.0;
            forward = h.1.1.1;
          })
          (All-both _ _ rows rows-jobs (All-both _ _ rows rows-processors (All-both _ _ rows rows-room rows-forward)))

      -- a row of a stretch that lies between two minutes lies between them
      row-between : (from to : ℕ) (r : Row) → lies f from to s ≡ true → InStretchOf f s r → Between 1 from to r
      row-between from to r e i =
          let h = lies-true f from to s e in
          (omega (arith, h.0, i.begins), omega (arith, h.1, i.ends))

      rows-in-interval : All (λ (r : Row). Between 1 (f.ready r.job) (f.until r.job) r) rows
      rows-in-interval =
          All-map _ _ rows
          (λ (r : Row) h.
          row-between (f.ready r.job) (f.until r.job) r
          (only-some _ (length_in f s) (omega (arith, h.0.1, F.within r.job s h.0.0 l))) h.1)
          (All-both _ _ rows rows-jobs (stretch-in s l))

      rows-in-window : All (λ (r : Row). Between 1 (f.opens r.processor) (f.closes r.processor) r) rows
      rows-in-window =
          All-map _ _ rows
          (λ (r : Row) h. row-between (f.opens r.processor) (f.closes r.processor) r h.0.1 h.1)
          (All-both _ _ rows rows-processors (stretch-in s l))

      -- the rows of a job add up to its amount
      rows-lengths : (j : ℕ) → Numbers (job_count o) j → lengths_of j rows ≡ a j s
      rows-lengths j b =
          filled-lengths (filled s) 0 (omega arith) (up s l) all_fit j
          ∙ shares-total a s (λ i v. only (eqb i j) v) (λ i. none (eqb i j)) (job_order o)
          ∙ (jobs-ordered o).sums (λ i. only (eqb i j) (a i s))
          ∙ total-tabulate (job_count o) suc (λ i. only (eqb i j) (a i s))
          ∙ sum_number (job_count o) j (λ i. a i s) b
        where
          none : (t : Bool) → only t 0 ≡ 0
          none true = refl
          none false = refl

          K : ℕ
          K = length (classes o)

          high : total (job_order o) (λ j. only (leb (class_by o j) K) (a j s)) ≡ total (job_order o) (λ j. a j s)
          high =
              total-cong (job_order o) _ _ (in-All _ (job_order o) (λ j i.
              ap (λ (t : Bool). only t (a j s)) (le-leb (class_by o j) K (class-by-at-most o j))))

          all_fit : 0 + total shares (λ (x : Share). x.minutes) ≤ length (open_order o f s) * length_in f s
          all_fit =
              omega (
                arith,
                shares-total a s (λ i v. v) (λ i. refl) (job_order o),
                high,
                held-in-order o a K s,
                F.fits s K l,
                mul-le-mul_right (length_in f s) (open_to-at-most o f s K),
              )

    pub layout-right-in : RightIn 1 o f (layout_in o f a)
    unfolding layout_in
    layout-right-in =
        let R = stretch_rows_in o f a in
        record {
          well-formed = turn-all R _ f.stretches rows-well-formed;
          in-interval = turn-all R _ f.stretches rows-in-interval;
          in_window = turn-all R _ f.stretches rows-in-window;
          jobs-apart = turn-pairs R (InStretchOf f) _ f.stretches stretch-in rows-jobs-apart
              (λ i k (r t : Row) l h m e. inl (stretches-apart i k r t l h m));
          processors-apart = turn-pairs R (InStretchOf f) _ f.stretches stretch-in
              (λ s l. Pairwise-map _ _ (stretch_rows_in o f a s) (λ (r t : Row) b e. inl (stands-rise r t b e)) (stretch-ordered s))
              (λ i k (r t : Row) l h m e. inl (stretches-apart i k r t l h m));
          whole = λ j b.
              turn-total R _ f.stretches
              ∙ sum-cong f.stretches _ (a j) (λ s l. rows-lengths s l j b)
              ∙ omega (arith, F.whole j b);
        }
