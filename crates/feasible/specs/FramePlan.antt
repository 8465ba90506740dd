-- Rows that are right in a frame, in any number of parts to the minute, give feasible amounts: what of a job's rows lies in a
-- stretch. So they leave no violating cut; and where any such rows are, whole minutes do.
use Rattle.std.specs.Prelude.{ℕ, suc, ◌-◌, ◌*◌, ◌≤◌, ◌<◌, ◌≡◌, refl, Bool, true, false, List, ◌⊎◌, eqb, leb}
use Rattle.std.proofs.Common.{ap, ◌∙◌, inl, inr, arith, mul-le-mul_left, eqb-true, le-leb}
use Rattle.std.proofs.Math.Nat.{mul-sub}
use Rattle.std.proofs.Math.Decide.{dec_le, dec_lt}
use Rattle.std.proofs.lemmas.Bool.{lt-leb}
use Rattle.sums.specs.Sum.{sum, sum-le, sum-mul}
use Rattle.sums.specs.Gate.{gate, gate-in, gate-out}
use Rattle.sums.specs.Lists.{All, Pairwise, total, only}
use Rattle.sums.specs.Totals.{
  only-cong,
  only_none,
  sum-only-out,
  total-cong,
  total-le,
  total-none,
  sum-total,
  by_number,
}
use Rattle.sums.specs.Members.{All-map, nth_in}
use Rattle.order.specs.Order.{Order, processor_count, job_count, job_of, memory_of}
use Rattle.order.specs.Class.{class_of}
use Rattle.order.proofs.ClassLaws.{fits-class}
use Rattle.plan.specs.Plan.{Row, Forward, WellFormed, Apart}
use Rattle.plan.proofs.RuleLaws.{forwards}
use Rattle.amounts.specs.Flow.{Feasible, Cut, cut-not-feasible}
use Rattle.wrap.specs.HeldInOrder.{class_by}
use Rattle.wrap.specs.Frame.{
  Frame,
  Between,
  RightIn,
  length_in,
  lies,
  open_in,
  open_to,
  FeasibleIn,
  layout_in,
  Rising,
  Marked,
  Framed,
}
use Rattle.wrap.specs.FrameLaws.{lies-is, marks-mono, processor_class, open_to-is}
use Rattle.wrap.proofs.FrameRight.{layout-right-in}
use Rattle.wrap.specs.FrameFlow.{flow_in, Classed, frame-outcome}
use Rattle.feasible.specs.Packing.{clip, packing-key, telescope}

-- a gate lets more through where more comes, and where the rank is lower
gate-more : (a b k v w : ℕ) → b ≤ a → v ≤ w → gate a k v ≤ gate b k w
gate-more a b k v w h l =
    elim (dec_lt a k) [
      | yes y ↦ omega (arith, gate-in a k v y, gate-in b k w (omega arith))
      | no y ↦ omega (arith, gate-out a k v (omega arith))
    ]

gate-counts : (c k v : ℕ) → gate c (suc k) v ≡ v * only (leb c k) 1
gate-counts c k v =
    elim (dec_lt c (suc k)) [
      | yes y ↦ rw (gate-in c (suc k) v y, le-leb c k (omega arith)) (omega arith)
      | no y ↦ rw (gate-out c (suc k) v (omega arith), lt-leb c k (omega arith)) (omega arith)
    ]

-- what lies in stretch s of the rows whose number, a job's or a processor's, is i, in parts
abbrev pub parts_in : (p : ℕ) → Frame → List Row → (Row → ℕ) → ℕ → ℕ → ℕ
parts_in p f rows number i s =
    total rows (λ (r : Row). only (eqb (number r) i) (clip (p * f.mark s) (p * f.mark (suc s)) r))

-- the amounts of the jobs, counted from 0
abbrev pub amounts_in : (p : ℕ) → Frame → List Row → ℕ → ℕ → ℕ
amounts_in p f rows j s = parts_in p f rows (λ (r : Row). r.job) (suc j) s

-- rows with a number, of which no two overlap, each between two minutes that are marks
module _ (p : ℕ) (f : Frame) (up : Rising f) (rows : List Row) (number : Row → ℕ) where
  module _ (i a b : ℕ) (a-marked : Marked f a) (b-marked : Marked f b)
      (inside : All (λ (r : Row). number r ≡ i → Between p a b r) rows) where
    -- nothing lies in a stretch before the first minute, or behind the second
    none_before : (s : ℕ) → s < f.stretches → f.mark s < a → parts_in p f rows number i s ≡ 0
    none_before s l h =
        let t = a-marked.0 in
        let later : suc s ≤ t =
        elim (dec_le (suc s) t) [
          | yes w ↦ w
          | no w ↦
              absurd (omega (arith, a-marked.2, marks-mono f up t s (omega arith) (omega arith)))
        ] in
        let beyond : f.mark (suc s) ≤ a = omega (arith, a-marked.2, marks-mono f up (suc s) t later a-marked.1) in
        total-none rows _ (All-map _ _ rows
        (λ (r : Row) k. only_none (eqb (number r) i) _ (λ e.
        omega (arith, (k (eqb-true (number r) i e)).0, mul-le-mul_left p beyond)))
        inside)

    none-behind : (s : ℕ) → s < f.stretches → b < f.mark (suc s) → parts_in p f rows number i s ≡ 0
    none-behind s l h =
        let t = b-marked.0 in
        let earlier : t ≤ s =
        elim (dec_le t s) [
          | yes w ↦ w
          | no w ↦
              absurd (omega (arith, b-marked.2, marks-mono f up (suc s) t (omega arith) b-marked.1))
        ] in
        let short : b ≤ f.mark s = omega (arith, b-marked.2, marks-mono f up t s earlier (omega arith)) in
        total-none rows _ (All-map _ _ rows
        (λ (r : Row) k. only_none (eqb (number r) i) _ (λ e.
        omega (arith, (k (eqb-true (number r) i e)).1, mul-le-mul_left p short)))
        inside)

    -- no more than the stretch, and that only where it lies between the two minutes
    parts-cap : Pairwise (λ (r s : Row). number r ≡ number s → Apart r s) rows → All Forward rows →
        (s : ℕ) → s < f.stretches → parts_in p f rows number i s ≤ p * only (lies f a b s) (length_in f s)
    parts-cap apart forward s l =
        elim (dec_le a (f.mark s)) [
          | no w ↦ omega (arith, none_before s l (omega arith))
          | yes w ↦
              elim (dec_le (f.mark (suc s)) b) [
                | no v ↦ omega (arith, none-behind s l (omega arith))
                | yes v ↦
                    rw (lies-is f a b s w v)
                    (omega (
                      arith,
                      packing-key number i rows apart forward (p * f.mark s) (p * f.mark (suc s)),
                      mul-sub p (f.mark (suc s)) (f.mark s),
                    ))
              ]
        ]

    -- the stretches hold all of it
    parts_whole : sum f.stretches (parts_in p f rows number i)
        ≡ total rows (λ (r : Row). only (eqb (number r) i) (r.to - r.from))
    parts_whole =
        let q = f.stretches in
        let first : f.mark 0 ≤ a = omega (arith, a-marked.2, marks-mono f up 0 a-marked.0 (omega arith) a-marked.1) in
        let last : b ≤ f.mark q = omega (arith, b-marked.2, marks-mono f up b-marked.0 q b-marked.1 (omega arith)) in
        sum-total q rows (λ s (r : Row). only (eqb (number r) i) (clip (p * f.mark s) (p * f.mark (suc s)) r))
        ∙ total-cong rows _ _ (All-map _ _ rows
        (λ (r : Row) k.
        sum-only-out q (eqb (number r) i) (λ s. clip (p * f.mark s) (p * f.mark (suc s)) r)
        ∙ only-cong (eqb (number r) i) _ _ (λ e.
        omega (
          arith,
          telescope (λ s. p * f.mark s) q (λ s l. mul-le-mul_left p (up s l)) r,
          mul-le-mul_left p first,
          mul-le-mul_left p last,
          k (eqb-true (number r) i e),
        )))
        inside)

-- a factor behind a test
only-swap : (p l c : ℕ) (b : Bool) → p * only b l * c ≡ p * l * only b c
only-swap p l c true = refl
only-swap p l c false = omega arith

module _ (o : Order) (f : Frame) (framed : Framed o f) {p : ℕ} {rows : List Row} (right : RightIn p o f rows) where
  all-forward : All Forward rows
  all-forward = forwards o rows right.well-formed

  -- the rows of a job lie in its interval, those of a processor in its window
  job-inside : (i : ℕ) → All (λ (r : Row). r.job ≡ i → Between p (f.ready i) (f.until i) r) rows
  job-inside i =
      All-map _ _ rows
      (λ (r : Row) h e. omega (arith, h, ap (λ (j : ℕ). p * f.ready j) e, ap (λ (j : ℕ). p * f.until j) e))
      right.in-interval

  processor-inside : (i : ℕ) → All (λ (r : Row). r.processor ≡ i → Between p (f.opens i) (f.closes i) r) rows
  processor-inside i =
      All-map _ _ rows
      (λ (r : Row) h e. omega (arith, h, ap (λ (j : ℕ). p * f.opens j) e, ap (λ (j : ℕ). p * f.closes j) e))
      right.in_window

  -- a row's processor is of no later class than its job
  runs-in-class : (r : Row) → WellFormed o r → processor_class o r.processor ≤ class_by o r.job
  unfolding class_of
  runs-in-class r w =
      (fits-class o (job_of o r.job).need (memory_of o r.processor)
      (nth_in o.memories 0 r.processor w.a-processor.0 w.a-processor.1)).0 w.fits

  module _ (s : ℕ) (l : s < f.stretches) (k : ℕ) where
    abbrev part : Row → ℕ
    part r = clip (p * f.mark s) (p * f.mark (suc s)) r

    abbrev of_job : ℕ → ℕ
    of_job i = parts_in p f rows (λ (r : Row). r.job) i s

    abbrev of_processor : ℕ → ℕ
    of_processor i = parts_in p f rows (λ (r : Row). r.processor) i s

    -- the jobs of the classes up to k, summed by rows; so the processors
    by-job : sum (job_count o) (λ j. gate (class_by o (suc j)) (suc k) (of_job (suc j)))
        ≡ total rows (λ (r : Row). gate (class_by o r.job) (suc k) (part r))
    by-job =
        by_number (job_count o) (λ (r : Row). r.job) (class_by o) (suc k) rows part
        (All-map _ _ rows (λ (r : Row) (w : WellFormed o r). w.a-job) right.well-formed)

    by-processor : sum (processor_count o) (λ i. gate (processor_class o (suc i)) (suc k) (of_processor (suc i)))
        ≡ total rows (λ (r : Row). gate (processor_class o r.processor) (suc k) (part r))
    by-processor =
        by_number (processor_count o) (λ (r : Row). r.processor) (processor_class o) (suc k) rows part
        (All-map _ _ rows (λ (r : Row) (w : WellFormed o r). w.a-processor) right.well-formed)

    -- jobs of the classes up to k run on processors of the classes up to k
    jobs-on-processors : total rows (λ (r : Row). gate (class_by o r.job) (suc k) (part r))
        ≤ total rows (λ (r : Row). gate (processor_class o r.processor) (suc k) (part r))
    jobs-on-processors =
        total-le rows _ _ (All-map _ _ rows
        (λ (r : Row) (w : WellFormed o r).
        gate-more (class_by o r.job) (processor_class o r.processor) (suc k) (part r) (part r)
        (runs-in-class r w) (omega arith))
        right.well-formed)

    -- each of those processors is filled at most once, and only where it is open
    processors-filled : sum (processor_count o) (λ i. gate (processor_class o (suc i)) (suc k) (of_processor (suc i)))
        ≤ sum (processor_count o) (λ i.
        p * length_in f s * only (open_in f s (suc i)) (only (leb (processor_class o (suc i)) k) 1))
    processors-filled =
        sum-le (processor_count o) _ _ (λ i b.
        let c = processor_class o (suc i) in
        omega (
          arith,
          gate-more c c (suc k) (of_processor (suc i)) (p * only (open_in f s (suc i)) (length_in f s)) (omega arith)
              (parts-cap p f framed.rising rows (λ (r : Row). r.processor) (suc i) (f.opens (suc i)) (f.closes (suc i))
              (framed.opens-marked (suc i) (omega arith, b)) (framed.closes-marked (suc i) (omega arith, b))
              (processor-inside (suc i)) right.processors-apart all-forward s l),
          gate-counts c k (p * only (open_in f s (suc i)) (length_in f s)),
          only-swap p (length_in f s) (only (leb c k) 1) (open_in f s (suc i)),
        ))

    classes-fit : sum (job_count o) (λ j. gate (class_by o (suc j)) (suc k) (of_job (suc j)))
        ≤ p * (open_to o f s k * length_in f s)
    classes-fit =
        omega (
          arith,
          by-job,
          by-processor,
          jobs-on-processors,
          processors-filled,
          sum-mul (processor_count o) (p * length_in f s) (λ i.
              only (open_in f s (suc i)) (only (leb (processor_class o (suc i)) k) 1)),
          ap (λ (x : ℕ). p * length_in f s * x) (open_to-is o f s k),
        )

  -- right rows give feasible amounts, p to the minute
  pub plan-amounts-in : 1 ≤ p → Feasible (flow_in o f) p (amounts_in p f rows)
  plan-amounts-in parts =
      record {
        parts = parts;
        caps = λ j s b l.
            parts-cap p f framed.rising rows (λ (r : Row). r.job) (suc j) (f.ready (suc j)) (f.until (suc j))
            (framed.ready_marked (suc j) (omega arith, b)) (framed.until-marked (suc j) (omega arith, b))
            (job-inside (suc j)) right.jobs-apart all-forward s l;
        done = λ j b.
            parts_whole p f framed.rising rows (λ (r : Row). r.job) (suc j) (f.ready (suc j)) (f.until (suc j))
            (framed.ready_marked (suc j) (omega arith, b)) (framed.until-marked (suc j) (omega arith, b))
            (job-inside (suc j))
            ∙ right.whole (suc j) (omega arith, b);
        fits = λ s k l. classes-fit s l k;
      }

module _ (o : Order) (f : Frame) (framed : Framed o f) where
  -- where a cut violates, no rows are right in the frame, in any parts, by whomever they were made
  pub cut-no-plan : {m : ℕ} → Cut (flow_in o f) m → (p : ℕ) → 1 ≤ p → (rows : List Row) → ¬ RightIn p o f rows
  cut-no-plan c p parts rows right = cut-not-feasible c (plan-amounts-in o f framed right parts)

  -- either there are feasible amounts, whose layout is right in whole minutes, or no rows are right in any parts
  pub frame-decided : Classed o →
      ((a : ℕ → ℕ → ℕ) × FeasibleIn o f a × RightIn 1 o f (layout_in o f a))
      ⊎ ((p : ℕ) → 1 ≤ p → (rows : List Row) → ¬ RightIn p o f rows)
  frame-decided classed =
      elim (frame-outcome o f classed) [
        | inl w ↦ inl (w.0, w.1, layout-right-in o f framed.rising w.0 w.1)
        | inr c ↦ inr (cut-no-plan c)
      ]
