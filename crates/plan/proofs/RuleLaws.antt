-- The four rules of a right plan: each test answers true exactly if its rule holds.
use Rattle.std.specs.Prelude.{ℕ, zero, suc, ◌*◌, ◌<◌, ◌≡◌, refl, Bool, true, false, not, ◌&&◌, ◌||◌, List, ◌↔◌, ◌⊎◌, leb, ltb, eqb, ℤ, pos, negsuc, neg_ℤ, ◌*ℤ◌, ◌≤ℤ◌}
use Rattle.std.proofs.Common.{ap, inl, inr, arith, leb-true, le-leb, ltb-true, lt-ltb, eqb-true, eq-eqb}
use Rattle.std.proofs.Math.Bool.{or-true}
use Rattle.sums.specs.Lists.{All, tabulate}
use Rattle.sums.specs.Members.{All-map, All-both}
use Rattle.sums.specs.Pairs.{Pairwise-map, Pairwise-both}
use Rattle.order.specs.Order.{Order, processor_count, job_count, Numbers, job_of, memory_of, end_of}
use Rattle.order.proofs.RefusalLaws.{both_true, either_true, le_z-true, true-le_z}
use Rattle.plan.specs.Plan.{Row, Forward, WellFormed, Apart, lengths_of, Right}
use Rattle.plan.specs.Check.{every, every_two, well_formed, by_end, no_overlap, whole_job}
use Rattle.plan.specs.EveryLaws.{every_true, true-every, every-places, every-at, every_two-true, true-every_two}

-- "every row names an existing job and processor that fit, and `from` is below `to`"
well-formed-of : (o : Order) (r : Row) → well_formed o r ≡ true → WellFormed o r
well-formed-of o r e =
    let a = both_true (leb 1 r.job && leb r.job (job_count o)) _ e in
    let b = both_true (leb 1 r.job) (leb r.job (job_count o)) a.0 in
    let c = both_true (leb 1 r.processor && leb r.processor (processor_count o)) _ a.1 in
    let d = both_true (leb 1 r.processor) (leb r.processor (processor_count o)) c.0 in
    let f = both_true (leb (job_of o r.job).need (memory_of o r.processor)) (ltb r.from r.to) c.1 in
    record {
      a-job = (leb-true _ _ b.0, leb-true _ _ b.1);
      a-processor = (leb-true _ _ d.0, leb-true _ _ d.1);
      fits = leb-true _ _ f.0;
      forward = ltb-true _ _ f.1;
    }

of-well-formed : (o : Order) (r : Row) → WellFormed o r → well_formed o r ≡ true
of-well-formed o r h =
    rw (
      le-leb 1 r.job h.a-job.0,
      le-leb r.job (job_count o) h.a-job.1,
      le-leb 1 r.processor h.a-processor.0,
      le-leb r.processor (processor_count o) h.a-processor.1,
      le-leb (job_of o r.job).need (memory_of o r.processor) h.fits,
    )
    (lt-ltb r.from r.to h.forward)

pub well-formed-iff : (o : Order) (r : Row) → (well_formed o r ≡ true) ↔ WellFormed o r
well-formed-iff o r = (well-formed-of o r, of-well-formed o r)

-- whole minutes are one part to the minute
-- well-formed rows take some time
pub forwards : (o : Order) (rows : List Row) → All (WellFormed o) rows → All Forward rows
forwards o rows h = All-map _ _ rows (λ (r : Row) w. w.forward) h

pub one-part : (z : ℤ) → (pos 1 *ℤ z) ≡ z
one-part (pos n) = ap pos (omega arith)
one-part (negsuc n) = let e : 1 * suc n ≡ suc n = omega arith in ap (λ (k : ℕ). neg_ℤ (pos k)) e

-- a row ends by its job's end
pub by-end-iff : (o : Order) (bound : ℤ) (r : Row) →
    (by_end o bound r ≡ true) ↔ (pos r.to ≤ℤ (pos 1 *ℤ end_of bound (job_of o r.job)))
by-end-iff o bound r =
    (λ e. rw one-part (le_z-true _ _ e), λ h. true-le_z _ _ (rw one-part at h))

-- rows that share a job or a processor do not overlap
apart_of : (r s : Row) → no_overlap r s ≡ true → (r.job ≡ s.job) ⊎ (r.processor ≡ s.processor) → Apart r s
apart_of r s e h = go (times (rw shared at e))
  where
    shared : (eqb r.job s.job || eqb r.processor s.processor) ≡ true
    shared =
        elim h [
          | inl j ↦ rw (eq-eqb r.job s.job j)
          | inr p ↦ rw (eq-eqb r.processor s.processor p) (or-true (eqb r.job s.job))
        ]

    times : (leb r.to s.from || leb s.to r.from) ≡ true →
        (leb r.to s.from ≡ true) ⊎ (leb s.to r.from ≡ true)
    times t = either_true _ _ t

    go : (leb r.to s.from ≡ true) ⊎ (leb s.to r.from ≡ true) → Apart r s
    go (inl t) = inl (leb-true _ _ t)
    go (inr t) = inr (leb-true _ _ t)

of-apart : (r s : Row) → ((r.job ≡ s.job → Apart r s) × (r.processor ≡ s.processor → Apart r s)) → no_overlap r s ≡ true
of-apart r s h = go (eqb r.job s.job) (eqb r.processor s.processor) refl refl
  where
    clear : Apart r s → (leb r.to s.from || leb s.to r.from) ≡ true
    clear (inl l) = rw (le-leb r.to s.from l)
    clear (inr l) = rw (le-leb s.to r.from l) (or-true (leb r.to s.from))

    go : (j p : Bool) → eqb r.job s.job ≡ j → eqb r.processor s.processor ≡ p →
        (not (j || p) || (leb r.to s.from || leb s.to r.from)) ≡ true
    go true p ej ep = clear (h.0 (eqb-true _ _ ej))
    go false true ej ep = clear (h.1 (eqb-true _ _ ep))
    go false false ej ep = refl

pub no-overlap-iff : (r s : Row) →
    (no_overlap r s ≡ true) ↔ ((r.job ≡ s.job → Apart r s) × (r.processor ≡ s.processor → Apart r s))
no-overlap-iff r s = ((λ e. (λ j. apart_of r s e (inl j), λ p. apart_of r s e (inr p))), of-apart r s)

-- all rules together, on the rows
abbrev pub good_row : Order → ℤ → Row → Bool
good_row o bound r = well_formed o r && by_end o bound r

abbrev pub right_rows : Order → ℤ → List Row → Bool
right_rows o bound rows =
    every (good_row o bound) rows && (every_two no_overlap rows && every (whole_job o rows) (tabulate (job_count o) suc))

module _ (o : Order) (bound : ℤ) (rows : List Row) where
  right_of : right_rows o bound rows ≡ true → Right o bound rows
  right_of e =
      let whole = every (whole_job o rows) (tabulate (job_count o) suc) in
      let a = both_true (every (good_row o bound) rows) (every_two no_overlap rows && whole) e in
      let b = both_true (every_two no_overlap rows) whole a.1 in
      let good = every_true (good_row o bound) rows a.0 in
      let apart = every_two-true no_overlap rows b.0 in
      record {
        well-formed = All-map (λ (r : Row). good_row o bound r ≡ true) _ rows
            (λ r t. well-formed-of o r (both_true (well_formed o r) (by_end o bound r) t).0) good;
        by_end = All-map (λ (r : Row). good_row o bound r ≡ true) _ rows
            (λ r t. (by-end-iff o bound r).0 (both_true (well_formed o r) (by_end o bound r) t).1) good;
        jobs-apart = Pairwise-map (λ (r s : Row). no_overlap r s ≡ true) _ rows (λ r s t. ((no-overlap-iff r s).0 t).0) apart;
        processors-apart = Pairwise-map (λ (r s : Row). no_overlap r s ≡ true) _ rows (λ r s t. ((no-overlap-iff r s).0 t).1) apart;
        whole = λ j n. whole_of (every-at (whole_job o rows) (job_count o) suc b.1) j n;
      }
    where
      whole_of : ((i : ℕ) → i < job_count o → whole_job o rows (suc i) ≡ true) →
          (j : ℕ) → Numbers (job_count o) j → lengths_of j rows ≡ 1 * (job_of o j).time
      whole_of h zero n = absurd (omega arith)
      whole_of h (suc i) n = omega (arith, eqb-true (lengths_of (suc i) rows) (job_of o (suc i)).time (h i n.1))

  of_right : Right o bound rows → right_rows o bound rows ≡ true
  of_right h =
      rw (
        true-every (good_row o bound) rows (All-map _ _ rows
            (λ (r : Row) t. rw (of-well-formed o r t.0) ((by-end-iff o bound r).1 t.1))
            (All-both _ _ rows h.well-formed h.by_end)),
        true-every_two no_overlap rows (Pairwise-map _ _ rows (λ (r s : Row) t. of-apart r s t)
            (Pairwise-both _ _ rows h.jobs-apart h.processors-apart)),
      )
      (every-places (whole_job o rows) (job_count o) suc
      (λ i l. eq-eqb (lengths_of (suc i) rows) (job_of o (suc i)).time (omega (arith, h.whole (suc i) (omega arith, l)))))

  pub right-iff : (right_rows o bound rows ≡ true) ↔ Right o bound rows
  right-iff = (right_of, of_right)
