-- The rows of filling, one by one: their jobs are the shares', their processors the given ones, they lie between the
-- stretch's start and end, none is empty; those of a job never overlap and add up to its share; and they are few.
use Rattle.std.specs.Prelude.{ℕ, ◌+◌, ◌-◌, ◌*◌, ◌≤◌, ◌<◌, ◌≡◌, refl, Bool, true, false, List, ◌∷◌, ◌≢◌, eqb, length}
use Rattle.std.proofs.Common.{inr, arith}
use Rattle.sums.specs.Lists.{All, Pairwise, total, only}
use Rattle.sums.specs.Members.{All-map, in-All}
use Rattle.sums.specs.Totals.{total-le, only-le}
use Rattle.plan.specs.Plan.{Row, Apart, lengths_of}
use Rattle.wrap.specs.Layout.{Share}
use Rattle.wrap.specs.Filled.{Filled, no-processor, no-share, ends-before, ends_there, goes_on}

-- rows of other jobs ask for nothing
others-clear : (j : ℕ) (Q : Row → Type 0) (rows : List Row) → All (λ (r : Row). j ≢ r.job) rows →
    All (λ (r : Row). j ≡ r.job → Q r) rows
others-clear j Q rows h = All-map _ _ rows (λ (r : Row) ne e. absurd (ne e)) h

-- a share is cut into what lies before the end and what behind it
cut-share : (b : Bool) (at end minutes T : ℕ) → at ≤ end → end < at + minutes →
    only b (end - at) + (only b (at + minutes - end) + T) ≡ only b minutes + T
cut-share true at end minutes T h k = omega arith
cut-share false at end minutes T h k = omega arith

module _ {start end : ℕ} where
  -- what holds of each share's job holds of each row's
  pub filled-jobs : {ps : List ℕ} {at : ℕ} {xs : List Share} {rows : List Row} (P : ℕ → Type 0) →
      Filled start end ps at xs rows → All (λ (x : Share). P x.job) xs → All (λ (r : Row). P r.job) rows
  filled-jobs P no-processor h = tt
  filled-jobs P no-share h = tt
  filled-jobs P (ends-before l t) h = (h.0, filled-jobs P t h.1)
  filled-jobs P (ends_there l t) h = (h.0, filled-jobs P t h.1)
  filled-jobs P (goes_on l t) h = (h.0, filled-jobs P t h)

  -- what holds of each processor holds of each row's
  pub filled-processors : {ps : List ℕ} {at : ℕ} {xs : List Share} {rows : List Row} (P : ℕ → Type 0) →
      Filled start end ps at xs rows → All P ps → All (λ (r : Row). P r.processor) rows
  filled-processors P no-processor h = tt
  filled-processors P no-share h = tt
  filled-processors P (ends-before l t) h = (h.0, filled-processors P t h)
  filled-processors P (ends_there l t) h = (h.0, filled-processors P t h.1)
  filled-processors P (goes_on l t) h = (h.0, filled-processors P t h.1)

  -- rows lie in the stretch
  pub filled-between : {ps : List ℕ} {at : ℕ} {xs : List Share} {rows : List Row} → Filled start end ps at xs rows →
      start ≤ at → start ≤ end → All (λ (r : Row). (start ≤ r.from) × (r.to ≤ end)) rows
  filled-between no-processor h k = tt
  filled-between no-share h k = tt
  filled-between (ends-before l t) h k = (omega arith, filled-between t (omega arith) k)
  filled-between (ends_there l t) h k = (omega arith, filled-between t (omega arith) k)
  filled-between (goes_on l t) h k = (omega arith, filled-between t (omega arith) k)

  -- where no share is empty, no row is
  pub filled-forward : {ps : List ℕ} {at : ℕ} {xs : List Share} {rows : List Row} → Filled start end ps at xs rows →
      at < end → start < end → All (λ (x : Share). 0 < x.minutes) xs → All (λ (r : Row). r.from < r.to) rows
  filled-forward no-processor h k s = tt
  filled-forward no-share h k s = tt
  filled-forward (ends-before l t) h k s = (omega (arith, s.0), filled-forward t l k s.1)
  filled-forward (ends_there l t) h k s = (h, filled-forward t k k s.1)
  filled-forward (goes_on l t) h k s = (h, filled-forward t k k (omega arith, s.1))

  -- the rows of the first share, where it ends before the stretch does: the others are of other jobs
  first_ends : {ps : List ℕ} {at : ℕ} {x : Share} {xs : List Share} {rows : List Row} →
      Filled start end ps at (x ∷ xs) rows → at + x.minutes < end → All (λ (y : Share). x.job ≢ y.job) xs →
      All (λ (r : Row). x.job ≡ r.job → r.to ≤ at + x.minutes) rows
  first_ends no-processor h d = tt
  first_ends (ends-before {at} {x} {rows} l t) h d = (
    (λ e. omega arith),
    others-clear x.job (λ (r : Row). r.to ≤ at + x.minutes) rows
        (filled-jobs (λ j. x.job ≢ j) t d),
  )
  first_ends (ends_there l t) h d = absurd (omega arith)
  first_ends (goes_on l t) h d = absurd (omega arith)

  -- no two rows of one job overlap, where no share is longer than the stretch and each job has one share
  pub filled-jobs-apart : {ps : List ℕ} {at : ℕ} {xs : List Share} {rows : List Row} → Filled start end ps at xs rows →
      start ≤ at → at < end → Pairwise (λ (x y : Share). x.job ≢ y.job) xs →
      All (λ (x : Share). x.minutes ≤ end - start) xs →
      Pairwise (λ (r s : Row). r.job ≡ s.job → Apart r s) rows
  filled-jobs-apart no-processor h k d n = tt
  filled-jobs-apart no-share h k d n = tt
  filled-jobs-apart (ends-before {x} {rows} l t) h k d n = (
    others-clear x.job _ rows (filled-jobs (λ j. x.job ≢ j) t d.0),
    filled-jobs-apart t (omega arith) l d.1 n.1,
  )
  filled-jobs-apart (ends_there {x} {rows} l t) h k d n = (
    others-clear x.job _ rows (filled-jobs (λ j. x.job ≢ j) t d.0),
    filled-jobs-apart t (omega arith) (omega arith) d.1 n.1,
  )
  filled-jobs-apart (goes_on {at} {x} {rows} l t) h k d n =
      let short : start + (at + x.minutes - end) ≤ at = omega (arith, n.0) in (
        All-map _ _ rows (λ (r : Row) u e. inr (omega (arith, u e))) (first_ends t (omega arith) d.0),
        filled-jobs-apart t (omega arith) (omega arith) d (omega (arith, n.0), n.1),
      )

  -- a job has one row on a processor, where each has one share and each processor is there once
  pub filled-once : {ps : List ℕ} {at : ℕ} {xs : List Share} {rows : List Row} → Filled start end ps at xs rows →
      Pairwise (λ p q. p ≢ q) ps → Pairwise (λ (x y : Share). x.job ≢ y.job) xs →
      Pairwise (λ (r s : Row). r.job ≡ s.job → r.processor ≢ s.processor) rows
  filled-once no-processor e d = tt
  filled-once no-share e d = tt
  filled-once (ends-before {x} {rows} l t) e d =
      (others-clear x.job _ rows (filled-jobs (λ j. x.job ≢ j) t d.0), filled-once t e d.1)
  filled-once (ends_there {x} {rows} l t) e d =
      (others-clear x.job _ rows (filled-jobs (λ j. x.job ≢ j) t d.0), filled-once t e.1 d.1)
  filled-once (goes_on {p} {rows} l t) e d =
      (All-map _ _ rows (λ (r : Row) ne _. ne) (filled-processors (λ q. p ≢ q) t e.0), filled-once t e.1 d)

  -- the rows of a job add up to its shares, where all shares have room on the processors; y minutes of the first are taken
  pub filled-lengths : {ps : List ℕ} {at : ℕ} {xs : List Share} {rows : List Row} → Filled start end ps at xs rows →
      (y : ℕ) → at ≡ start + y → at ≤ end → y + total xs (λ (x : Share). x.minutes) ≤ length ps * (end - start) →
      (j : ℕ) → lengths_of j rows ≡ total xs (λ (x : Share). only (eqb x.job j) x.minutes)
  filled-lengths (no-processor {xs}) y e k h j =
      omega (
        arith,
        total-le xs (λ (x : Share). only (eqb x.job j) x.minutes) (λ (x : Share). x.minutes)
            (in-All _ xs (λ (x : Share) i. only-le (eqb x.job j) x.minutes)),
      )
  filled-lengths no-share y e k h j = refl
  filled-lengths (ends-before {at} {x} l t) y e k h j =
      let f : at + x.minutes - at ≡ x.minutes = omega arith in
      rw f (omega (arith, filled-lengths t (y + x.minutes) (omega arith) (omega arith) (omega arith) j))
  filled-lengths (ends_there {at} {x} l t) y e k h j =
      let f : end - at ≡ x.minutes = omega arith in
      rw f (omega (arith, filled-lengths t 0 (omega arith) (omega arith) (omega arith) j))
  filled-lengths (goes_on {at} {x} {xs} l t) y e k h j =
      let others = total xs (λ (x : Share). only (eqb x.job j) x.minutes) in
      omega (
        arith,
        cut-share (eqb x.job j) at end x.minutes others k l,
        filled-lengths t 0 (omega arith) (omega arith) (omega arith) j,
      )

  -- each row but the last ends a share or fills a processor
  pub filled-few : {ps : List ℕ} {at : ℕ} {xs : List Share} {rows : List Row} → Filled start end ps at xs rows →
      length rows ≤ length xs + length ps - 1
  filled-few no-processor = omega arith
  filled-few no-share = omega arith
  filled-few (ends-before l t) = omega (arith, filled-few t)
  filled-few (ends_there l t) = omega (arith, filled-few t)
  filled-few (goes_on l t) = omega (arith, filled-few t)
