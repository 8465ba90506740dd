-- Laws of the job that a processor ends or begins with at a minute: where its rows rise, there is one row that does.
use Rattle.std.specs.Prelude.{ℕ, ◌≤◌, ◌<◌, ◌≡◌, Bool, true, ◌&&◌, eqb}
use Rattle.std.proofs.Math.Path.{refl, ap}
use Rattle.std.proofs.Common.{sym, ◌∙◌, true≢false, arith, eqb-true, eq-eqb}
use Rattle.std.proofs.Math.Bool.{false}
use mathlib.Core.List.{List, [], ◌∷◌}
use Rattle.std.proofs.Math.Logic.{inl, inr}
use Rattle.sums.specs.Lists.{All, In, Pairwise}
use Rattle.sums.specs.Members.{All-in}
use Rattle.sums.specs.Pairs.{pairs-in}
use Rattle.order.proofs.RefusalLaws.{both_true, true-or-false}
use Rattle.plan.specs.Plan.{Row, Forward}
use Rattle.plan.proofs.JoinAgain.{Rises}
use Rattle.wrap.specs.Ending.{job_where, ends_at, begins_at, ends_with}

module _ (test : Row → Bool) where
  -- a job that is told is that of a row which passes the test
  pub where_found : (rows : List Row) → 1 ≤ job_where test rows →
      (r : Row) × In r rows × (test r ≡ true) × (r.job ≡ job_where test rows)
  unfolding job_where
  where_found [] h = absurd (omega arith)
  where_found (x ∷ rows) h =
      elim (true-or-false (test x)) [
        | inl e ↦ (x, inl refl, e, rw e refl)
        | inr e ↦ let k = where_found rows (rw e at h) in (k.0, inr k.1, k.2, rw e k.3)
      ]

  -- a row that passes the test tells its job, where all that pass it are of this job
  pub where-is : (rows : List Row) (job : ℕ) (r : Row) → In r rows → test r ≡ true →
      ((t : Row) → In t rows → test t ≡ true → t.job ≡ job) → job_where test rows ≡ job
  unfolding job_where
  where-is [] job r i e h = absurd i
  where-is (x ∷ rows) job r i e h =
      elim (true-or-false (test x)) [
        | inl f ↦ rw f (h x (inl refl) f)
        | inr f ↦ rw f (where-is rows job r (behind i f) e (λ t k g. h t (inr k) g))
      ]
    where
      behind : In r (x ∷ rows) → test x ≡ false → In r rows
      behind (inl g) f = absurd (true≢false (sym e ∙ ap test g ∙ f))
      behind (inr k) f = k

  pub where-none : (rows : List Row) → All (λ (r : Row). test r ≡ false) rows → job_where test rows ≡ 0
  unfolding job_where
  where-none [] h = refl
  where-none (x ∷ rows) h = rw h.0 (where-none rows h.1)

-- a row's edge, where it ends or where it begins, at a minute on a processor
module _ (edge : Row → ℕ) where
  abbrev met : (minute processor : ℕ) → Row → Bool
  met minute processor r = eqb r.processor processor && eqb (edge r) minute

  met-true : (minute processor : ℕ) (r : Row) → met minute processor r ≡ true → (r.processor ≡ processor) × (edge r ≡ minute)
  met-true minute processor r e =
      let h = both_true (eqb r.processor processor) _ e in (eqb-true _ _ h.0, eqb-true _ _ h.1)

  met-own : (r : Row) → met (edge r) r.processor r ≡ true
  met-own r = rw (eq-eqb r.processor r.processor refl, eq-eqb (edge r) (edge r) refl) refl

  -- where the rows of a processor rise, and their edges with them, one row has its edge at a minute
  module _ (rises : (r s : Row) → Forward r → Forward s → r.to ≤ s.from → edge r < edge s) (rows : List Row)
      (f : All Forward rows) (h : Pairwise Rises rows) (r : Row) (i : In r rows) where
    same-job : (t : Row) → In t rows → t.processor ≡ r.processor → edge t ≡ edge r → t.job ≡ r.job
    same-job t k p e =
        let m = All-in Forward rows f r i in
        let n = All-in Forward rows f t k in
        elim (pairs-in Rises rows h r t i k) [
          | inl g ↦ ap (λ (x : Row). x.job) (sym g)
          | inr g ↦ elim g [
            | inl w ↦ absurd (omega (arith, rises r t m n (w (sym p))))
            | inr w ↦ absurd (omega (arith, rises t r n m (w p)))
          ]
        ]

    edge-is : job_where (met (edge r) r.processor) rows ≡ r.job
    edge-is =
        where-is (met (edge r) r.processor) rows r.job r i (met-own r)
        (λ t k e. let g = met-true (edge r) r.processor t e in same-job t k g.0 g.1)

-- so of ends and of beginnings
pub ends-at-true : (minute processor : ℕ) (r : Row) → ends_at minute processor r ≡ true → (r.processor ≡ processor) × (r.to ≡ minute)
ends-at-true minute processor r e = met-true (λ (r : Row). r.to) minute processor r e

pub begins-at-true : (minute processor : ℕ) (r : Row) → begins_at minute processor r ≡ true →
    (r.processor ≡ processor) × (r.from ≡ minute)
begins-at-true minute processor r e = met-true (λ (r : Row). r.from) minute processor r e

module _ (rows : List Row) (f : All Forward rows) (h : Pairwise Rises rows) (r : Row) (i : In r rows) where
  pub ends_is : ends_with rows r.to r.processor ≡ r.job
  ends_is = edge-is (λ (r : Row). r.to) (λ r s k l m. omega arith) rows f h r i

  pub begins-is : job_where (begins_at r.from r.processor) rows ≡ r.job
  begins-is = edge-is (λ (r : Row). r.from) (λ r s k l m. omega arith) rows f h r i
