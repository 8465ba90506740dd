-- Document 01: "times that never rise, each the end of some job, such that the minutes owed .. exceed" those on hand.
-- Where no job's time exceeds its end, an overfull staircase is an overfull profile of the amounts, and such a profile is
-- an overfull staircase.
use Prim.Native.Nat.{ℕ, zero, suc, ◌-◌, ◌*◌, ◌≤◌, ◌<◌}
use Rattle.std.specs.Prelude.{◌≡◌, refl, List, get_or, ◌≤ℤ◌}
use Rattle.std.proofs.Common.{sym, ap, ◌∙◌}
use native.Mathlib.Omega.{arith}
use Rattle.std.proofs.Math.Decide.{ℕ_discrete}
use Rattle.std.proofs.Math.IntN.{ℤ, pos}
use Rattle.std.proofs.Math.ListN.{length}
use Rattle.sums.specs.Sum.{sum, sum-cong}
use Rattle.sums.specs.Gate.{at}
use Rattle.sums.specs.Lists.{nth}
use Rattle.sums.specs.Members.{All-at, All-from, choose}
use Rattle.sums.specs.Pairs.{Pairwise-at, Pairwise-from}
use Rattle.order.specs.Order.{Order, job_count, Numbers, job_of, end_at, end_of}
use Rattle.order.specs.Class.{classes, processors_in}
use Rattle.order.specs.Deadline.{cut, deadline_of}
use Rattle.profile.specs.Profile.{Overfull}
use Rattle.amounts.specs.Profile.{Jobs, Profile}
use Rattle.order.specs.Ends.{≤-pos, cut-≤}
use Rattle.feasible.specs.Matches.{Matches}
use Rattle.feasible.specs.Minutes.{AllInTime, EndsAre, class_owes_at, end_is, exceeds-is}

-- the due time's end is that of some job
abbrev EndOfJob : Order → ℤ → ℤ → Type 0
EndOfJob o bound due = (j : ℕ) × Numbers (job_count o) j × (end_at bound due ≡ end_of bound (job_of o j))

module _ (o : Order) (bound : ℤ) (in-time : AllInTime o bound) (a : Jobs) (m : Matches o bound a) where
  -- the amounts' two sums are those of the order
  on-hand-same : (k : ℕ) → k ≤ length (classes o) → (T : ℕ → ℕ) →
      sum k (λ i. a.count i * T i) ≡ sum k (λ i. processors_in o (suc i) * T i)
  on-hand-same k few T = sum-cong k _ _ (λ i l. ap (λ (c : ℕ). c * T i) (m.counts i (omega arith)))

  owed_same : (k : ℕ) (T : ℕ → ℕ) →
      sum k (λ i. sum a.n (λ j. at (a.class j) (suc i) (a.time j - (a.deadline j - T i))))
      ≡ sum k (λ i. class_owes_at o bound (suc i) (T i))
  owed_same k T =
      sum-cong k _ _ (λ i l.
      ap (λ (n : ℕ). sum n (λ j. at (a.class j) (suc i) (a.time j - (a.deadline j - T i)))) m.jobs
      ∙ sum-cong (job_count o) _ _ (λ j b. cc (m.of-class j b, m.times j b, m.deadlines j b)))

  -- an overfull staircase is an overfull profile
  pub overfull-profile : (dues : List ℤ) → Overfull o bound dues → Profile a (length (classes o))
  unfolding deadline_of
  overfull-profile dues full =
      record {
        k = length dues;
        T = T;
        few = full.profile.of-classes;
        an-end = λ i l. let e = All-at (EndOfJob o bound) dues (pos 0) full.profile.of-jobs i l in
            job-end i e.0 e.1 e.2;
        falling = λ i l.
            cut-≤ _ _ (Pairwise-at (λ (d e : ℤ). end_at bound e ≤ℤ end_at bound d) dues (pos 0) full.profile.never-rise
            i (suc i) (omega arith) l);
        more =
            omega (
              arith,
              (exceeds-is o bound in-time dues (λ i. T (suc i)) ends).0 full.exceeds,
              on-hand-same (length dues) full.profile.of-classes (λ i. T (suc i)),
              owed_same (length dues) (λ i. T (suc i)),
            );
      }
    where
      T : ℕ → ℕ
      T i = cut (end_at bound (nth dues i (pos 0)))

      job-end : (i j : ℕ) → Numbers (job_count o) j → end_at bound (get_or dues i (pos 0)) ≡ end_of bound (job_of o j) →
          (j : ℕ) × (j < a.n) × (T (suc i) ≡ a.deadline j)
      job-end i zero b e = absurd (omega arith)
      job-end i (suc j) b e = (j, omega (arith, m.jobs), ap cut e ∙ sym (m.deadlines j b.1))

      ends : EndsAre bound dues (λ i. T (suc i))
      ends i l =
          let e = All-at (EndOfJob o bound) dues (pos 0) full.profile.of-jobs i l in
          e.2 ∙ end_is o bound in-time e.0 e.1 ∙ ap (λ (z : ℤ). pos (cut z)) (sym e.2)

  -- times that never rise from one class to the next never rise at all
  falls : (k : ℕ) (T : ℕ → ℕ) → ((i : ℕ) → suc i < k → T (suc i) ≤ T i) → (i l : ℕ) → i < l → l < k → T l ≤ T i
  falls k T h i zero c d = absurd (omega arith)
  falls k T h i (suc l) c d =
      elim (ℕ_discrete i l) [
        | yes e ↦ omega (arith, h l d, ap T e)
        | no e ↦ omega (arith, h l d, falls k T h i l (omega arith) (omega arith))
      ]

  -- an overfull profile is an overfull staircase: its due times are those of the jobs whose ends are its times
  pub profile-overfull : {S : ℕ} → S ≤ length (classes o) → Profile a S → (dues : List ℤ) × Overfull o bound dues
  unfolding end_of
  profile-overfull high f =
      let c = choose f.k (pos 0) Chosen chosen in
      (c.0, full c.0 c.1 (λ i l. c.2 i (rw c.1 at l)))
    where
      Chosen : ℕ → ℤ → Type 0
      Chosen i due = EndOfJob o bound due × (end_at bound due ≡ pos (f.T (suc i)))

      chosen : (i : ℕ) → i < f.k → (due : ℤ) × Chosen i due
      chosen i l =
          let e = f.an-end i l in
          let b : e.0 < job_count o = omega (arith, e.1, m.jobs) in (
            (job_of o (suc e.0)).due,
            (
              (suc e.0, (omega arith, b), refl),
              end_is o bound in-time (suc e.0) (omega arith, b) ∙ ap pos (sym (m.deadlines e.0 b) ∙ sym e.2),
            ),
          )

      full : (dues : List ℤ) → length dues ≡ f.k → ((i : ℕ) → i < length dues → Chosen i (get_or dues i (pos 0))) →
          Overfull o bound dues
      full dues long at_place =
          record {
            profile =
                record {
                  of-classes = omega (arith, long, f.few);
                  never-rise = Pairwise-from _ dues (pos 0) (λ i l c d.
                      rw ((at_place i (omega arith)).1, (at_place l d).1)
                      (≤-pos (falls f.k (λ i. f.T (suc i)) f.falling i l c (omega arith))));
                  of-jobs = All-from _ dues (pos 0) (λ i l. (at_place i l).0);
                };
            exceeds =
                (exceeds-is o bound in-time dues (λ i. f.T (suc i)) (λ i l. (at_place i l).1)).1
                (omega (
                  arith,
                  f.more,
                  on-hand-same f.k (omega (arith, f.few)) (λ i. f.T (suc i)),
                  owed_same f.k (λ i. f.T (suc i)),
                  ap (λ (n : ℕ). sum n (λ i. processors_in o (suc i) * f.T (suc i))) long,
                  ap (λ (n : ℕ). sum n (λ i. class_owes_at o bound (suc i) (f.T (suc i)))) long,
                ));
          }
