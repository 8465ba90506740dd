-- How the engine ends: nothing is left, and the amounts are feasible; or a job with something left stands above an
-- empty level, and a cut violates. Such a level there is at the latest when a job stands above the level n.
use Rattle.std.specs.Prelude.{◌≡◌, ◌≢◌, ℕ, suc, ◌*◌, ◌-◌, ◌≤◌, ◌<◌, ltb}
use Rattle.std.proofs.Common.{sym, ◌∙◌, arith, ltb-true, ltb-false, lt-ltb}
use Rattle.std.proofs.Math.Logic.Dec.{and as dec_and}
use Rattle.std.proofs.Math.Decide.{dec_lt}
use Rattle.sums.specs.Sum.{sum, sum-cong}
use Rattle.sums.specs.Gate.{gate-in, gate-out}
use Rattle.amounts.specs.Flow.{Flow, held, Feasible, Cut}
use Rattle.amounts.specs.Below.{highest, nobody, highest-below, zero-at, no_zero, first-zero}
use Rattle.amounts.specs.Level.{level-empty}
use Rattle.amounts.specs.State.{Fill, Classed, held_all, State}
use Rattle.amounts.specs.Stuck.{stuck-violating}

module _ (o : Flow) (m : ℕ) (x : Fill) (O : Classed o m) (S : State o m x) where
  positive : 0 < m
  positive = omega (arith, O.class-idle, O.class_low o.n (omega arith))

  -- the idle job counts in no class below m
  held_all_lem : (s k : ℕ) → k < m → held_all o x.w s k ≡ held o x.w s k
  unfolding sum
  held_all_lem s k l = omega (arith, gate-out (o.class o.n) (suc k) (x.w o.n s) (omega (arith, O.class-idle)))

  held_high : (s k t : ℕ) → suc t ≡ m → t ≤ k → held o x.w s k ≡ held o x.w s t
  held_high s k t e l =
      sum-cong o.n _ _ (λ j b.
      gate-in (o.class j) (suc k) (x.w j s) (omega (arith, O.class-high j b))
      ∙ sym (gate-in (o.class j) (suc t) (x.w j s) (omega (arith, O.class-high j b))))

  pub done-feasible : ((j : ℕ) → j < o.n → x.left j ≡ 0) → Feasible o 1 x.w
  done-feasible done =
      record {
        parts = omega arith;
        caps = λ j s a b. omega (arith, S.caps j s a b);
        done = λ j a. omega (arith, S.rows j (omega arith), done j a);
        fits = λ s k b.
            elim (dec_lt k m) [
              | yes l ↦ omega (arith, S.rooms s k b l, held_all_lem s k l)
              | no l ↦ high s k b (m - 1) (omega (arith, positive)) (omega arith)
            ];
      }
    where
      high : (s k : ℕ) → s < o.q → (t : ℕ) → suc t ≡ m → t ≤ k → held o x.w s k ≤ 1 * o.room s k
      high s k b t e l =
          omega (
            arith,
            held_high s k t e l,
            held_all_lem s t (omega arith),
            S.rooms s t b (omega arith),
            O.room-high s k t b e l,
          )

  -- k is a class to cut the stretch s at: it is tight, the jobs above the level g that have cap to spare are of classes
  -- up to k, and who holds something there and is of a class up to k stands above g
  record CutAt (g s k : ℕ) : Type 0 where
    pub tight : x.slack s k ≡ 0
    pub full : (j : ℕ) → j < o.n → g < x.h j → x.w j s < o.cap j s → o.class j ≤ k
    pub none : (i : ℕ) → i < o.n → 0 < x.w i s → o.class i ≤ k → g < x.h i

  module _ (g : ℕ) (pos : 0 < g) (gap : (j : ℕ) → j < o.n → x.h j ≢ g) where
    -- the first tight class from the highest one of a job above g with cap to spare; 0 if there is no such job
    cut_at : (s : ℕ) → (k : ℕ) × (k < m) × (s < o.q → CutAt g s k)
    cut_at s =
        elim (highest-below (λ j. (g < x.h j) × (x.w j s < o.cap j s)) o.class
        (λ j. dec_and (dec_lt g (x.h j)) (dec_lt (x.w j s) (o.cap j s))) o.n) [
          | nobody f ↦ (
            0,
            positive,
            λ b.
                record {
                  tight = omega (arith, S.rooms s 0 b positive, O.room-none s b);
                  full = λ j l u v. absurd (f j l (u, v));
                  none = λ i l u v. omega (arith, O.class_low i (omega arith));
                },
          )
          | highest j l p top ↦
              elim (first-zero (x.slack s) (o.class j) m) [
                | zero-at k lo hi z free ↦ (
                  k,
                  hi,
                  λ b.
                      record {
                        tight = z;
                        full = λ i li u v. omega (arith, top i li (u, v));
                        none = λ i li has c.
                            omega (
                              arith,
                              gap i li,
                              S.labels j i s l (omega arith) b p.1 has (λ k' a d. free k' a (omega arith)),
                            );
                      },
                )
                | no_zero free ↦ (
                  0,
                  positive,
                  λ b.
                      let some : 0 < x.w o.n s =
                      omega (
                        arith,
                        S.idle s (m - 1) b (omega (arith, positive)),
                        free (m - 1) (omega (arith, O.class-high j l)) (omega (arith, positive)),
                      ) in
                      absurd (omega (
                        arith,
                        S.grounded,
                        S.labels j o.n s l (omega arith) b p.1 some
                            (λ k a d. free k a (omega (arith, O.class-idle))),
                      )),
                )
              ]
        ]

    -- a job with something left above an empty level
    pub gap-cut : (j : ℕ) → j < o.n → g < x.h j → 0 < x.left j → Cut o m
    gap-cut j l up left =
        let κ : ℕ → ℕ = λ s. (cut_at s).0 in
        let is : (s : ℕ) → s < o.q → CutAt g s (κ s) = λ s b. (cut_at s).2 b in
        record {
          κ = κ;
          below = λ s. (cut_at s).1;
          violating = stuck-violating o x.w κ (λ j. ltb g (x.h j))
              (record {
                full = λ i s a b e c.
                    elim (dec_lt (x.w i s) (o.cap i s)) [
                      | yes r ↦ omega (arith, (is s b).full i a (ltb-true _ _ e) r)
                      | no r ↦ omega (arith, S.caps i s a b)
                    ];
                none = λ i s a b e c.
                    elim (dec_lt 0 (x.w i s)) [
                      | yes r ↦ omega (arith, ltb-false g (x.h i) e, (is s b).none i a r c)
                      | no r ↦ omega arith
                    ];
                tight = λ s b.
                    omega (arith, (is s b).tight, held_all_lem s (κ s) (cut_at s).1, S.rooms s (κ s) b (cut_at s).1);
                within = λ i a. omega (arith, S.rows i (omega arith));
                who = j;
                who-job = l;
                who-in = lt-ltb g (x.h j) up;
                who-left = omega (arith, S.rows j (omega arith));
              });
        }

  pub stuck-cut : (j : ℕ) → j < o.n → o.n < x.h j → 0 < x.left j → Cut o m
  stuck-cut j l up left =
      let z = level-empty o.n x.h j l up in
      gap-cut z.0 z.1 z.3 j l (omega (arith, z.2)) left
