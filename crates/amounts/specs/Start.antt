-- How the engine starts: no job holds anything, and the idle job, whose time it is, the last room of each stretch.
-- The jobs stand at 1, the idle job at 0.
use Rattle.std.specs.Prelude.{◌≡◌, ℕ, suc, ◌-◌, ◌<◌}
use Rattle.std.proofs.Common.{ap, arith}
use Rattle.std.proofs.Math.Decide.{ℕ_discrete}
use Rattle.sums.specs.Sum.{sum, sum-cong, sum-const}
use Rattle.sums.specs.Gate.{gate, gate-out, gate-≤}
use Rattle.amounts.specs.Flow.{Flow}
use Rattle.amounts.specs.State.{Fill, Classed, State, held_all}

pub record Begun (o : Flow) (m : ℕ) (x : Fill) : Type 0 where
  pub no-amount : (j s : ℕ) → j < o.n → s < o.q → x.w j s ≡ 0
  pub all-idle : (s : ℕ) → s < o.q → x.w o.n s ≡ o.room s (m - 1)
  pub all-slack : (s k : ℕ) → s < o.q → k < m → x.slack s k ≡ o.room s k
  pub all_left : (j : ℕ) → j < o.n → x.left j ≡ o.time j
  pub none_left : x.left o.n ≡ 0
  pub one : (j : ℕ) → j < o.n → x.h j ≡ 1
  pub grounded : x.h o.n ≡ 0

module _ (o : Flow) (m : ℕ) (x : Fill) (O : Classed o m) (B : Begun o m x) where
  start-held : (s k : ℕ) → s < o.q → k < m → held_all o x.w s k ≡ 0
  start-held s k ls lk =
      omega (
        arith,
        sum-const (suc o.n) 0,
        sum-cong (suc o.n) (λ j. gate (o.class j) (suc k) (x.w j s)) (λ _. 0) (λ j lj.
            elim (ℕ_discrete j o.n) [
              | yes e ↦
                  gate-out (o.class j) (suc k) (x.w j s) (omega (arith, ap o.class e, O.class-idle))
              | no e ↦ omega (arith, gate-≤ (o.class j) (suc k) (x.w j s), B.no-amount j s (omega arith) ls)
            ]),
      )

  pub start-state : o.time o.n ≡ sum o.q (λ s. o.room s (m - 1)) → State o m x
  start-state idle-time =
      record {
        caps = λ j s lj ls. omega (arith, B.no-amount j s lj ls);
        rooms = λ s k ls lk. omega (arith, start-held s k ls lk, B.all-slack s k ls lk);
        idle = λ s k ls e.
            let z : m - 1 ≡ k = omega arith in
            omega (arith, B.all-idle s ls, ap (o.room s) z, B.all-slack s k ls (omega arith));
        rows = λ j lj.
            elim (ℕ_discrete j o.n) [
              | yes e ↦
                  rw e
                  (omega (arith, B.none_left, sum-cong o.q (x.w o.n) (λ s. o.room s (m - 1)) B.all-idle))
              | no e ↦
                  omega (
                    arith,
                    B.all_left j (omega arith),
                    sum-const o.q 0,
                    sum-cong o.q (x.w j) (λ _. 0) (λ s ls. B.no-amount j s (omega arith) ls),
                  )
            ];
        labels = λ j i s lj li ls sp has fr. omega (arith, B.one j lj);
        low = λ j lj. omega (arith, B.one j lj);
        high = λ j lj. omega (arith, B.one j lj);
        grounded = B.grounded;
      }
