-- The state of the engine, which moves amounts between jobs until every job has its time or a cut violates.
-- The n jobs have an idle job n beside them, of the class m: its amount in a stretch is what nobody holds there.
use Rattle.std.specs.Prelude.{◌≡◌, ◌≢◌, ℕ, suc, ◌+◌, ◌*◌, ◌-◌, ◌≤◌, ◌<◌}
use Rattle.std.proofs.Common.{ap, arith}
use Rattle.std.proofs.Math.Decide.{ℕ_discrete}
use Rattle.sums.specs.Sum.{sum}
use Rattle.sums.specs.Gate.{gate}
use Rattle.amounts.specs.Flow.{Flow}
use Rattle.amounts.specs.Below.{Free}

-- what a step changes: the amounts, what is left of the rooms, what is left to do of the jobs, and their heights
pub record Fill : Type 0 where
  pub w : ℕ → ℕ → ℕ
  pub slack : ℕ → ℕ → ℕ
  pub left : ℕ → ℕ
  pub h : ℕ → ℕ

-- the jobs' classes are 1 to m - 1, and m for the idle job; no room for no class, and none lost beyond m - 1
pub record Classed (o : Flow) (m : ℕ) : Type 0 where
  pub class_low : (j : ℕ) → j ≤ o.n → 0 < o.class j
  pub class-high : (j : ℕ) → j < o.n → o.class j < m
  pub class-idle : o.class o.n ≡ m
  pub room-none : (s : ℕ) → s < o.q → o.room s 0 ≡ 0
  pub room-high : (s k t : ℕ) → s < o.q → suc t ≡ m → t ≤ k → o.room s t ≤ o.room s k

pub class-top : (o : Flow) (m : ℕ) → Classed o m → (a : ℕ) → a ≤ o.n → o.class a ≤ m
class-top o m O a la =
    elim (ℕ_discrete a o.n) [
      | yes e ↦ omega (arith, ap o.class e, O.class-idle)
      | no e ↦ omega (arith, O.class-high a (omega arith))
    ]

-- what is held in s by the classes up to k, with the idle job
abbrev pub held_all : Flow → (ℕ → ℕ → ℕ) → ℕ → ℕ → ℕ
held_all o w s k = sum (suc o.n) (λ j. gate (o.class j) (suc k) (w j s))

-- labels: where j could displace i, it stands at most one higher
pub record State (o : Flow) (m : ℕ) (x : Fill) : Type 0 where
  pub caps : (j s : ℕ) → j < o.n → s < o.q → x.w j s ≤ o.cap j s
  pub rooms : (s k : ℕ) → s < o.q → k < m → held_all o x.w s k + x.slack s k ≡ o.room s k
  pub idle : (s k : ℕ) → s < o.q → suc k ≡ m → x.w o.n s ≡ x.slack s k
  pub rows : (j : ℕ) → j ≤ o.n → sum o.q (x.w j) + x.left j ≡ o.time j
  pub labels : (j i s : ℕ) → j < o.n → i ≤ o.n → s < o.q → x.w j s < o.cap j s → 0 < x.w i s →
      Free (x.slack s) (o.class j) (o.class i) → x.h j ≤ suc (x.h i)
  pub low : (j : ℕ) → j < o.n → 0 < x.h j
  pub high : (j : ℕ) → j < o.n → x.h j ≤ suc o.n
  pub grounded : x.h o.n ≡ 0

-- j may displace i in s: j has cap to spare, i has something, the classes between have slack, and i lies one lower
pub record Able (o : Flow) (x : Fill) (j i s : ℕ) : Type 0 where
  pub j-job : j < o.n
  pub i-any : i ≤ o.n
  pub s-any : s < o.q
  pub spare : x.w j s < o.cap j s
  pub some : 0 < x.w i s
  pub free : Free (x.slack s) (o.class j) (o.class i)
  pub lower : x.h j ≡ suc (x.h i)

pub able-differ : {o : Flow} {x : Fill} {j i s : ℕ} → Able o x j i s → j ≢ i
able-differ {x = x} A e = omega (arith, A.lower, ap x.h e)

-- in the stretches from u on job j may displace nobody
pub record Barred (o : Flow) (x : Fill) (j u : ℕ) : Type 0 where
  pub none : (i s : ℕ) → i ≤ o.n → u ≤ s → s < o.q → x.w j s < o.cap j s → 0 < x.w i s →
      Free (x.slack s) (o.class j) (o.class i) → x.h j ≢ suc (x.h i)

-- from x to y job j has displaced d of job i in s
pub record Moved (o : Flow) (m : ℕ) (x y : Fill) (j i s d : ℕ) : Type 0 where
  pub w-up : y.w j s ≡ x.w j s + d
  pub w-down : y.w i s + d ≡ x.w i s
  pub w-row : (a b : ℕ) → b < o.q → b ≢ s → y.w a b ≡ x.w a b
  pub w-col : (a : ℕ) → a ≢ j → a ≢ i → y.w a s ≡ x.w a s
  pub left_down : y.left j + d ≡ x.left j
  pub left_up : y.left i ≡ x.left i + d
  pub left-else : (a : ℕ) → a ≢ j → a ≢ i → y.left a ≡ x.left a
  pub slack-at : (k : ℕ) → k < m →
      y.slack s k + gate (o.class j) (suc k) d ≡ x.slack s k + gate (o.class i) (suc k) d
  pub slack-else : (b k : ℕ) → b < o.q → b ≢ s → k < m → y.slack b k ≡ x.slack b k
  pub h-same : (a : ℕ) → y.h a ≡ x.h a

-- The measure falls with each step: K for each level that a job can still rise, and what it has left times its height.
unfoldable pub weight : ℕ → ℕ → (ℕ → ℕ) → (ℕ → ℕ) → ℕ → ℕ
weight K n left h j = (suc n - h j) * K + left j * h j

unfoldable pub measure : ℕ → ℕ → Fill → ℕ
measure K n x = sum (suc n) (weight K n x.left x.h)
