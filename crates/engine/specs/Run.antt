-- Which amounts: push and relabel, turn by turn. The first job with something left displaces, in the last stretch where it may,
-- the last job that it may displace there, by the most that it can, until nothing of it is left or it rises by one. Each turn is
-- fixed by the state before it, so far as jobs, stretches and classes go, and so a flow has one end (RunLaws).
use Rattle.std.specs.Prelude.{ℕ, zero, suc, ◌+◌, ◌-◌, ◌≤◌, ◌<◌, ◌≡◌, ◌≢◌, Bool, true, false}
use Rattle.amounts.specs.Flow.{Flow}
use Rattle.amounts.specs.Start.{Begun}
use Rattle.amounts.specs.State.{Fill, Moved, Barred}
use Rattle.engine.specs.View.{PushAt, Picked, Placed, Stands}

-- k turns from x to y
abbrev pub Turns : (X : Type 0) → (X → X → Type 0) → ℕ → X → X → Type 0
Turns X turn zero x y = x ≡ y
Turns X turn (suc k) x y = (z : X) × turn x z × Turns X turn k z y

-- turns from x to y, which ends with e
pub record Run (X E : Type 0) (turn : X → X → Type 0) (end : X → E → Type 0) (x y : X) (e : E) : Type 0 where
  pub turns : ℕ
  pub path : Turns X turn turns x y
  pub ends : end y e

-- the most that job j can displace of job i in s
pub record Most (o : Flow) (x : Fill) (j i s d : ℕ) : Type 0 where
  pub left-fits : d ≤ x.left j
  pub cap-fits : x.w j s + d ≤ o.cap j s
  pub w_fits : d ≤ x.w i s
  pub slack-fits : (k : ℕ) → o.class j ≤ k → k < o.class i → d ≤ x.slack s k
  pub greatest : (v : ℕ) → v ≤ x.left j → x.w j s + v ≤ o.cap j s → v ≤ x.w i s →
      ((k : ℕ) → o.class j ≤ k → k < o.class i → v ≤ x.slack s k) → v ≤ d

-- from x to y it has displaced that much
pub record Displaced (o : Flow) (m : ℕ) (x y : Fill) (j i s : ℕ) : Type 0 where
  pub d : ℕ
  pub most : Most o x j i s d
  pub moved : Moved o m x y j i s d

-- a discharge of job j: it displaces where the search says
pub record PushTurn (o : Flow) (m j : ℕ) (x y : Fill) : Type 0 where
  pub s : ℕ
  pub i : ℕ
  pub some : 0 < x.left j
  pub found : PushAt o x j s i
  pub displaced : Displaced o m x y j i s

pub record Risen (x y : Fill) (j : ℕ) : Type 0 where
  pub w-same : y.w ≡ x.w
  pub slack-same : y.slack ≡ x.slack
  pub left-same : y.left ≡ x.left
  pub up : y.h j ≡ suc (x.h j)
  pub else : (a : ℕ) → a ≢ j → y.h a ≡ x.h a

pub data DischargeEnd (o : Flow) (j : ℕ) (x y : Fill) : Type 0 where
  nothing_left : x.left j ≡ 0 → y ≡ x → DischargeEnd o j x y
  rises : 0 < x.left j → Barred o x j 0 → Risen x y j → DischargeEnd o j x y

abbrev pub DischargeRun : Flow → ℕ → ℕ → Fill → Fill → Type 0
DischargeRun o m j x y = (z : Fill) × Run Fill Fill (PushTurn o m j) (DischargeEnd o j) x z y

-- the filling: the job picked is discharged, unless it stands over n, or over 1 with no job one below
pub record FillTurn (o : Flow) (m : ℕ) (x y : Fill) : Type 0 where
  pub j : ℕ
  pub picked : Picked x.left o.n j
  pub low : x.h j ≤ o.n
  pub held : 1 < x.h j → Stands x.h o.n (x.h j - 1) true
  pub discharged : DischargeRun o m j x y

pub data FillEnd (o : Flow) (x : Fill) (r : Bool) : Type 0 where
  all_placed : Placed x.left o.n → r ≡ true → FillEnd o x r
  too-high : (j : ℕ) → Picked x.left o.n j → o.n < x.h j → r ≡ false → FillEnd o x r
  gap_below : (j : ℕ) → Picked x.left o.n j → 1 < x.h j → Stands x.h o.n (x.h j - 1) false →
      r ≡ false → FillEnd o x r

abbrev pub FillRun : Flow → ℕ → Fill → Fill → Bool → Type 0
FillRun o m = Run Fill Bool (FillTurn o m) (FillEnd o)

-- two flows agree in what is read: jobs, stretches, classes below m
pub record SameFlow (m : ℕ) (o p : Flow) : Type 0 where
  pub n-same : o.n ≡ p.n
  pub q-same : o.q ≡ p.q
  pub time-same : (j : ℕ) → j < p.n → o.time j ≡ p.time j
  pub class_same : (j : ℕ) → j < p.n → o.class j ≡ p.class j
  pub cap-same : (j s : ℕ) → j < p.n → s < p.q → o.cap j s ≡ p.cap j s
  pub room-same : (s k : ℕ) → s < p.q → k < m → o.room s k ≡ p.room s k

-- the amounts and the answer of a flow are those at which the filling ends; it sees the flow with an idle job, of the class m
pub record RunOf (o : Flow) (m : ℕ) (a : ℕ → ℕ → ℕ) (r : Bool) : Type 0 where
  pub flow : Flow
  pub same : SameFlow m flow o
  pub classes : 0 < m
  pub class-high : (j : ℕ) → j < flow.n → flow.class j ≤ m
  pub class-idle : flow.class flow.n ≡ m
  pub start : Fill
  pub end : Fill
  pub begun : Begun flow m start
  pub run : FillRun flow m start end r
  pub amounts : (j s : ℕ) → j < o.n → s < o.q → a j s ≡ end.w j s
