-- Flat lists seen as functions, and what the small functions do to them.
use Rattle.std.specs.Prelude.{◌≡◌, ◌≢◌, List, Option, Some, None, Bool, true, false, ℕ, suc, ◌+◌, ◌*◌, ◌-◌, ◌^◌, ◌≤◌, ◌<◌, min, length, get_or}
use Rattle.std.proofs.Common.{ap, mul-lt-mul_of_pos_right, mul-le-mul_right, suc-mul, arith}
use Rattle.engine.specs.declared.instance.Instance.{Instance}
use Rattle.engine.specs.declared.instance.Filling.{Filling}
use Rattle.engine.specs.declared.moves.Push.{Push}
use Rattle.std.proofs.Math.Decide.{dec_lt}
use Rattle.sums.specs.Gate.{gate}
use Rattle.amounts.specs.Flow.{Flow, Feasible, Cut}
use Rattle.amounts.specs.State.{Fill, Classed, State, measure, Able, Barred}

-- entry (j, s) of rows of q
abbrev pub grid : ℕ → List ℕ → ℕ → ℕ → ℕ
grid q l j s = get_or l (j * q + s) 0

abbrev pub row : List ℕ → ℕ → ℕ
row l j = get_or l j 0

abbrev pub flow_of : ℕ → ℕ → ℕ → List ℕ → List ℕ → List ℕ → List ℕ → Flow
flow_of n q m time class cap room =
    record { q = q; n = n; time = row time; class = row class; cap = grid q cap; room = λ s k. grid m room s (min k (m - 1)) }

abbrev pub fill_of : ℕ → ℕ → List ℕ → List ℕ → List ℕ → List ℕ → Fill
fill_of q m w slack left h = record { w = grid q w; slack = grid m slack; left = row left; h = row h }

-- what the code is given, as a flow, and its amounts, as a filling
abbrev pub flow_in : Instance → Flow
flow_in g = flow_of g.n g.q g.m g.time.now g.class.now g.cap.now g.room.now

abbrev pub fill_in : Instance → Filling → Fill
fill_in g x = fill_of g.q g.m x.w.now x.slack.now x.left.now x.height.now

-- the lists are long enough
pub record Sizes (n q m : ℕ) (time class cap room w slack left h : List ℕ) : Type 0 where
  pub s-time : suc n ≤ length time
  pub s-class : suc n ≤ length class
  pub s-cap : n * q ≤ length cap
  pub s-room : q * m ≤ length room
  pub s-w : suc n * q ≤ length w
  pub s-slack : q * m ≤ length slack
  pub s-left : suc n ≤ length left
  pub s-h : suc n ≤ length h

-- d more at up, d less at down, all others as before
pub record Transferred (xs ys : List ℕ) (up down d : ℕ) : Type 0 where
  pub more : get_or ys up 0 ≡ get_or xs up 0 + d
  pub less : get_or ys down 0 + d ≡ get_or xs down 0
  pub other : (k : ℕ) → k ≢ up → k ≢ down → get_or ys k 0 ≡ get_or xs k 0

-- d less at each place, d more at each place
pub record Lowered (xs ys : List ℕ) (d : ℕ) : Type 0 where
  pub each : (k : ℕ) → k < length xs → get_or ys k 0 + d ≡ get_or xs k 0

pub record Raised (xs ys : List ℕ) (d : ℕ) : Type 0 where
  pub each : (k : ℕ) → k < length xs → get_or ys k 0 ≡ get_or xs k 0 + d

-- the first entry that is 0, or the end
pub record FirstZero (xs : List ℕ) (r : ℕ) : Type 0 where
  pub high : r ≤ length xs
  pub free : (k : ℕ) → k < r → 0 < get_or xs k 0
  pub zero-at : r < length xs → get_or xs r 0 ≡ 0

-- the most that job j can displace: the amounts at up and down, and the slacks
pub record Amount (cap w left slack : List ℕ) (j up down r : ℕ) : Type 0 where
  pub left-fits : r ≤ get_or left j 0
  pub cap-fits : get_or w up 0 + r ≤ get_or cap up 0
  pub w_fits : r ≤ get_or w down 0
  pub slack-fits : (k : ℕ) → k < length slack → r ≤ get_or slack k 0
  pub greatest : (v : ℕ) → v ≤ get_or left j 0 → get_or w up 0 + v ≤ get_or cap up 0 → v ≤ get_or w down 0 →
      ((k : ℕ) → k < length slack → v ≤ get_or slack k 0) → v ≤ r

-- d less from class c on, and d more from class e on, in the slacks at base
pub record Shifted (xs ys : List ℕ) (base c e d : ℕ) : Type 0 where
  pub here : (k : ℕ) → get_or ys (base + k) 0 + gate c (suc k) d ≡ get_or xs (base + k) 0 + gate e (suc k) d
  pub before : (k : ℕ) → k < base → get_or ys k 0 ≡ get_or xs k 0

-- the first job with something left
pub record Picked (left : ℕ → ℕ) (n j : ℕ) : Type 0 where
  pub job : j < n
  pub active : 0 < left j
  pub first : (a : ℕ) → a < j → left a ≡ 0

-- nothing is left of any job
abbrev pub Placed : (ℕ → ℕ) → ℕ → Type 0
Placed left n = (a : ℕ) → a < n → left a ≡ 0

abbrev pub PickedFirst : (ℕ → ℕ) → ℕ → Option ℕ → Type 0
PickedFirst left n (Some j) = Picked left n j
PickedFirst left n None = Placed left n

-- job i has something in s, a class up to t, and is one below the height h
abbrev pub Aimed : List ℕ → List ℕ → List ℕ → ℕ → ℕ → ℕ → ℕ → ℕ → Type 0
Aimed class w height q s t h i = (0 < get_or w (i * q + s) 0) × (get_or class i 0 ≤ t) × (h ≡ get_or height i 0 + 1)

-- the last such job
abbrev pub Aim : List ℕ → List ℕ → List ℕ → ℕ → ℕ → ℕ → ℕ → ℕ → Option ℕ → Type 0
Aim class w height n q s t h (Some i) =
    (i ≤ n) × Aimed class w height q s t h i × ((a : ℕ) → i < a → a ≤ n → ¬ Aimed class w height q s t h a)
Aim class w height n q s t h None = (a : ℕ) → a ≤ n → ¬ Aimed class w height q s t h a

pub record Advanced (o : Flow) (m : ℕ) (x y : Fill) : Type 0 where
  pub state : State o m y
  pub less : measure (2 ^ 32) o.n y < measure (2 ^ 32) o.n x

-- a push in s: the engine goes on, and what was barred beyond s still is
pub record Pushed (o : Flow) (m : ℕ) (x y : Fill) (j s : ℕ) : Type 0 where
  pub advanced : Advanced o m x y
  pub barred : (u : ℕ) → s < u → Barred o x j u → Barred o y j u

-- whether a job stands at the height g
abbrev pub Stands : (ℕ → ℕ) → ℕ → ℕ → Bool → Type 0
Stands h n g true = (a : ℕ) × (a < n) × (h a ≡ g)
Stands h n g false = (a : ℕ) → a < n → h a ≢ g

-- what every step of the engine needs
pub record Ready (n q m : ℕ) (time class cap room w slack left h : List ℕ) : Type 0 where
  pub sizes : Sizes n q m time class cap room w slack left h
  pub order : Classed (flow_of n q m time class cap room) m
  pub state : State (flow_of n q m time class cap room) m (fill_of q m w slack left h)
  pub small-times : (k : ℕ) → get_or time k 0 < 2 ^ 32
  pub small-caps : (k : ℕ) → get_or cap k 0 < 2 ^ 32
  pub small-rooms : (k : ℕ) → get_or room k 0 < 2 ^ 32

abbrev pub ReadyFor : Instance → Filling → Type 0
ReadyFor g x =
    Ready g.n g.q g.m g.time.now g.class.now g.cap.now g.room.now x.w.now x.slack.now x.left.now x.height.now

-- the last stretch where job j may displace, and the last job there
abbrev pub PushAt : Flow → Fill → ℕ → ℕ → ℕ → Type 0
PushAt o x j s i = Able o x j i s × Barred o x j (suc s) × ((a : ℕ) → i < a → ¬ Able o x j a s)

-- what a search for them answers
abbrev pub Found : Flow → Fill → ℕ → Option Push → Type 0
Found o x j (Some p) = PushAt o x j p.stretch p.job
Found o x j None = Barred o x j 0

-- how it ends
abbrev pub Answer : Flow → ℕ → (ℕ → ℕ → ℕ) → Bool → Type 0
Answer o m w true = Feasible o 1 w
Answer o m w false = Cut o m

-- a place of row j is below the rows' end
pub in_rows : (j q s n : ℕ) → j < n → s < q → j * q + s < n * q
in_rows j q s n h l = omega (arith, suc-mul j q, mul-le-mul_right q h)

-- row s lies below the rows' end
pub row-end : (s m q : ℕ) → s < q → s * m + m ≤ q * m
row-end s m q h = omega (arith, suc-mul s m, mul-le-mul_right m h)

-- places of two rows differ, and places of two columns
pub other_row : (a j q s : ℕ) → 0 < q → a ≢ j → a * q + s ≢ j * q + s
other_row a j q s p ne e =
    elim (dec_lt a j) [
      | yes l ↦ omega (arith, mul-lt-mul_of_pos_right l p)
      | no l ↦
          let r : j < a = omega arith in
          omega (arith, mul-lt-mul_of_pos_right r p)
    ]

pub other-column : (a b j s q : ℕ) → b < q → s < q → b ≢ s → a * q + b ≢ j * q + s
other-column a b j s q lb ls ne e =
    elim (dec_lt a j) [
      | yes l ↦ omega (arith, suc-mul a q, mul-le-mul_right q l)
      | no l ↦
          elim (dec_lt j a) [
            | yes r ↦ omega (arith, suc-mul j q, mul-le-mul_right q r)
            | no r ↦
                let z : a ≡ j = omega arith in
                omega (arith, ap (λ v. v * q) z)
          ]
    ]
