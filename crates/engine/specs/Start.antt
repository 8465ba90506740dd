-- How the engine starts: what it is given, and what the stores of the start leave.
use Rattle.std.specs.Prelude.{◌≡◌, List, ℕ, ◌+◌, ◌*◌, ◌-◌, ◌<◌, min, get_or}
use Rattle.std.proofs.Common.{ap, ◌∙◌, arith}
use Rattle.std.proofs.Math.Decide.{ℕ_discrete}
use Rattle.sums.specs.Sum.{sum, sum-cong}
use Rattle.amounts.specs.State.{Classed}
use Rattle.engine.specs.View.{row, flow_of}

-- the input: classes 1 to m - 1, and m for the idle job n, whose time is the sum of the stretches' last rooms
pub record Given (n q m : ℕ) (time class room : List ℕ) : Type 0 where
  pub classes : 0 < m
  pub low : (j : ℕ) → j < n → 0 < get_or class j 0
  pub high : (j : ℕ) → j < n → get_or class j 0 < m
  pub idle-class : get_or class n 0 ≡ m
  pub idle-time : get_or time n 0 ≡ sum q (λ s. get_or room (s * m + (m - 1)) 0)
  pub no_room : (s : ℕ) → s < q → get_or room (s * m + 0) 0 ≡ 0

-- the first to entries are those of another list
pub record Copied (xs ys : List ℕ) (to : ℕ) : Type 0 where
  pub each : (k : ℕ) → k < to → get_or ys k 0 ≡ get_or xs k 0

-- row n holds the last rooms of the stretches, up to u; what lies below it is as before
pub record IdleRow (room xs ys : List ℕ) (n q m u : ℕ) : Type 0 where
  pub idle : (s : ℕ) → s < u → get_or ys (n * q + s) 0 ≡ get_or room (s * m + (m - 1)) 0
  pub below : (k : ℕ) → k < n * q → get_or ys k 0 ≡ get_or xs k 0

module _ (n q m : ℕ) (time class cap room : List ℕ) (G : Given n q m time class room) where
  pub room_at : (s k : ℕ) → k < m → (flow_of n q m time class cap room).room s k ≡ get_or room (s * m + k) 0
  room_at s k l = let e : min k (m - 1) ≡ k = omega arith in ap (λ z. get_or room (s * m + z) 0) e

  pub start-order : Classed (flow_of n q m time class cap room) m
  start-order =
      record {
        class_low = λ j l.
            elim (ℕ_discrete j n) [
              | yes e ↦ omega (arith, ap (row class) e, G.idle-class, G.classes)
              | no e ↦ G.low j (omega arith)
            ];
        class-high = G.high;
        class-idle = G.idle-class;
        room-none = λ s l. room_at s 0 G.classes ∙ G.no_room s l;
        room-high = λ s k t l e le.
            let z : min k (m - 1) ≡ min t (m - 1) = omega arith in
            omega (arith, ap (λ (v : ℕ). get_or room (s * m + v) 0) z);
      }

  pub start-idle : row time n ≡ sum q (λ s. (flow_of n q m time class cap room).room s (m - 1))
  start-idle =
      omega (
        arith,
        G.idle-time,
        sum-cong q (λ s. (flow_of n q m time class cap room).room s (m - 1)) (λ s. get_or room (s * m + (m - 1)) 0) (λ s l.
            room_at s (m - 1) (omega (arith, G.classes))),
      )
