-- Completeness: feasible amounts in whole minutes exist, or a cut violates; so where no cut violates they exist.
-- By running the engine until it ends, with the idle job put in as job n. The hypotheses speak of the n jobs only.
use Rattle.std.specs.Prelude.{◌≡◌, refl, ◌⊎◌, ◌≢◌, ℕ, zero, suc, ◌-◌, ◌≤◌, ◌<◌}
use Rattle.std.proofs.Common.{ap, ◌∙◌, inl, inr, arith}
use Rattle.std.proofs.Math.Path.{sym}
use Rattle.std.proofs.Math.Decide.{dec_lt, ℕ_discrete}
use Rattle.sums.specs.Sum.{sum, sum-ge}
use Rattle.sums.specs.Gate.{gate, gate-in, gate-out, at, at_in, at_out, put, put_same, put_other}
use Rattle.amounts.specs.Flow.{Flow, Feasible, Violating, Cut}
use Rattle.amounts.specs.Same.{same-violating, same-feasible}
use Rattle.amounts.specs.Below.{first, none, first_below}
use Rattle.amounts.specs.State.{Fill, Classed, State, measure}
use Rattle.amounts.specs.Relabel.{risen, rise-state, rise-less}
use Rattle.amounts.specs.Push.{push-state, push-less}
use Rattle.amounts.specs.End.{done-feasible, stuck-cut}
use Rattle.amounts.specs.Start.{Begun, start-state}
use Rattle.amounts.specs.Move.{pushed, pushed-moved, push, rise, choose}

-- the jobs' classes are 1 to m - 1; no room for no class, and from m on no less room than for m - 1
pub record Classes (o : Flow) (m : ℕ) : Type 0 where
  pub some : 0 < m
  pub low : (j : ℕ) → j < o.n → 0 < o.class j
  pub high : (j : ℕ) → j < o.n → o.class j < m
  pub room-none : (s : ℕ) → s < o.q → o.room s 0 ≡ 0
  pub room-high : (s k : ℕ) → s < o.q → m ≤ k → o.room s (m - 1) ≤ o.room s k

abbrev pub Outcome : Flow → ℕ → Type 0
Outcome o m = ((a : ℕ → ℕ → ℕ) × Feasible o 1 a) ⊎ Cut o m

-- the engine, run until it ends; fuel is more than its measure
module _ (o : Flow) (m K : ℕ) (O : Classed o m) (big : (j : ℕ) → j < o.n → o.time j < K) where
  run : (fuel : ℕ) (x : Fill) → State o m x → measure K o.n x < fuel → Outcome o m
  run zero x S l = absurd (omega arith)
  run (suc fuel) x S l =
      elim (first_below (λ j. 0 < x.left j) (λ j. dec_lt 0 (x.left j)) o.n) [
        | none z ↦ inl (x.w, done-feasible o m x O S (λ j b. omega (arith, z j b)))
        | first j b p _ ↦
            elim (dec_lt o.n (x.h j)) [
              | yes up ↦ inr (stuck-cut o m x O S j b up p)
              | no up ↦
                  elim (choose o x j b) [
                    | push i s A ↦
                        let y : Fill = pushed o x j i s in
                        let M = pushed-moved o m x j i s A p in
                        run fuel y (push-state o m x y j i s 1 O S A M (omega (arith, A.spare)))
                        (omega (arith, push-less o m x y j i s 1 O S A M K (omega arith)))
                    | rise B ↦
                        let h : ℕ → ℕ = put x.h j (suc (x.h j)) in
                        let here : h j ≡ suc (x.h j) = put_same x.h j _ in
                        let else : (a : ℕ) → a ≢ j → h a ≡ x.h a = λ a ne. put_other x.h j _ a ne in
                        run fuel (risen x h) (rise-state o m x h j S b (omega arith) here else B)
                        (omega (
                          arith,
                          rise-less o m x h j S b (omega arith) here else K
                              (omega (arith, big j b, S.rows j (omega arith))),
                        ))
                  ]
            ]
      ]

module _ (o : Flow) (m : ℕ) (C : Classes o m) where
  -- o with the idle job put in as job n
  abbrev with_idle : Flow
  with_idle =
      record {
        q = o.q;
        n = o.n;
        time = put o.time o.n (sum o.q (λ s. o.room s (m - 1)));
        class = put o.class o.n m;
        cap = o.cap;
        room = o.room;
      }

  time-same : (j : ℕ) → j < o.n → with_idle.time j ≡ o.time j
  time-same j b = put_other o.time o.n _ j (λ e. omega arith)

  class_same : (j : ℕ) → j < o.n → with_idle.class j ≡ o.class j
  class_same j b = put_other o.class o.n m j (λ e. omega arith)

  classed : Classed with_idle m
  classed =
      record {
        class_low = λ j b.
            elim (ℕ_discrete j o.n) [
              | yes e ↦ rw e (omega (arith, put_same o.class o.n m, C.some))
              | no e ↦ omega (arith, class_same j (omega arith), C.low j (omega arith))
            ];
        class-high = λ j b. omega (arith, class_same j b, C.high j b);
        class-idle = put_same o.class o.n m;
        room-none = C.room-none;
        room-high = λ s k t b e l.
            let z : t ≡ m - 1 = omega arith in
            elim (dec_lt t k) [
              | yes r ↦ omega (arith, ap (o.room s) z, C.room-high s k b (omega arith))
              | no r ↦ let y : t ≡ k = omega arith in omega (arith, ap (o.room s) y)
            ];
      }

  start : Fill
  start =
      record {
        w = λ j s. at j o.n (o.room s (m - 1));
        slack = o.room;
        left = λ j. gate j o.n (o.time j);
        h = λ j. gate j o.n 1;
      }

  begun : Begun with_idle m start
  unfolding start
  begun =
      record {
        no-amount = λ j s b _. at_out j o.n _ (λ e. omega arith);
        all-idle = λ s _. at_in o.n o.n _ refl;
        all-slack = λ s k _ _. refl;
        all_left = λ j b. gate-in j o.n _ b ∙ sym (time-same j b);
        none_left = gate-out o.n o.n _ (omega arith);
        one = λ j b. gate-in j o.n 1 b;
        grounded = gate-out o.n o.n 1 (omega arith);
      }

  ended : Outcome with_idle m
  ended =
      let K : ℕ = suc (sum o.n o.time) in
      run with_idle m K classed (λ j b. omega (arith, time-same j b, sum-ge o.n j o.time b))
      (suc (measure K o.n start)) start
      (start-state with_idle m start classed begun (put_same o.time o.n _)) (omega arith)

  pub complete : ((a : ℕ → ℕ → ℕ) × Feasible o 1 a) ⊎ Cut o m
  complete =
      elim ended [
        | inl F ↦ inl (
          F.0,
          same-feasible o.n o.q with_idle.time o.time with_idle.class o.class o.cap o.cap
              o.room o.room time-same class_same (λ j s _ _. refl) (λ s k _. omega arith) 1 F.0 F.1,
        )
        | inr c ↦ inr (record {
          κ = c.κ;
          below = c.below;
          violating =
              same-violating o.n o.q with_idle.time o.time with_idle.class o.class o.cap o.cap
              o.room o.room time-same class_same (λ j s _ _. refl) m (λ s k _ _. refl) c.κ (λ s _. c.below s)
              c.violating;
        })
      ]

  pub complete-if : ((κ : ℕ → ℕ) → ((s : ℕ) → κ s < m) → ¬ Violating o κ) → (a : ℕ → ℕ → ℕ) × Feasible o 1 a
  complete-if no_cut = elim complete [ inl F ↦ F | inr c ↦ absurd (no_cut c.κ c.below c.violating) ]
