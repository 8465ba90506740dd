-- A flow has one run, so far as jobs, stretches and classes go: its answer and its amounts are determined.
use Rattle.std.specs.Prelude.{ℕ, zero, suc, ◌-◌, ◌≤◌, ◌<◌, ◌≡◌, refl, Bool}
use Rattle.std.proofs.Common.{ap, sym, subst, ◌∙◌, arith}
use Rattle.std.proofs.Math.Decide.{dec_lt, ℕ_discrete}
use Rattle.sums.specs.Gate.{gate}
use Rattle.amounts.specs.Flow.{Flow}
use Rattle.amounts.specs.Start.{Begun}
use Rattle.amounts.specs.State.{Fill, Moved, Able, Barred}
use Rattle.engine.specs.View.{PushAt, Picked, Placed}
use Rattle.engine.specs.Run.{
  Turns,
  Run,
  Most,
  Displaced,
  PushTurn,
  DischargeEnd,
  nothing_left,
  rises,
  DischargeRun,
  FillTurn,
  FillEnd,
  all_placed,
  too-high,
  gap_below,
  FillRun,
  SameFlow,
  RunOf,
}

-- one turn more at the end
pub turns_more : (X : Type 0) (turn : X → X → Type 0) (k : ℕ) (x y z : X) →
    Turns X turn k x y → turn y z → Turns X turn (suc k) x z
turns_more X turn zero x y z p t = (z, subst (λ v. turn v z) (sym p) t, refl)
turns_more X turn (suc k) x y z p t = (p.0, p.1, turns_more X turn k p.0 y z p.2 t)

-- two runs side by side: where related states turn to related states and end alike, and neither ends where the other turns, the
-- runs end alike
module _ (X E : Type 0) (turn turn' : X → X → Type 0) (end end' : X → E → Type 0) (R : X → X → Type 0) (Q : E → E → Type 0)
    (turn-same : (x y x' y' : X) → R x x' → turn x y → turn' x' y' → R y y')
    (end_same : (x x' : X) (e f : E) → R x x' → end x e → end' x' f → Q e f)
    (end-turn : (x x' y' : X) (e : E) → R x x' → end x e → turn' x' y' → ⊥)
    (turn_end : (x y x' : X) (f : E) → R x x' → turn x y → end' x' f → ⊥) where
  turns_same : (k l : ℕ) (x y x' y' : X) (e f : E) → R x x' → Turns X turn k x y → end y e → Turns X turn' l x' y' → end' y' f →
      R y y' × Q e f
  turns_same zero zero x y x' y' e f S p a r b =
      let T : R y y' = subst (λ v. R v y') p (subst (λ v. R x v) r S) in (T, end_same y y' e f T a b)
  turns_same zero (suc l) x y x' y' e f S p a r b =
      absurd (end-turn x x' r.0 e S (subst (λ v. end v e) (sym p) a) r.1)
  turns_same (suc k) zero x y x' y' e f S p a r b =
      absurd (turn_end x p.0 x' f S p.1 (subst (λ v. end' v f) (sym r) b))
  turns_same (suc k) (suc l) x y x' y' e f S p a r b =
      turns_same k l p.0 y r.0 y' e f (turn-same x p.0 x' r.0 S p.1 r.1) p.2 a r.2 b

  run-same : (x y x' y' : X) (e f : E) → R x x' → Run X E turn end x y e → Run X E turn' end' x' y' f → R y y' × Q e f
  run-same x y x' y' e f S p r = turns_same p.turns r.turns x y x' y' e f S p.path p.ends r.path r.ends

-- two flows with an idle job agree
record Agree (m : ℕ) (o p : Flow) : Type 0 where
  n-same : o.n ≡ p.n
  q-same : o.q ≡ p.q
  class_same : (j : ℕ) → j ≤ o.n → o.class j ≡ p.class j
  class-high : (j : ℕ) → j ≤ o.n → o.class j ≤ m
  cap-same : (j s : ℕ) → j < o.n → s < o.q → o.cap j s ≡ p.cap j s

-- two states of a flow agree
record Same (o : Flow) (m : ℕ) (x y : Fill) : Type 0 where
  w-same : (j s : ℕ) → j ≤ o.n → s < o.q → x.w j s ≡ y.w j s
  slack-same : (s k : ℕ) → s < o.q → k < m → x.slack s k ≡ y.slack s k
  left-same : (j : ℕ) → j ≤ o.n → x.left j ≡ y.left j
  h-same : (j : ℕ) → j ≤ o.n → x.h j ≡ y.h j

able-barred : (o : Flow) (x : Fill) (j i s u : ℕ) → u ≤ s → Able o x j i s → Barred o x j u → ⊥
able-barred o x j i s u l A B = B.none i s A.i-any l A.s-any A.spare A.some A.free A.lower

module _ (m : ℕ) (o p : Flow) (A : Agree m o p) where
  agree-sym : Agree m p o
  agree-sym =
      record {
        n-same = sym A.n-same;
        q-same = sym A.q-same;
        class_same = λ j l. sym (A.class_same j (omega (arith, A.n-same)));
        class-high = λ j l.
            let b : j ≤ o.n = omega (arith, A.n-same) in omega (arith, A.class_same j b, A.class-high j b);
        cap-same = λ j s l b. sym (A.cap-same j s (omega (arith, A.n-same)) (omega (arith, A.q-same)));
      }

  module _ (x y : Fill) (S : Same o m x y) where
    same-sym : Same p m y x
    same-sym =
        record {
          w-same = λ j s l b. sym (S.w-same j s (omega (arith, A.n-same)) (omega (arith, A.q-same)));
          slack-same = λ s k b l. sym (S.slack-same s k (omega (arith, A.q-same)) l);
          left-same = λ j l. sym (S.left-same j (omega (arith, A.n-same)));
          h-same = λ j l. sym (S.h-same j (omega (arith, A.n-same)));
        }

    picked_same : (j k : ℕ) → Picked x.left o.n j → Picked y.left p.n k → j ≡ k
    picked_same j k P R =
        elim (dec_lt j k) [
          | yes l ↦
              let b : j < o.n = P.job in
              absurd (omega (arith, P.active, R.first j l, S.left-same j (omega arith)))
          | no l ↦
              elim (dec_lt k j) [
                | yes r ↦
                    let b : k < o.n = omega (arith, R.job, A.n-same) in
                    absurd (omega (arith, R.active, P.first k r, S.left-same k (omega arith)))
                | no r ↦ omega arith
              ]
        ]

    placed-picked : (k : ℕ) → Placed x.left o.n → Picked y.left p.n k → ⊥
    placed-picked k P R =
        let b : k < o.n = omega (arith, R.job, A.n-same) in
        omega (arith, R.active, P k b, S.left-same k (omega arith))

    able-same : (j i s : ℕ) → Able o x j i s → Able p y j i s
    able-same j i s B =
        let lj : j < o.n = B.j-job in
        let li : i ≤ o.n = B.i-any in
        let ls : s < o.q = B.s-any in
        record {
          j-job = omega (arith, A.n-same);
          i-any = omega (arith, A.n-same);
          s-any = omega (arith, A.q-same);
          spare = omega (arith, B.spare, S.w-same j s (omega arith) ls, A.cap-same j s lj ls);
          some = omega (arith, B.some, S.w-same i s li ls);
          free = λ k lo hi.
              omega (
                arith,
                B.free k (omega (arith, A.class_same j (omega arith))) (omega (arith, A.class_same i li)),
                S.slack-same s k ls (omega (arith, A.class_same i li, A.class-high i li)),
              );
          lower = omega (arith, B.lower, S.h-same j (omega arith), S.h-same i li);
        }

    -- what fits in one fits in the other
    most-fits : (j i s d e : ℕ) → Able o x j i s → Most o x j i s d → Most p y j i s e → d ≤ e
    most-fits j i s d e B D E =
        let lj : j < o.n = B.j-job in
        let li : i ≤ o.n = B.i-any in
        let ls : s < o.q = B.s-any in
        E.greatest d
        (omega (arith, D.left-fits, S.left-same j (omega arith)))
        (omega (arith, D.cap-fits, S.w-same j s (omega arith) ls, A.cap-same j s lj ls))
        (omega (arith, D.w_fits, S.w-same i s li ls))
        (λ k lo hi.
        omega (
          arith,
          D.slack-fits k (omega (arith, A.class_same j (omega arith))) (omega (arith, A.class_same i li)),
          S.slack-same s k ls (omega (arith, A.class_same i li, A.class-high i li)),
        ))

    moved_same : (x' y' : Fill) (j i s d : ℕ) → Able o x j i s → Moved o m x x' j i s d → Moved p m y y' j i s d → Same o m x' y'
    moved_same x' y' j i s d B M N =
        let lj : j ≤ o.n = omega (arith, B.j-job) in
        let li : i ≤ o.n = B.i-any in
        let ls : s < o.q = B.s-any in
        record {
          w-same = λ a b la lb.
              elim (ℕ_discrete b s) [
                | no u ↦ M.w-row a b lb u ∙ S.w-same a b la lb ∙ sym (N.w-row a b (omega (arith, A.q-same)) u)
                | yes z ↦
                    rw z
                    (elim (ℕ_discrete a j) [
                      | yes e ↦ rw e (omega (arith, M.w-up, N.w-up, S.w-same j s lj ls))
                      | no v ↦
                          elim (ℕ_discrete a i) [
                            | yes e ↦ rw e (omega (arith, M.w-down, N.w-down, S.w-same i s li ls))
                            | no t ↦ M.w-col a v t ∙ S.w-same a s la ls ∙ sym (N.w-col a v t)
                          ]
                    ])
              ];
          slack-same = λ b k lb lk.
              elim (ℕ_discrete b s) [
                | no u ↦
                    M.slack-else b k lb u lk ∙ S.slack-same b k lb lk
                    ∙ sym (N.slack-else b k (omega (arith, A.q-same)) u lk)
                | yes z ↦
                    rw z
                    (omega (
                      arith,
                      M.slack-at k lk,
                      N.slack-at k lk,
                      S.slack-same s k ls lk,
                      ap (λ c. gate c (suc k) d) (A.class_same j lj),
                      ap (λ c. gate c (suc k) d) (A.class_same i li),
                    ))
              ];
          left-same = λ a la.
              elim (ℕ_discrete a j) [
                | yes e ↦ rw e (omega (arith, M.left_down, N.left_down, S.left-same j lj))
                | no v ↦
                    elim (ℕ_discrete a i) [
                      | yes e ↦ rw e (omega (arith, M.left_up, N.left_up, S.left-same i li))
                      | no t ↦ M.left-else a v t ∙ S.left-same a la ∙ sym (N.left-else a v t)
                    ]
              ];
          h-same = λ a la. M.h-same a ∙ S.h-same a la ∙ sym (N.h-same a);
        }

-- each way
module _ (m : ℕ) (o p : Flow) (A : Agree m o p) (x y : Fill) (S : Same o m x y) where
  able-back : (j i s : ℕ) → Able p y j i s → Able o x j i s
  able-back = able-same m p o (agree-sym m o p A) y x (same-sym m o p A x y S)

  stretch-same : (j s i t k : ℕ) → PushAt o x j s i → PushAt p y j t k → s ≡ t
  stretch-same j s i t k F G =
      elim (dec_lt s t) [
        | yes l ↦ absurd (able-barred o x j k t (suc s) l (able-back j k t G.0) F.1)
        | no l ↦
            elim (dec_lt t s) [
              | yes r ↦ absurd (able-barred p y j i s (suc t) r (able-same m o p A x y S j i s F.0) G.1)
              | no r ↦ omega arith
            ]
      ]

  job-same : (j s i k : ℕ) → PushAt o x j s i → PushAt p y j s k → i ≡ k
  job-same j s i k F G =
      elim (dec_lt i k) [
        | yes l ↦ absurd (F.2 k l (able-back j k s G.0))
        | no l ↦
            elim (dec_lt k i) [
              | yes r ↦ absurd (G.2 i r (able-same m o p A x y S j i s F.0))
              | no r ↦ omega arith
            ]
      ]

  most-same : (j i s d e : ℕ) → Able o x j i s → Most o x j i s d → Most p y j i s e → e ≡ d
  most-same j i s d e B D E =
      let less : d ≤ e = most-fits m o p A x y S j i s d e B D E in
      let more : e ≤ d = most-fits m p o (agree-sym m o p A) y x (same-sym m o p A x y S) j i s e d
      (able-same m o p A x y S j i s B) E D in
      omega arith

  push-same : (j : ℕ) (x' y' : Fill) → PushTurn o m j x x' → PushTurn p m j y y' → Same o m x' y'
  push-same j x' y' G H =
      let B = G.found.0 in
      let es : H.s ≡ G.s = sym (stretch-same j G.s G.i H.s H.i G.found H.found) in
      let F : PushAt p y j G.s H.i = subst (λ v. PushAt p y j v H.i) es H.found in
      let ei : H.i ≡ G.i = sym (job-same j G.s G.i H.i G.found F) in
      let D₁ : Displaced p m y y' j H.i G.s = subst (λ v. Displaced p m y y' j H.i v) es H.displaced in
      let D : Displaced p m y y' j G.i G.s = subst (λ v. Displaced p m y y' j v G.s) ei D₁ in
      let C : Displaced o m x x' j G.i G.s = G.displaced in
      let ed : D.d ≡ C.d = most-same j G.i G.s C.d D.d B C.most D.most in
      moved_same m o p A x y S x' y' j G.i G.s C.d B C.moved
      (subst (λ v. Moved p m y y' j G.i G.s v) ed D.moved)

  rest-same : (j : ℕ) → j < o.n → (e f : Fill) → DischargeEnd o j x e → DischargeEnd p j y f → Same o m e f
  rest-same j lj e f (nothing_left a u) (nothing_left b v) =
      subst (λ t. Same o m t f) (sym u) (subst (λ t. Same o m x t) (sym v) S)
  rest-same j lj e f (nothing_left a u) (rises b r v) = absurd (omega (arith, S.left-same j (omega arith)))
  rest-same j lj e f (rises a r u) (nothing_left b v) = absurd (omega (arith, S.left-same j (omega arith)))
  rest-same j lj e f (rises a r u) (rises b t v) =
      record {
        w-same = λ i s li ls. ap (λ g. g i s) u.w-same ∙ S.w-same i s li ls ∙ sym (ap (λ g. g i s) v.w-same);
        slack-same = λ s k ls lk. ap (λ g. g s k) u.slack-same ∙ S.slack-same s k ls lk ∙ sym (ap (λ g. g s k) v.slack-same);
        left-same = λ i li. ap (λ g. g i) u.left-same ∙ S.left-same i li ∙ sym (ap (λ g. g i) v.left-same);
        h-same = λ i li.
            elim (ℕ_discrete i j) [
              | yes z ↦ rw z (omega (arith, u.up, v.up, S.h-same j (omega arith)))
              | no z ↦ u.else i z ∙ S.h-same i li ∙ sym (v.else i z)
            ];
      }

  rest-push : (j : ℕ) → j < o.n → (e y' : Fill) → DischargeEnd o j x e → PushTurn p m j y y' → ⊥
  rest-push j lj e y' (nothing_left a u) G = omega (arith, G.some, S.left-same j (omega arith))
  rest-push j lj e y' (rises a r u) G =
      able-barred o x j G.i G.s 0 (omega arith) (able-back j G.i G.s G.found.0) r

module _ (m : ℕ) (o p : Flow) (A : Agree m o p) where
  discharge-same : (j : ℕ) → j < o.n → (x x' y y' : Fill) → Same o m x y → DischargeRun o m j x x' → DischargeRun p m j y y' →
      Same o m x' y'
  discharge-same j lj x x' y y' S P R =
      (run-same Fill Fill (PushTurn o m j) (PushTurn p m j) (DischargeEnd o j) (DischargeEnd p j) (Same o m) (Same o m)
      (λ a b c d T. push-same m o p A a c T j b d) (λ a c e f T. rest-same m o p A a c T j lj e f)
      (λ a c d e T. rest-push m o p A a c T j lj e d)
      (λ a b c f T g e.
      rest-push m p o (agree-sym m o p A) c a (same-sym m o p A a c T) j (omega (arith, A.n-same)) f b e g)
      x P.0 y R.0 x' y' S P.1 R.1).1

  turn-same : (x x' y y' : Fill) → Same o m x y → FillTurn o m x x' → FillTurn p m y y' → Same o m x' y'
  turn-same x x' y y' S T U =
      let e : U.j ≡ T.j = sym (picked_same m o p A x y S T.j U.j T.picked U.picked) in
      discharge-same T.j T.picked.job x x' y y' S T.discharged (subst (λ v. DischargeRun p m v y y') e U.discharged)

  end_same : (x y : Fill) (r t : Bool) → Same o m x y → FillEnd o x r → FillEnd p y t → r ≡ t
  end_same x y r t S (all_placed a u) (all_placed b v) = u ∙ sym v
  end_same x y r t S (all_placed a u) (too-high k b h v) = absurd (placed-picked m o p A x y S k a b)
  end_same x y r t S (all_placed a u) (gap_below k b h g v) = absurd (placed-picked m o p A x y S k a b)
  end_same x y r t S (too-high j a h u) (all_placed b v) =
      absurd (placed-picked m p o (agree-sym m o p A) y x (same-sym m o p A x y S) j b a)
  end_same x y r t S (gap_below j a h g u) (all_placed b v) =
      absurd (placed-picked m p o (agree-sym m o p A) y x (same-sym m o p A x y S) j b a)
  end_same x y r t S (too-high j a h u) (too-high k b f v) = u ∙ sym v
  end_same x y r t S (too-high j a h u) (gap_below k b f g v) = u ∙ sym v
  end_same x y r t S (gap_below j a h g u) (too-high k b f v) = u ∙ sym v
  end_same x y r t S (gap_below j a h g u) (gap_below k b f c v) = u ∙ sym v

  end-turn : (x y y' : Fill) (r : Bool) → Same o m x y → FillEnd o x r → FillTurn p m y y' → ⊥
  end-turn x y y' r S (all_placed a u) T = placed-picked m o p A x y S T.j a T.picked
  end-turn x y y' r S (too-high j a h u) T =
      let l = a.job in
      let e : j ≡ T.j = picked_same m o p A x y S j T.j a T.picked in
      omega (arith, T.low, A.n-same, S.h-same j (omega arith), ap y.h e)
  end-turn x y y' r S (gap_below j a h g u) T =
      let l = a.job in
      let e : j ≡ T.j = picked_same m o p A x y S j T.j a T.picked in
      let z : x.h j ≡ y.h T.j = S.h-same j (omega arith) ∙ ap y.h e in
      let b = T.held (omega arith) in
      let lb : b.0 < o.n = omega (arith, b.1, A.n-same) in
      g b.0 lb (omega (arith, S.h-same b.0 (omega arith), b.2))

fill-same : (m : ℕ) (o p : Flow) → Agree m o p → (x x' y y' : Fill) (r t : Bool) → Same o m x y →
    FillRun o m x x' r → FillRun p m y y' t → Same o m x' y' × (r ≡ t)
fill-same m o p A x x' y y' r t S P R =
    run-same Fill Bool (FillTurn o m) (FillTurn p m) (FillEnd o) (FillEnd p) (Same o m) (λ a b. a ≡ b)
    (turn-same m o p A) (end_same m o p A) (end-turn m o p A)
    (λ a b c f T g e. end-turn m p o (agree-sym m o p A) c a b f (same-sym m o p A a c T) e g)
    x x' y y' r t S P R

begun-same : (m : ℕ) (o p : Flow) → 0 < m → o.n ≡ p.n → o.q ≡ p.q → ((j : ℕ) → j < o.n → o.time j ≡ p.time j) →
    ((s k : ℕ) → s < o.q → k < m → o.room s k ≡ p.room s k) → (x y : Fill) → Begun o m x → Begun p m y → Same o m x y
begun-same m o p pos en eq times rooms x y X Y =
    record {
      w-same = λ j s lj ls.
          elim (ℕ_discrete j o.n) [
            | yes e ↦
                ap (λ v. x.w v s) e ∙ X.all-idle s ls ∙ rooms s (m - 1) ls (omega arith)
                ∙ sym (Y.all-idle s (omega arith)) ∙ ap (λ v. y.w v s) (sym en ∙ sym e)
            | no e ↦ X.no-amount j s (omega arith) ls ∙ sym (Y.no-amount j s (omega arith) (omega arith))
          ];
      slack-same = λ s k ls lk. X.all-slack s k ls lk ∙ rooms s k ls lk ∙ sym (Y.all-slack s k (omega arith) lk);
      left-same = λ j lj.
          elim (ℕ_discrete j o.n) [
            | yes e ↦ ap x.left e ∙ X.none_left ∙ sym Y.none_left ∙ ap y.left (sym en ∙ sym e)
            | no e ↦ X.all_left j (omega arith) ∙ times j (omega arith) ∙ sym (Y.all_left j (omega arith))
          ];
      h-same = λ j lj.
          elim (ℕ_discrete j o.n) [
            | yes e ↦ ap x.h e ∙ X.grounded ∙ sym Y.grounded ∙ ap y.h (sym en ∙ sym e)
            | no e ↦ X.one j (omega arith) ∙ sym (Y.one j (omega arith))
          ];
    }

-- the answer and the amounts of a flow are determined
module _ (o : Flow) (m : ℕ) (a b : ℕ → ℕ → ℕ) (r t : Bool) (P : RunOf o m a r) (R : RunOf o m b t) where
  agree : Agree m P.flow R.flow
  agree =
      let u = P.same in
      let v = R.same in
      record {
        n-same = u.n-same ∙ sym v.n-same;
        q-same = u.q-same ∙ sym v.q-same;
        class_same = λ j l.
            elim (ℕ_discrete j P.flow.n) [
              | yes e ↦
                  ap P.flow.class e ∙ P.class-idle ∙ sym R.class-idle
                  ∙ ap R.flow.class (v.n-same ∙ sym u.n-same ∙ sym e)
              | no e ↦ u.class_same j (omega (arith, u.n-same)) ∙ sym (v.class_same j (omega (arith, u.n-same)))
            ];
        class-high = λ j l.
            elim (ℕ_discrete j P.flow.n) [
              | yes e ↦ omega (arith, ap P.flow.class e, P.class-idle)
              | no e ↦ P.class-high j (omega arith)
            ];
        cap-same = λ j s l c.
            let lj : j < o.n = omega (arith, u.n-same) in
            let ls : s < o.q = omega (arith, u.q-same) in
            u.cap-same j s lj ls ∙ sym (v.cap-same j s lj ls);
      }

  ended : Same P.flow m P.end R.end × (r ≡ t)
  ended =
      let u = P.same in
      let v = R.same in
      fill-same m P.flow R.flow agree P.start P.end R.start R.end r t
      (begun-same m P.flow R.flow P.classes agree.n-same agree.q-same
      (λ j l. u.time-same j (omega (arith, u.n-same)) ∙ sym (v.time-same j (omega (arith, u.n-same))))
      (λ s k l c. u.room-same s k (omega (arith, u.q-same)) c ∙ sym (v.room-same s k (omega (arith, u.q-same)) c))
      P.start R.start P.begun R.begun)
      P.run R.run

  pub run-one : (r ≡ t) × ((j s : ℕ) → j < o.n → s < o.q → a j s ≡ b j s)
  run-one = (
    ended.1,
    λ j s l c.
        P.amounts j s l c ∙ ended.0.w-same j s (omega (arith, P.same.n-same)) (omega (arith, P.same.q-same))
        ∙ sym (R.amounts j s l c),
  )

-- flows agree both ways
pub flow-turned : (m : ℕ) (o p : Flow) → SameFlow m o p → SameFlow m p o
flow-turned m o p S =
    record {
      n-same = sym S.n-same;
      q-same = sym S.q-same;
      time-same = λ j l. sym (S.time-same j (omega (arith, S.n-same)));
      class_same = λ j l. sym (S.class_same j (omega (arith, S.n-same)));
      cap-same = λ j s l b. sym (S.cap-same j s (omega (arith, S.n-same)) (omega (arith, S.q-same)));
      room-same = λ s k b l. sym (S.room-same s k (omega (arith, S.q-same)) l);
    }

-- a flow that agrees has the same run
pub run-carried : (m : ℕ) (o p : Flow) (a : ℕ → ℕ → ℕ) (r : Bool) → SameFlow m o p → RunOf o m a r → RunOf p m a r
run-carried m o p a r S R =
    let u = R.same in
    record {
      flow = R.flow;
      same =
          record {
            n-same = u.n-same ∙ S.n-same;
            q-same = u.q-same ∙ S.q-same;
            time-same = λ j l. u.time-same j (omega (arith, S.n-same)) ∙ S.time-same j l;
            class_same = λ j l. u.class_same j (omega (arith, S.n-same)) ∙ S.class_same j l;
            cap-same = λ j s l c. u.cap-same j s (omega (arith, S.n-same)) (omega (arith, S.q-same)) ∙ S.cap-same j s l c;
            room-same = λ s k l c. u.room-same s k (omega (arith, S.q-same)) c ∙ S.room-same s k l c;
          };
      classes = R.classes;
      class-high = R.class-high;
      class-idle = R.class-idle;
      start = R.start;
      end = R.end;
      begun = R.begun;
      run = R.run;
      amounts = λ j s l c. R.amounts j s (omega (arith, S.n-same)) (omega (arith, S.q-same));
    }
