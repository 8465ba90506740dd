-- The stores of a step, seen as a move, and the engine's loops as a run.
use Prim.Native.Nat.{ℕ, suc, ◌+◌, ◌-◌, ◌*◌, ◌^◌, ◌≤◌, ◌<◌, min}
use mathlib.Core.Path.{◌≡◌, refl, sym, ap, ◌∙◌}
use mathlib.Core.Logic.{◌≢◌}
use mathlib.Core.List.{List}
use mathlib.Core.Bool.{Bool, true, false}
use lib.ListN.{length, get_or, set, length-set}
use lib.Seq.{get_or-set_same, get_or-set_other}
use native.Mathlib.Numerals.{add-one}
use native.Mathlib.Decide.{dec_lt}
use native.Mathlib.Omega.{arith}
use borrow.Rule.Slice.PartMut.{put_mid}
use Rattle.std.specs.List.{between}
use Rattle.std.proofs.lemmas.List.Edits.{get_or-between, length-between}
use Rattle.engine.proofs.Laws.{part-before, part-inside, part-after}
use Rattle.sums.specs.Sum.{sum-ge}
use Rattle.sums.specs.Gate.{gate, gate-in, gate-out}
use Rattle.amounts.specs.Flow.{Flow}
use Rattle.amounts.specs.State.{Fill, State, Able, Barred, Moved, measure, class-top}
use Rattle.amounts.specs.Start.{Begun, start-state}
use Rattle.amounts.specs.Relabel.{rise-state, rise-less}
use Rattle.amounts.specs.Push.{push-state, push-less, push-barred}
use Rattle.engine.specs.Start.{Given, IdleRow, room_at, start-order, start-idle}
use Rattle.engine.specs.Run.{Turns, Displaced, PushTurn, DischargeRun, FillTurn, too-high, gap_below, FillRun, RunOf}
use Rattle.engine.specs.RunLaws.{turns_more}
use Rattle.engine.specs.View.{grid, row, flow_of, fill_of, Sizes, Transferred, Lowered, Raised, Shifted, Amount, Picked, Advanced, Pushed, Stands, Ready, PushAt, in_rows, row-end, other_row, other-column}

-- the slacks at base, with those between two classes lowered or raised
module _ (xs ys : List ℕ) (base c e d : ℕ) where
  pub shifted-lowered : c ≤ e → base + e ≤ length xs → length ys ≡ base + e - (base + c) →
      Lowered (between (base + c) (base + e) xs) ys d → Shifted xs (put_mid (base + c) (base + e - (base + c)) xs ys) base c e d
  shifted-lowered ce long same L =
      let k : ℕ = base + e - (base + c) in
      let zs = put_mid (base + c) k xs ys in
      let room : base + c + k ≤ length xs = omega arith in
      record {
        before = λ i l. part-before (base + c) k xs ys room same i (omega arith);
        here = λ i.
            elim (dec_lt i c) [
              | yes u ↦ omega (arith, part-before (base + c) k xs ys room same (base + i) (omega arith), gate-out c (suc i) d u, gate-out e (suc i) d (omega arith))
              | no u ↦
                  elim (dec_lt i e) [
                    | yes v ↦
                        let z : base + c + (i - c) ≡ base + i = omega arith in
                        omega (
                          arith,
                          ap (λ (t : ℕ). get_or zs t 0) z,
                          ap (λ (t : ℕ). get_or xs t 0) z,
                          part-inside (base + c) k xs ys room same (i - c) (omega arith),
                          get_or-between xs (base + c) (base + e) (i - c) 0 (omega arith),
                          L.each (i - c) (omega (arith, length-between xs (base + c) (base + e) long)),
                          gate-in c (suc i) d (omega arith),
                          gate-out e (suc i) d v,
                        )
                    | no v ↦
                        omega (arith, part-after (base + c) k xs ys room same (base + i) (omega arith), gate-in c (suc i) d (omega arith), gate-in e (suc i) d (omega arith))
                  ]
            ];
      }

  pub shifted-raised : e ≤ c → base + c ≤ length xs → length ys ≡ base + c - (base + e) →
      Raised (between (base + e) (base + c) xs) ys d → Shifted xs (put_mid (base + e) (base + c - (base + e)) xs ys) base c e d
  shifted-raised ec long same L =
      let k : ℕ = base + c - (base + e) in
      let zs = put_mid (base + e) k xs ys in
      let room : base + e + k ≤ length xs = omega arith in
      record {
        before = λ i l. part-before (base + e) k xs ys room same i (omega arith);
        here = λ i.
            elim (dec_lt i e) [
              | yes u ↦ omega (arith, part-before (base + e) k xs ys room same (base + i) (omega arith), gate-out e (suc i) d u, gate-out c (suc i) d (omega arith))
              | no u ↦
                  elim (dec_lt i c) [
                    | yes v ↦
                        let z : base + e + (i - e) ≡ base + i = omega arith in
                        omega (
                          arith,
                          ap (λ (t : ℕ). get_or zs t 0) z,
                          ap (λ (t : ℕ). get_or xs t 0) z,
                          part-inside (base + e) k xs ys room same (i - e) (omega arith),
                          get_or-between xs (base + e) (base + c) (i - e) 0 (omega arith),
                          L.each (i - e) (omega (arith, length-between xs (base + e) (base + c) long)),
                          gate-in e (suc i) d (omega arith),
                          gate-out c (suc i) d v,
                        )
                    | no v ↦
                        omega (arith, part-after (base + e) k xs ys room same (base + i) (omega arith), gate-in e (suc i) d (omega arith), gate-in c (suc i) d (omega arith))
                  ]
            ];
      }

-- the slacks of other stretches are as before
pub shifted-else : (m : ℕ) (xs ys : List ℕ) (s c e d : ℕ) → c ≤ m → e ≤ m → Shifted xs ys (s * m) c e d →
    (b k : ℕ) → b ≢ s → k < m → grid m ys b k ≡ grid m xs b k
shifted-else m xs ys s c e d cm em S b k ne km =
    elim (dec_lt b s) [
      | yes u ↦ S.before (b * m + k) (omega (arith, row-end b m s u))
      | no u ↦
          let r : s * m + m ≤ b * m = row-end s m b (omega arith) in
          let t : ℕ = b * m + k - s * m in
          let z : s * m + t ≡ b * m + k = omega arith in
          omega (
            arith,
            S.here t,
            gate-in c (suc t) d (omega arith),
            gate-in e (suc t) d (omega arith),
            ap (λ v. get_or ys v 0) z,
            ap (λ v. get_or xs v 0) z,
          )
    ]

pub moved : (n q m : ℕ) (time class cap room w w' slack slack' left left' h : List ℕ) (j i s d : ℕ) → s < q → j ≢ i →
    Transferred w w' (j * q + s) (i * q + s) d → Transferred left left' i j d → row class j ≤ m → row class i ≤ m →
    Shifted slack slack' (s * m) (row class j) (row class i) d →
    Moved (flow_of n q m time class cap room) m (fill_of q m w slack left h) (fill_of q m w' slack' left' h) j i s d
moved n q m time class cap room w w' slack slack' left left' h j i s d sq ne W L cj ci S =
    record {
      w-up = W.more;
      w-down = W.less;
      w-row = λ a b lb nb. W.other (a * q + b) (other-column a b j s q lb sq nb) (other-column a b i s q lb sq nb);
      w-col = λ a nj ni. W.other (a * q + s) (other_row a j q s (omega arith) nj) (other_row a i q s (omega arith) ni);
      left_down = L.less;
      left_up = L.more;
      left-else = λ a nj ni. L.other a ni nj;
      slack-at = λ k km. S.here k;
      slack-else = λ b k lb nb km. shifted-else m slack slack' s (row class j) (row class i) d cj ci S b k nb km;
      h-same = λ a. refl;
    }

-- what is displaced fits: in the rest of job i, and in the slacks from its class on
module _ (o : Flow) (m : ℕ) (x : Fill) (S : State o m x) (i s d : ℕ) (li : i ≤ o.n) (ls : s < o.q) (fit : d ≤ x.w i s) where
  pub rest-fits : x.left i + d ≤ o.time i
  rest-fits = omega (arith, S.rows i li, sum-ge o.q s (x.w i) ls)

  pub slack-fits : (k : ℕ) → o.class i ≤ k → k < m → x.slack s k + d ≤ o.room s k
  slack-fits k lo hi =
      omega (
        arith,
        S.rooms s k ls hi,
        sum-ge (suc o.n) i (λ a. gate (o.class a) (suc k) (x.w a s)) (omega arith),
        gate-in (o.class i) (suc k) (x.w i s) (omega arith),
      )

-- where a push reads and writes
pub record Places (n q m : ℕ) (class cap w slack left : List ℕ) (j i s : ℕ) : Type 0 where
  pub up-cap : j * q + s < length cap
  pub up-w : j * q + s < length w
  pub down-w : i * q + s < length w
  pub from-slack : s * m + row class j ≤ length slack
  pub to-slack : s * m + row class i ≤ length slack
  pub j-left : j < length left
  pub i-left : i < length left
  pub apart : j * q + s ≢ i * q + s
  pub differ : i ≢ j
  pub under : get_or w (j * q + s) 0 ≤ get_or cap (j * q + s) 0

module _ (n q m : ℕ) (time class cap room w slack left h : List ℕ) (R : Ready n q m time class cap room w slack left h)
    (j i s : ℕ) (A : Able (flow_of n q m time class cap room) (fill_of q m w slack left h) j i s) where
  pub places : Places n q m class cap w slack left j i s
  places =
      let cell : j * q + s < n * q = in_rows j q s n A.j-job A.s-any in
      let Z = R.sizes in
      let ne : i ≢ j = λ e. omega (arith, A.lower, ap (row h) e) in
      record {
        up-cap = omega (arith, Z.s-cap);
        up-w = omega (arith, Z.s-w);
        down-w = omega (arith, Z.s-w, in_rows i q s (suc n) (omega (arith, A.i-any)) A.s-any);
        from-slack = omega (arith, Z.s-slack, row-end s m q A.s-any, class-top _ _ R.order j (omega (arith, A.j-job)));
        to-slack = omega (arith, Z.s-slack, row-end s m q A.s-any, class-top _ _ R.order i A.i-any);
        j-left = omega (arith, Z.s-left, A.j-job);
        i-left = omega (arith, Z.s-left, A.i-any);
        apart = other_row j i q s (omega (arith, A.s-any)) (λ e. ne (sym e));
        differ = ne;
        under = omega (arith, A.spare);
      }

  module _ (d first : ℕ) (is-first : first ≡ min (row class j) (row class i))
      (D : Amount cap w left (between (s * m + first) (s * m + row class i) slack) j (j * q + s) (i * q + s) d) where
    pub left-fits : get_or left i 0 + d < 2 ^ 32
    left-fits = omega (arith, R.small-times i, rest-fits _ m _ R.state i s d A.i-any A.s-any D.w_fits)

    pub raise-fits : (k : ℕ) → s * m + row class i ≤ k → k < s * m + row class j → get_or slack k 0 + d < 2 ^ 32
    raise-fits k lo hi =
        let t : ℕ = k - s * m in
        let z : s * m + t ≡ k = omega arith in
        omega (
          arith,
          R.small-rooms (s * m + min t (m - 1)),
          ap (λ v. get_or slack v 0) z,
          slack-fits _ m _ R.state i s d A.i-any A.s-any D.w_fits t (omega arith)
              (omega (arith, class-top _ _ R.order j (omega (arith, A.j-job)))),
        )

    -- the slacks between the two classes
    abbrev lent : List ℕ
    lent = between (s * m + first) (s * m + row class i) slack

    lent-length : length lent ≡ s * m + row class i - (s * m + first)
    lent-length = length-between slack (s * m + first) (s * m + row class i) places.to-slack

    lent-fits : (k : ℕ) → row class j ≤ k → k < row class i → d ≤ grid m slack s k
    lent-fits k lo hi =
        let z : s * m + first + (k - row class j) ≡ s * m + k = omega (arith, is-first) in
        omega (
          arith,
          ap (λ (v : ℕ). get_or slack v 0) z,
          get_or-between slack (s * m + first) (s * m + row class i) (k - row class j) 0 (omega (arith, is-first)),
          D.slack-fits (k - row class j) (omega (arith, is-first, lent-length)),
        )

    pub lower-fits : (k : ℕ) → s * m + row class j ≤ k → k < s * m + row class i → d ≤ get_or slack k 0
    lower-fits k lo hi =
        let z : s * m + (k - s * m) ≡ k = omega arith in
        omega (arith, ap (λ (v : ℕ). get_or slack v 0) z, lent-fits (k - s * m) (omega arith) (omega arith))

    flat : (v : ℕ) → ((k : ℕ) → row class j ≤ k → k < row class i → v ≤ grid m slack s k) →
        (k : ℕ) → k < length lent → v ≤ get_or lent k 0
    flat v f k l =
        let z : s * m + first + k ≡ s * m + (row class j + k) = omega (arith, is-first, lent-length) in
        omega (
          arith,
          ap (λ (u : ℕ). get_or slack u 0) z,
          get_or-between slack (s * m + first) (s * m + row class i) k 0 (omega (arith, is-first, lent-length)),
          f (row class j + k) (omega arith) (omega (arith, is-first, lent-length)),
        )

    module _ (w' slack' left' : List ℕ) (W : Transferred w w' (j * q + s) (i * q + s) d) (L : Transferred left left' i j d)
        (S : Shifted slack slack' (s * m) (row class j) (row class i) d) where
      pushed-moved : Moved (flow_of n q m time class cap room) m (fill_of q m w slack left h) (fill_of q m w' slack' left' h) j i s d
      pushed-moved =
          moved n q m time class cap room w w' slack slack' left left' h j i s d A.s-any (λ e. places.differ (sym e)) W L
          (class-top _ _ R.order j (omega (arith, A.j-job))) (class-top _ _ R.order i A.i-any) S

      pub pushed : 0 < get_or left j 0 →
          Pushed (flow_of n q m time class cap room) m (fill_of q m w slack left h) (fill_of q m w' slack' left' h) j s
      pushed some =
          let pos : 0 < d = D.greatest 1 some (omega (arith, A.spare)) A.some (flat 1 A.free) in
          record {
            advanced =
                record {
                  state = push-state _ m _ _ j i s d R.order R.state A pushed-moved D.cap-fits;
                  less = push-less _ m _ _ j i s d R.order R.state A pushed-moved (2 ^ 32) pos;
                };
            barred = push-barred _ m _ _ j i s d R.order R.state A pushed-moved;
          }

      pub displaced : Displaced (flow_of n q m time class cap room) m (fill_of q m w slack left h) (fill_of q m w' slack' left' h) j i s
      displaced =
          record {
            d = d;
            most =
                record {
                  left-fits = D.left-fits;
                  cap-fits = D.cap-fits;
                  w_fits = D.w_fits;
                  slack-fits = lent-fits;
                  greatest = λ v a b c f. D.greatest v a b c (flat v f);
                };
            moved = pushed-moved;
          }

-- the store of a rise
pub rose : (n q m : ℕ) (time class cap room w slack left h : List ℕ) → Ready n q m time class cap room w slack left h →
    (j : ℕ) → j < n → get_or h j 0 ≤ n → get_or left j 0 < 2 ^ 32 → Barred (flow_of n q m time class cap room) (fill_of q m w slack left h) j 0 →
    Advanced (flow_of n q m time class cap room) m (fill_of q m w slack left h) (fill_of q m w slack left (set h j (get_or h j 0 + 1)))
rose n q m time class cap room w slack left h R j lj low small B =
    let up : get_or (set h j (get_or h j 0 + 1)) j 0 ≡ suc (get_or h j 0)
    = get_or-set_same h j (get_or h j 0 + 1) 0 (omega (arith, R.sizes.s-h)) ∙ add-one (get_or h j 0) in
    let else : (a : ℕ) → a ≢ j → get_or (set h j (get_or h j 0 + 1)) a 0 ≡ get_or h a 0 = λ a ne. get_or-set_other h j a (get_or h j 0 + 1) 0 ne in
    record {
      state =
          rise-state (flow_of n q m time class cap room) m (fill_of q m w slack left h) (row (set h j (get_or h j 0 + 1))) j R.state lj low
          up else (record { none = B.none });
      less =
          rise-less (flow_of n q m time class cap room) m (fill_of q m w slack left h) (row (set h j (get_or h j 0 + 1))) j R.state lj low
          up else (2 ^ 32) small;
    }

-- lists as long as before, and the state
pub ready-next : (n q m : ℕ) (time class cap room w slack left h w' slack' left' h' : List ℕ) →
    Ready n q m time class cap room w slack left h →
    length w' ≡ length w → length slack' ≡ length slack → length left' ≡ length left → length h' ≡ length h →
    State (flow_of n q m time class cap room) m (fill_of q m w' slack' left' h') → Ready n q m time class cap room w' slack' left' h'
ready-next n q m time class cap room w slack left h w' slack' left' h' R ew es el eh S =
    let Z = R.sizes in
    record {
      sizes =
          record {
            s-time = Z.s-time;
            s-class = Z.s-class;
            s-cap = Z.s-cap;
            s-room = Z.s-room;
            s-w = omega (arith, Z.s-w);
            s-slack = omega (arith, Z.s-slack);
            s-left = omega (arith, Z.s-left);
            s-h = omega (arith, Z.s-h);
          };
      order = R.order;
      state = S;
      small-times = R.small-times;
      small-caps = R.small-caps;
      small-rooms = R.small-rooms;
    }

-- a discharge of job j under way: from the lists at its start to those of now, with the stretches from u on barred
pub record Going (n q m : ℕ) (time class cap room w₀ slack₀ left₀ h₀ w slack left h : List ℕ) (j u : ℕ) : Type 0 where
  pub ready : Ready n q m time class cap room w slack left h
  pub low : get_or h j 0 ≤ n
  pub within : u ≤ q
  pub barred : Barred (flow_of n q m time class cap room) (fill_of q m w slack left h) j u
  pub most : measure (2 ^ 32) n (fill_of q m w slack left h) ≤ measure (2 ^ 32) n (fill_of q m w₀ slack₀ left₀ h₀)
  pub less : get_or left j 0 ≡ 0 →
      measure (2 ^ 32) n (fill_of q m w slack left h) < measure (2 ^ 32) n (fill_of q m w₀ slack₀ left₀ h₀)
  pub turns : ℕ
  pub path : Turns Fill (PushTurn (flow_of n q m time class cap room) m j) turns
      (fill_of q m w₀ slack₀ left₀ h₀) (fill_of q m w slack left h)

module _ (n q m : ℕ) (time class cap room w₀ slack₀ left₀ h₀ : List ℕ) (j : ℕ) where
  module _ (w slack left h : List ℕ) (u : ℕ) (G : Going n q m time class cap room w₀ slack₀ left₀ h₀ w slack left h j u) where
    pub going-push : (s i : ℕ) (w' slack' left' h' : List ℕ) → 0 < get_or left j 0 →
        PushAt (flow_of n q m time class cap room) (fill_of q m w slack left h) j s i →
        Pushed (flow_of n q m time class cap room) m (fill_of q m w slack left h) (fill_of q m w' slack' left' h') j s →
        Ready n q m time class cap room w' slack' left' h' →
        Displaced (flow_of n q m time class cap room) m (fill_of q m w slack left h) (fill_of q m w' slack' left' h') j i s →
        Going n q m time class cap room w₀ slack₀ left₀ h₀ w' slack' left' h' j (s + 1)
    going-push s i w' slack' left' h' some F P R D =
        let sq : s < q = F.0.s-any in
        let N : Barred (flow_of n q m time class cap room) (fill_of q m w' slack' left' h') j (suc s)
        = P.barred (suc s) (omega arith) (record { none = F.1.none }) in
        record {
          ready = R;
          low = omega (arith, G.low, D.moved.h-same j);
          within = omega arith;
          barred = record { none = λ i t li lo hi. N.none i t li (omega arith) hi };
          most = omega (arith, G.most, P.advanced.less);
          less = λ e. omega (arith, G.most, P.advanced.less);
          turns = suc G.turns;
          path =
              turns_more Fill (PushTurn (flow_of n q m time class cap room) m j) G.turns _ _ _ G.path
              (record { s = s; i = i; some = some; found = F; displaced = D });
        }

    pub going-rise : j < n → Barred (flow_of n q m time class cap room) (fill_of q m w slack left h) j 0 →
        Advanced (flow_of n q m time class cap room) m (fill_of q m w₀ slack₀ left₀ h₀)
        (fill_of q m w slack left (set h j (get_or h j 0 + 1)))
    going-rise lj B =
        let small : get_or left j 0 < 2 ^ 32 = omega (arith, G.ready.small-times j, G.ready.state.rows j (omega arith)) in
        let A = rose n q m time class cap room w slack left h G.ready j lj G.low small B in
        record { state = A.state; less = omega (arith, A.less, G.most) }

    pub ready-rise : j < n → Barred (flow_of n q m time class cap room) (fill_of q m w slack left h) j 0 →
        Ready n q m time class cap room w slack left (set h j (get_or h j 0 + 1))
    ready-rise lj B =
        ready-next _ _ _ _ _ _ _ _ _ _ _ _ _ _ _ G.ready refl refl refl (length-set h j (get_or h j 0 + 1))
        (going-rise lj B).state

-- how a filling goes on and ends, as a run
module _ (n q m : ℕ) (time class cap room w slack left h : List ℕ) (x : Fill) (k : ℕ)
    (path : Turns Fill (FillTurn (flow_of n q m time class cap room) m) k x (fill_of q m w slack left h)) where
  module _ (j : ℕ) (P : Picked (row left) n j) where
    pub run-high : n < get_or h j 0 → FillRun (flow_of n q m time class cap room) m x (fill_of q m w slack left h) false
    run-high s = record { turns = k; path = path; ends = too-high j P s refl }

    pub run-gap : 1 < get_or h j 0 → Stands (row h) n (get_or h j 0 - 1) false →
        FillRun (flow_of n q m time class cap room) m x (fill_of q m w slack left h) false
    run-gap s S = record { turns = k; path = path; ends = gap_below j P s S refl }

    pub run-turn : (y : Fill) → get_or h j 0 ≤ n → (1 < get_or h j 0 → Stands (row h) n (get_or h j 0 - 1) true) →
        DischargeRun (flow_of n q m time class cap room) m j (fill_of q m w slack left h) y →
        Turns Fill (FillTurn (flow_of n q m time class cap room) m) (suc k) x y
    run-turn y low held D =
        turns_more Fill (FillTurn (flow_of n q m time class cap room) m) k _ _ _ path
        (record { j = j; picked = P; low = low; held = held; discharged = D })

-- the stores of the start, and the whole run
module _ (n q m : ℕ) (time class cap room w slack left h w1 w2 slack' left' h' : List ℕ)
    (Z : Sizes n q m time class cap room w slack left h) (G : Given n q m time class room)
    (F : (k : ℕ) → k < n * q → get_or w1 k 0 ≡ 0) (I : IdleRow room w1 w2 n q m q)
    (C : (k : ℕ) → k < q * m → get_or slack' k 0 ≡ get_or room k 0)
    (D : (k : ℕ) → k < n → get_or left' k 0 ≡ get_or time k 0) (L : (k : ℕ) → k < n → get_or h' k 0 ≡ 1)
    (same_left : length left' ≡ length left) (same-h : length h' ≡ length h) where
  begun : Begun (flow_of n q m time class cap room) m (fill_of q m w2 slack' (set left' n 0) (set h' n 0))
  begun =
      record {
        no-amount = λ j s lj ls. I.below (j * q + s) (in_rows j q s n lj ls) ∙ F (j * q + s) (in_rows j q s n lj ls);
        all-idle = λ s ls. I.idle s ls ∙ sym (room_at n q m time class cap room G s (m - 1) (omega (arith, G.classes)));
        all-slack = λ s k ls lk. C (s * m + k) (in_rows s m k q ls lk) ∙ sym (room_at n q m time class cap room G s k lk);
        all_left = λ j lj. get_or-set_other left' n j 0 0 (λ e. omega (arith, e)) ∙ D j lj;
        none_left = get_or-set_same left' n 0 0 (omega (arith, Z.s-left));
        one = λ j lj. get_or-set_other h' n j 0 0 (λ e. omega (arith, e)) ∙ L j lj;
        grounded = get_or-set_same h' n 0 0 (omega (arith, Z.s-h));
      }

  pub begin : length w1 ≡ length w → length w2 ≡ length w1 → length slack' ≡ length slack →
      ((k : ℕ) → get_or time k 0 < 2 ^ 32) → ((k : ℕ) → get_or cap k 0 < 2 ^ 32) → ((k : ℕ) → get_or room k 0 < 2 ^ 32) →
      Ready n q m time class cap room w2 slack' (set left' n 0) (set h' n 0)
  begin e1 e2 e3 times caps rooms =
      let left-length : length (set left' n 0) ≡ length left' = length-set left' n 0 in
      let h-length : length (set h' n 0) ≡ length h' = length-set h' n 0 in
      record {
        sizes =
            record {
              s-time = Z.s-time;
              s-class = Z.s-class;
              s-cap = Z.s-cap;
              s-room = Z.s-room;
              s-w = omega (arith, Z.s-w);
              s-slack = omega (arith, Z.s-slack);
              s-left = omega (arith, Z.s-left);
              s-h = omega (arith, Z.s-h);
            };
        order = start-order n q m time class cap room G;
        state = start-state _ m _ (start-order n q m time class cap room G) begun (start-idle n q m time class cap room G);
        small-times = times;
        small-caps = caps;
        small-rooms = rooms;
      }

  pub solved : (y : Fill) (r : Bool) →
      FillRun (flow_of n q m time class cap room) m (fill_of q m w2 slack' (set left' n 0) (set h' n 0)) y r →
      RunOf (flow_of n q m time class cap room) m y.w r
  solved y r R =
      record {
        flow = flow_of n q m time class cap room;
        same =
            record {
              n-same = refl;
              q-same = refl;
              time-same = λ j l. refl;
              class_same = λ j l. refl;
              cap-same = λ j s l b. refl;
              room-same = λ s k l b. refl;
            };
        classes = G.classes;
        class-high = λ j l. omega (arith, G.high j l);
        class-idle = G.idle-class;
        start = fill_of q m w2 slack' (set left' n 0) (set h' n 0);
        end = y;
        begun = begun;
        run = R;
        amounts = λ j s l b. refl;
      }
