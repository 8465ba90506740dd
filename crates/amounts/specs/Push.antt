-- A push, in which job j displaces d of job i in the stretch s: it keeps the state and lowers the measure.
-- It assumes that j may displace i (Able) and that d fits j's cap; the labels survive because free classes chain.
use Rattle.std.specs.Prelude.{◌≡◌, ◌≢◌, ℕ, suc, ◌+◌, ◌*◌, ◌≤◌, ◌<◌, min, max}
use Rattle.std.proofs.Common.{ap, sym, ◌∙◌, add-mul, mul-suc}
use Rattle.std.proofs.Math.Decide.{dec_lt, ℕ_discrete}
use native.Mathlib.Omega.{arith}
use Rattle.sums.specs.Sum.{sum, sum-cong, sum-at-below}
use Rattle.sums.specs.Gate.{gate, gate-in, gate-out, gate-add, sum-two}
use Rattle.amounts.specs.Flow.{Flow}
use Rattle.amounts.specs.Below.{Free}
use Rattle.amounts.specs.State.{
  Fill,
  Classed,
  class-top,
  held_all,
  State,
  weight,
  measure,
  Moved,
  Able,
  able-differ,
  Barred,
}

module _ (o : Flow) (m : ℕ) (x y : Fill) (j i s d : ℕ) (O : Classed o m) (S : State o m x) (A : Able o x j i s)
    (M : Moved o m x y j i s d) where
  push-caps : x.w j s + d ≤ o.cap j s → (a b : ℕ) → a < o.n → b < o.q → y.w a b ≤ o.cap a b
  push-caps fit a b la lb =
      elim (ℕ_discrete b s) [
        | no e ↦ omega (arith, M.w-row a b lb e, S.caps a b la lb)
        | yes e ↦ rw e (elim (ℕ_discrete a j) [
          | yes f ↦ rw f (omega (arith, M.w-up))
          | no f ↦
              elim (ℕ_discrete a i) [
                | yes g ↦
                    omega (
                      arith,
                      ap (λ z. y.w z s) g,
                      ap (λ z. x.w z s) g,
                      M.w-down,
                      S.caps a s la A.s-any,
                    )
                | no g ↦ omega (arith, M.w-col a f g, S.caps a s la A.s-any)
              ]
        ])
      ]

  push-held : (k : ℕ) →
      held_all o y.w s k + gate (o.class i) (suc k) d ≡ held_all o x.w s k + gate (o.class j) (suc k) d
  push-held k =
      omega (
        arith,
        sum-two (suc o.n) j i (λ a. gate (o.class a) (suc k) (y.w a s)) (λ a. gate (o.class a) (suc k) (x.w a s))
            (omega (arith, A.j-job)) (omega (arith, A.i-any)) (able-differ A)
            (λ a f g. ap (gate (o.class a) (suc k)) (M.w-col a f g)),
        ap (gate (o.class j) (suc k)) M.w-up,
        gate-add (o.class j) (suc k) (x.w j s) d,
        ap (gate (o.class i) (suc k)) M.w-down,
        gate-add (o.class i) (suc k) (y.w i s) d,
      )

  push-rooms : (b k : ℕ) → b < o.q → k < m → held_all o y.w b k + y.slack b k ≡ o.room b k
  push-rooms b k lb lk =
      elim (ℕ_discrete b s) [
        | yes e ↦ rw e (omega (arith, push-held k, M.slack-at k lk, S.rooms s k A.s-any lk))
        | no e ↦
            omega (
              arith,
              M.slack-else b k lb e lk,
              S.rooms b k lb lk,
              sum-cong (suc o.n) (λ a. gate (o.class a) (suc k) (y.w a b))
                  (λ a. gate (o.class a) (suc k) (x.w a b))
                  (λ a _. ap (gate (o.class a) (suc k)) (M.w-row a b lb e)),
            )
      ]

  push-idle : (b k : ℕ) → b < o.q → suc k ≡ m → y.w o.n b ≡ y.slack b k
  push-idle b k lb e =
      elim (ℕ_discrete b s) [
        | no ne ↦ omega (arith, M.w-row o.n b lb ne, M.slack-else b k lb ne (omega arith), S.idle b k lb e)
        | yes eq ↦ rw eq (elim (ℕ_discrete i o.n) [
          | yes z ↦
              omega (
                arith,
                ap (λ v. y.w v s) z,
                ap (λ v. x.w v s) z,
                M.w-down,
                M.slack-at k (omega arith),
                S.idle s k A.s-any e,
                gate-in (o.class j) (suc k) d (omega (arith, O.class-high j A.j-job)),
                gate-out (o.class i) (suc k) d (omega (arith, ap o.class z, O.class-idle)),
              )
          | no z ↦
              omega (
                arith,
                M.w-col o.n (λ v. omega (arith, A.j-job)) (λ v. z (sym v)),
                M.slack-at k (omega arith),
                S.idle s k A.s-any e,
                gate-in (o.class j) (suc k) d (omega (arith, O.class-high j A.j-job)),
                gate-in (o.class i) (suc k) d (omega (arith, O.class-high i (omega (arith, A.i-any)))),
              )
        ])
      ]

  -- a row's sum changes where its amount in s does
  row-sum : (a : ℕ) → sum o.q (y.w a) + x.w a s ≡ sum o.q (x.w a) + y.w a s
  row-sum a = sum-at-below o.q s (y.w a) (x.w a) A.s-any (M.w-row a)

  push-rows : (a : ℕ) → a ≤ o.n → sum o.q (y.w a) + y.left a ≡ o.time a
  push-rows a la =
      elim (ℕ_discrete a j) [
        | yes e ↦ rw e (omega (arith, S.rows j (omega (arith, A.j-job)), M.left_down, M.w-up, row-sum j))
        | no e ↦
            elim (ℕ_discrete a i) [
              | yes f ↦ rw f (omega (arith, S.rows i A.i-any, M.left_up, M.w-down, row-sum i))
              | no f ↦ omega (arith, S.rows a la, M.left-else a e f, M.w-col a e f, row-sum a)
            ]
      ]

  -- what has cap to spare after the push had it before, or is i; what has something had it, or is j
  spare-before : (a : ℕ) → a ≢ i → y.w a s < o.cap a s → x.w a s < o.cap a s
  spare-before a ne up =
      elim (ℕ_discrete a j) [ yes e ↦ rw e A.spare | no e ↦ omega (arith, M.w-col a e ne) ]

  some-before : (b : ℕ) → b ≢ j → 0 < y.w b s → 0 < x.w b s
  some-before b ne has = elim (ℕ_discrete b i) [ yes e ↦ rw e A.some | no e ↦ omega (arith, M.w-col b ne e) ]

  label-to-i : (a : ℕ) → a < o.n → y.w a s < o.cap a s → Free (x.slack s) (o.class a) (o.class i) →
      x.h a ≤ suc (x.h i)
  label-to-i a la up fr =
      elim (ℕ_discrete a i) [
        | yes e ↦ omega (arith, ap x.h e)
        | no e ↦ S.labels a i s la A.i-any A.s-any (spare-before a e up) A.some fr
      ]

  label-from-j : (b : ℕ) → b ≤ o.n → 0 < y.w b s → Free (x.slack s) (o.class j) (o.class b) →
      x.h j ≤ suc (x.h b)
  label-from-j b lb has fr =
      elim (ℕ_discrete b j) [
        | yes e ↦ omega (arith, ap x.h e)
        | no e ↦ S.labels j b s A.j-job lb A.s-any A.spare (some-before b e has) fr
      ]

  module _ (a b : ℕ) (la : a < o.n) (lb : b ≤ o.n) (up : y.w a s < o.cap a s) (has : 0 < y.w b s)
      (fr : Free (y.slack s) (o.class a) (o.class b)) where
    -- both classes lie below those of i and j, or both above: no slack changed between them
    label-apart : a ≢ i → b ≢ j → Free (x.slack s) (o.class a) (o.class b) → x.h a ≤ suc (x.h b)
    label-apart na nb f = S.labels a b s la lb A.s-any (spare-before a na up) (some-before b nb has) f

    push-label : x.h a ≤ suc (x.h b)
    push-label =
        elim (dec_lt (max (o.class a) (o.class b)) (min (o.class i) (o.class j))) [
          | yes l ↦
              label-apart (λ e. omega (arith, ap o.class e)) (λ e. omega (arith, ap o.class e))
              (λ k lo hi.
              omega (
                arith,
                fr k lo hi,
                class-top o m O b lb,
                M.slack-at k (omega (arith, class-top o m O b lb)),
                gate-out (o.class i) (suc k) d (omega arith),
                gate-out (o.class j) (suc k) d (omega arith),
              ))
          | no l ↦
              elim (dec_lt (max (o.class i) (o.class j)) (min (o.class a) (o.class b))) [
                | yes u ↦
                    label-apart (λ e. omega (arith, ap o.class e)) (λ e. omega (arith, ap o.class e))
                    (λ k lo hi.
                    omega (
                      arith,
                      fr k lo hi,
                      class-top o m O b lb,
                      M.slack-at k (omega (arith, class-top o m O b lb)),
                      gate-in (o.class i) (suc k) d (omega arith),
                      gate-in (o.class j) (suc k) d (omega arith),
                    ))
                | no u ↦
                    omega (
                      arith,
                      A.lower,
                      label-to-i a la up (λ k lo hi.
                          elim (dec_lt k (o.class j)) [
                            | no g ↦ A.free k (omega arith) hi
                            | yes g ↦
                                omega (
                                  arith,
                                  fr k lo (omega arith),
                                  M.slack-at k (omega (arith, class-top o m O i A.i-any)),
                                  gate-out (o.class i) (suc k) d (omega arith),
                                )
                          ]),
                      label-from-j b lb has (λ k lo hi.
                          elim (dec_lt k (o.class i)) [
                            | yes g ↦ A.free k lo g
                            | no g ↦
                                omega (
                                  arith,
                                  fr k (omega arith) hi,
                                  M.slack-at k (omega (arith, class-top o m O b lb)),
                                  gate-in (o.class i) (suc k) d (omega arith),
                                  gate-in (o.class j) (suc k) d (omega arith),
                                )
                          ]),
                    )
              ]
        ]

  push-labels : (a b t : ℕ) → a < o.n → b ≤ o.n → t < o.q → y.w a t < o.cap a t → 0 < y.w b t →
      Free (y.slack t) (o.class a) (o.class b) → y.h a ≤ suc (y.h b)
  push-labels a b t la lb lt up has fr =
      elim (ℕ_discrete t s) [
        | yes e ↦
            omega (arith, M.h-same a, M.h-same b, push-label a b la lb (rw e at up) (rw e at has) (rw e at fr))
        | no e ↦
            omega (
              arith,
              M.h-same a,
              M.h-same b,
              S.labels a b t la lb lt (omega (arith, M.w-row a t lt e)) (omega (arith, M.w-row b t lt e))
                  (λ k lo hi.
                  omega (arith, fr k lo hi, M.slack-else t k lt e (omega (arith, class-top o m O b lb)))),
            )
      ]

  pub push-state : x.w j s + d ≤ o.cap j s → State o m y
  push-state fit =
      record {
        caps = push-caps fit;
        rooms = push-rooms;
        idle = push-idle;
        rows = push-rows;
        labels = push-labels;
        low = λ a la. omega (arith, M.h-same a, S.low a la);
        high = λ a la. omega (arith, M.h-same a, S.high a la);
        grounded = M.h-same o.n ∙ S.grounded;
      }

  pub push-less : (K : ℕ) → 0 < d → measure K o.n y < measure K o.n x
  unfolding measure weight
  push-less K pos =
      omega (
        arith,
        sum-two (suc o.n) j i (weight K o.n y.left y.h) (weight K o.n x.left x.h)
            (omega (arith, A.j-job)) (omega (arith, A.i-any)) (able-differ A)
            (λ a f g. cc (M.left-else a f g, M.h-same a)),
        of-j,
        of-i,
        of-d,
      )
    where
      of-j : weight K o.n x.left x.h j ≡ weight K o.n y.left y.h j + d * x.h j
      of-j = rw (M.h-same j, ← M.left_down, add-mul) (omega arith)

      of-i : weight K o.n y.left y.h i ≡ weight K o.n x.left x.h i + d * x.h i
      of-i = rw (M.h-same i, M.left_up, add-mul) (omega arith)

      of-d : d * x.h j ≡ d * x.h i + d
      of-d = rw (A.lower, mul-suc) (omega arith)

  -- what was barred to j beyond s still is
  pub push-barred : (u : ℕ) → s < u → Barred o x j u → Barred o y j u
  push-barred u su B =
      record {
        none = λ a t la lo hi sp has fr e.
            let ne : t ≢ s = λ z. omega arith in
            B.none a t la lo hi (omega (arith, M.w-row j t hi ne)) (omega (arith, M.w-row a t hi ne))
            (λ k a1 a2. omega (arith, fr k a1 a2, M.slack-else t k hi ne (omega (arith, class-top o m O a la))))
            (omega (arith, e, M.h-same j, M.h-same a));
      }
