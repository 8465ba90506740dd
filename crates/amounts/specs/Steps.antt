-- The common start: a violating cut that never rises has a step for each class, and at its steps more is owed than is
-- on hand; and such steps are a violating cut. The step of the class i lies at the end of the first p i stretches.
use Rattle.std.specs.Prelude.{◌≡◌}
use Rattle.std.proofs.Math.Path.{refl, ap, fun_ext}
use Rattle.std.proofs.Common.{subst, ◌∙◌}
use Prim.Native.Nat.{ℕ, zero, suc, ◌+◌, ◌*◌, ◌-◌, ◌≤◌, ◌<◌}
use Rattle.std.proofs.Math.Decide.{dec_le, dec_lt, ℕ_discrete}
use native.Mathlib.Omega.{arith}
use Rattle.sums.specs.Sum.{sum, sum-cong, sum-le, sum-add, sum-mul, sum-const, sum-swap, sum-ge, sum-only}
use Rattle.sums.specs.Gate.{
  gate,
  gate-in,
  gate-out,
  gate-≤,
  gate-flip,
  at,
  at_in,
  at_out,
  sum-gate,
  sum_mono,
}
use Rattle.amounts.specs.Flow.{covered, owed_by, left, right, Violating, Cut}
use Rattle.amounts.specs.Exchange.{Stretches, common_flow, Falls, FallingCut}

-- the end of the first p stretches; a job's deadline is the end of those that it may use
unfoldable pub upto : Stretches → ℕ → ℕ
upto o p = sum p o.length

-- what job j owes at the time t
unfoldable pub owed : Stretches → ℕ → ℕ → ℕ
owed o j t = o.time j - (upto o (o.ends j) - t)

-- at the times T the classes 1 to k owe more than there is on hand
abbrev pub Over : Stretches → ℕ → (ℕ → ℕ) → Type 0
Over o k T =
    sum k (λ i. o.count i * T (suc i))
    < sum k (λ i. sum o.n (λ j. at (o.class j) (suc i) (owed o j (T (suc i)))))

pub record Steps (o : Stretches) (S : ℕ) : Type 0 where
  pub k : ℕ
  pub p : ℕ → ℕ
  pub few : k ≤ S
  pub step : (i : ℕ) → i < k → (0 < p (suc i)) × (p (suc i) ≤ o.q)
  pub falling : (i : ℕ) → suc i < k → p (suc (suc i)) ≤ p (suc i)
  pub more : Over o k (λ i. upto o (p i))

-- κ is at least c exactly below p
record Split (κ : ℕ → ℕ) (c q : ℕ) : Type 0 where
  pub p : ℕ
  pub fits : p ≤ q
  pub below : (s : ℕ) → s < p → c ≤ κ s
  pub above : (s : ℕ) → p ≤ s → s < q → κ s < c

falls-all : (κ : ℕ → ℕ) (q : ℕ) → Falls κ q → (i j : ℕ) → i ≤ j → j < q → κ j ≤ κ i
falls-all κ q h i zero b c = let e : i ≡ 0 = omega arith in omega (arith, ap κ e)
falls-all κ q h i (suc j) b c =
    elim (ℕ_discrete i (suc j)) [
      | yes e ↦ omega (arith, ap κ e)
      | no e ↦ omega (arith, h j (omega arith), falls-all κ q h i j (omega arith) (omega arith))
    ]

split : (κ : ℕ → ℕ) (c q : ℕ) → Falls κ q → Split κ c q
split κ c zero f = record { p = 0; fits = omega arith; below = omega arith; above = omega arith }
split κ c (suc q) f =
    elim (dec_le c (κ q)) [
      | yes y ↦
          record {
            p = suc q;
            fits = omega arith;
            below = λ s b. omega (arith, falls-all κ (suc q) f s q (omega arith) (omega arith));
            above = omega arith;
          }
      | no y ↦
          let r = split κ c q (λ i b. f i (omega arith)) in
          record {
            p = r.p;
            fits = omega arith;
            below = r.below;
            above = λ s b d.
                elim (ℕ_discrete s q) [ yes e ↦ omega (arith, ap κ e) | no e ↦ r.above s b (omega arith) ];
          }
    ]

module _ (κ : ℕ → ℕ) (c q : ℕ) (r : Split κ c q) (ℓ : ℕ → ℕ) where
  -- of the first e stretches, those where κ is below c
  sum-above : (e : ℕ) → e ≤ q → sum q (λ s. gate (κ s) c (gate s e (ℓ s))) ≡ sum e ℓ - sum r.p ℓ
  sum-above e be =
      elim (dec_le e r.p) [
        | yes h ↦ omega (arith, whole, sum-gate r.p e ℓ h, sum_mono e r.p ℓ h)
        | no h ↦ omega (arith, whole, sum-cong r.p w ℓ (λ s b. gate-in s e (ℓ s) (omega arith)))
      ]
    where
      w : ℕ → ℕ
      w s = gate s e (ℓ s)

      term : (s : ℕ) → s < q → gate (κ s) c (w s) + gate s r.p (w s) ≡ w s
      term s b =
          elim (dec_lt s r.p) [
            | yes h ↦ omega (arith, gate-in s r.p (w s) h, gate-out (κ s) c (w s) (r.below s h))
            | no h ↦
                omega (arith, gate-out s r.p (w s) (omega arith), gate-in (κ s) c (w s) (r.above s (omega arith) b))
          ]

      whole : sum q (λ s. gate (κ s) c (w s)) + sum r.p w ≡ sum e ℓ
      whole =
          omega (
            arith,
            sum-add q (λ s. gate (κ s) c (w s)) (λ s. gate s r.p (w s)),
            sum-gate q r.p w r.fits,
            sum-cong q (λ s. gate (κ s) c (w s) + gate s r.p (w s)) w term,
            sum-gate q e ℓ be,
          )

  -- the stretches where κ is at least c
  sum_below : sum q (λ s. gate c (suc (κ s)) (ℓ s)) ≡ sum r.p ℓ
  sum_below = sum-cong q _ (λ s. gate s r.p (ℓ s)) term ∙ sum-gate q r.p ℓ r.fits
    where
      term : (s : ℕ) → s < q → gate c (suc (κ s)) (ℓ s) ≡ gate s r.p (ℓ s)
      term s b =
          elim (dec_lt s r.p) [
            | yes h ↦
                omega (arith, gate-in s r.p (ℓ s) h, gate-in c (suc (κ s)) (ℓ s) (omega (arith, r.below s h)))
            | no h ↦
                omega (
                  arith,
                  gate-out s r.p (ℓ s) (omega arith),
                  gate-out c (suc (κ s)) (ℓ s) (r.above s (omega arith) b),
                )
          ]

module _ (o : Stretches) (κ : ℕ → ℕ) where
  -- the length of the stretches where κ is at least c
  top : ℕ → ℕ
  top c = sum o.q (λ s. gate c (suc (κ s)) (o.length s))

  top-upto : (c : ℕ) (r : Split κ c o.q) → top c ≡ upto o r.p
  unfolding top upto
  top-upto c r = sum_below κ c o.q r o.length

  right-tops : (S : ℕ) → ((i : ℕ) → κ i ≤ S) → right (common_flow o) κ ≡ sum S (λ i. o.count i * top (suc i))
  unfolding right top
  right-tops S b =
      sum-cong o.q _ _ (λ s _. term s)
      ∙ sum-swap o.q S (λ s i. o.count i * gate (suc i) (suc (κ s)) (o.length s))
      ∙ sum-cong S _ _ (λ i _. sum-mul o.q (o.count i) (λ s. gate (suc i) (suc (κ s)) (o.length s)))
    where
      term : (s : ℕ) →
          sum (κ s) o.count * o.length s ≡ sum S (λ i. o.count i * gate (suc i) (suc (κ s)) (o.length s))
      term s =
          omega (
            arith,
            ap (λ x. x * o.length s) (sum-gate S (κ s) o.count (b s)),
            sum-mul S (o.length s) (λ i. gate i (κ s) (o.count i)),
            sum-cong S (λ i. o.length s * gate i (κ s) (o.count i))
                (λ i. o.count i * gate (suc i) (suc (κ s)) (o.length s))
                (λ i _. gate-flip i (κ s) (o.count i) (o.length s)),
          )

  covered-upto : (j : ℕ) → o.ends j ≤ o.q → (c : ℕ) → o.class j ≡ c → (r : Split κ c o.q) →
      covered (common_flow o) κ j ≡ upto o (o.ends j) - upto o r.p
  unfolding covered upto
  covered-upto j b c e r = rw e (sum-above κ c o.q r o.length (o.ends j) b)

-- what is asked of the stretches and the jobs
pub record Sound (o : Stretches) : Type 0 where
  pub some : 0 < o.q
  pub pos : (s : ℕ) → s < o.q → 0 < o.length s
  pub fits : (j : ℕ) → j < o.n → o.ends j ≤ o.q
  pub classed : (j : ℕ) → j < o.n → 0 < o.class j

module _ (o : Stretches) (g : Sound o) (in-time : (j : ℕ) → j < o.n → o.time j ≤ upto o (o.ends j)) (S : ℕ)
    (C : FallingCut o (suc S)) where
  abbrev κ : ℕ → ℕ
  κ = C.cut.κ

  κ-≤ : (i : ℕ) → κ i ≤ S
  κ-≤ i = omega (arith, C.cut.below i)

  at-class : (c : ℕ) → Split κ c o.q
  at-class c = split κ c o.q C.falling

  -- no stretch reaches a class beyond κ 0
  beyond : (c : ℕ) → κ 0 < c → (at-class c).p ≡ 0
  beyond c h = elim (dec_lt 0 (at-class c).p) [ yes z ↦ omega (arith, (at-class c).below 0 z) | no z ↦ omega arith ]

  owed_by-≤-owed : (j : ℕ) → j < o.n →
      owed_by (common_flow o) κ j ≤ sum (κ 0) (λ i. at (o.class j) (suc i) (owed o j (top o κ (suc i))))
  unfolding owed
  owed_by-≤-owed j d =
      elim (dec_lt (κ 0) (o.class j)) [
        | yes h ↦
            omega (
              arith,
              covered-upto o κ j (g.fits j d) _ refl (at-class (o.class j)),
              ap (upto o) (beyond (o.class j) h),
              upto_zero,
              in-time j d,
            )
        | no h ↦ one (o.class j - 1) (omega (arith, g.classed j d)) (omega (arith, g.classed j d))
      ]
    where
      upto_zero : upto o 0 ≡ 0
      upto_zero = unfold upto sum in refl

      one : (i : ℕ) → o.class j ≡ suc i → i < κ 0 →
          owed_by (common_flow o) κ j ≤ sum (κ 0) (λ i. at (o.class j) (suc i) (owed o j (top o κ (suc i))))
      one i e h =
          omega (
            arith,
            covered-upto o κ j (g.fits j d) (suc i) e (at-class (suc i)),
            top-upto o κ (suc i) (at-class (suc i)),
            at_in (o.class j) (suc i) (owed o j (top o κ (suc i))) e,
            sum-ge (κ 0) i (λ i. at (o.class j) (suc i) (owed o j (top o κ (suc i)))) h,
          )

  pub cut-steps : Steps o S
  cut-steps =
      record {
        k = κ 0;
        p = λ c. (at-class c).p;
        few = κ-≤ 0;
        step = λ i h. (first i h, (at-class (suc i)).fits);
        falling = λ i _. down i;
        more = subst (Over o (κ 0)) (fun_ext (λ c. top-upto o κ c (at-class c))) full;
      }
    where
      first : (i : ℕ) → i < κ 0 → 0 < (at-class (suc i)).p
      first i h =
          elim (dec_lt 0 (at-class (suc i)).p) [
            | yes z ↦ z
            | no z ↦ omega (arith, (at-class (suc i)).above 0 (omega arith) g.some)
          ]

      down : (i : ℕ) → (at-class (suc (suc i))).p ≤ (at-class (suc i)).p
      down i =
          elim (dec_le (at-class (suc (suc i))).p (at-class (suc i)).p) [
            | yes y ↦ y
            | no y ↦
                omega (
                  arith,
                  (at-class (suc (suc i))).below (at-class (suc i)).p (omega arith),
                  (at-class (suc i)).above (at-class (suc i)).p (omega arith)
                      (omega (arith, (at-class (suc (suc i))).fits)),
                )
          ]

      full : Over o (κ 0) (top o κ)
      full = unfold left in
          omega (
            arith,
            C.cut.violating,
            right-tops o κ S κ-≤,
            sum_mono (κ 0) S (λ i. o.count i * top o κ (suc i)) (κ-≤ 0),
            sum-le o.n (owed_by (common_flow o) κ) _ owed_by-≤-owed,
            sum-swap o.n (κ 0) (λ j i. at (o.class j) (suc i) (owed o j (top o κ (suc i)))),
          )

-- the cut of the steps p (suc i), i < k: as high at s as there are steps beyond s
cut : ℕ → (ℕ → ℕ) → ℕ → ℕ
cut k p s = sum k (λ i. gate s (p (suc i)) 1)

module _ (k : ℕ) (p : ℕ → ℕ) (f : Falls (λ i. p (suc i)) k) (s : ℕ) where
  cut-≤ : cut k p s ≤ k
  unfolding cut
  cut-≤ = omega (arith, sum-const k 1, sum-le k _ (λ _. 1) (λ i _. gate-≤ s (p (suc i)) 1))

  cut_in : (i : ℕ) → i < k → s < p (suc i) → suc i ≤ cut k p s
  unfolding cut
  cut_in i b h =
      omega (
        arith,
        sum-const (suc i) 1,
        sum_mono (suc i) k (λ i. gate s (p (suc i)) 1) b,
        sum-cong (suc i) (λ i. gate s (p (suc i)) 1) (λ _. 1)
            (λ i' c. gate-in s (p (suc i')) 1 (omega (arith, falls-all (λ i. p (suc i)) k f i' i (omega arith) b))),
      )

  cut_out : (i : ℕ) → i < k → p (suc i) ≤ s → cut k p s < suc i
  unfolding cut
  cut_out i b h =
      omega (
        arith,
        sum-const i 1,
        sum-gate k i (λ _. 1) (omega arith),
        sum-le k (λ i'. gate s (p (suc i')) 1) (λ i'. gate i' i 1) term,
      )
    where
      term : (i' : ℕ) → i' < k → gate s (p (suc i')) 1 ≤ gate i' i 1
      term i' c =
          elim (dec_lt i' i) [
            | yes y ↦ omega (arith, gate-in i' i 1 y, gate-≤ s (p (suc i')) 1)
            | no y ↦
                omega (
                  arith,
                  gate-out s (p (suc i')) 1
                      (omega (arith, falls-all (λ i. p (suc i)) k f i i' (omega arith) c)),
                )
          ]

module _ (o : Stretches) (g : Sound o) (S : ℕ) (v : Steps o S) where
  stepped : ℕ → ℕ
  stepped s = cut v.k v.p s

  stepped-split : (i : ℕ) → i < v.k → Split stepped (suc i) o.q
  unfolding stepped
  stepped-split i h =
      record {
        p = v.p (suc i);
        fits = (v.step i h).1;
        below = λ s b. cut_in v.k v.p v.falling s i h b;
        above = λ s b _. cut_out v.k v.p v.falling s i h b;
      }

  owed-≤-owed_by : (j : ℕ) → j < o.n →
      sum v.k (λ i. at (o.class j) (suc i) (owed o j (upto o (v.p (suc i))))) ≤ owed_by (common_flow o) stepped j
  unfolding stepped-split owed
  owed-≤-owed_by j b =
      elim (dec_lt (o.class j - 1) v.k) [
        | yes h ↦ one (o.class j - 1) (omega (arith, g.classed j b)) h
        | no h ↦
            omega (
              arith,
              sum-const v.k 0,
              sum-cong v.k w (λ _. 0) (λ i c. at_out (o.class j) (suc i) _ (omega arith)),
            )
      ]
    where
      w : ℕ → ℕ
      w i = at (o.class j) (suc i) (owed o j (upto o (v.p (suc i))))

      one : (i : ℕ) → o.class j ≡ suc i → i < v.k → sum v.k w ≤ owed_by (common_flow o) stepped j
      one i e h =
          omega (
            arith,
            covered-upto o stepped j (g.fits j b) (suc i) e (stepped-split i h),
            sum-only v.k i w (λ i n. at_out (o.class j) (suc i) _ (omega arith)),
            at_in (o.class j) (suc i) (owed o j (upto o (v.p (suc i)))) e,
          )

  stepped-≤ : (s : ℕ) → stepped s ≤ v.k
  unfolding stepped
  stepped-≤ s = cut-≤ v.k v.p v.falling s

  stepped-violating : Violating (common_flow o) stepped
  unfolding left stepped-split
  stepped-violating =
      omega (
        arith,
        v.more,
        right-tops o stepped v.k stepped-≤,
        sum-cong v.k (λ i. o.count i * top o stepped (suc i)) (λ i. o.count i * upto o (v.p (suc i)))
            (λ i h. ap (λ x. o.count i * x) (top-upto o stepped (suc i) (stepped-split i h))),
        sum-le o.n _ (owed_by (common_flow o) stepped) owed-≤-owed_by,
        sum-swap o.n v.k (λ j i. at (o.class j) (suc i) (owed o j (upto o (v.p (suc i))))),
      )

  pub steps-cut : Cut (common_flow o) (suc S)
  steps-cut =
      record { κ = stepped; below = λ s. omega (arith, stepped-≤ s, v.few); violating = stepped-violating }
