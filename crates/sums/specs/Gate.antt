-- Tests that compute numbers: a choice, a number behind a test, a function changed at one place.
use Rattle.std.specs.Prelude.{◌≡◌, refl, ◌≢◌, ℕ, zero, suc, ◌+◌, ◌*◌, ◌≤◌, ◌<◌}
use Rattle.std.proofs.Common.{ap, sym, ◌∙◌, arith}
use Rattle.std.proofs.Math.Decide.{dec_le, dec_lt, ℕ_discrete}
use Rattle.sums.specs.Sum.{sum, sum-cong, sum-le, sum-at}

-- a where the test holds, else b
unfoldable pub pick : {P : Type 0} → Dec P → ℕ → ℕ → ℕ
pick (yes _) a b = a
pick (no _) a b = b

pub pick_yes : {P : Type 0} (d : Dec P) (a b : ℕ) → P → pick d a b ≡ a
unfolding pick
pick_yes (yes _) a b p = refl
pick_yes (no h) a b p = absurd (h p)

pub pick_no : {P : Type 0} (d : Dec P) (a b : ℕ) → ¬ P → pick d a b ≡ b
unfolding pick
pick_no (yes p) a b h = absurd (h p)
pick_no (no _) a b h = refl

-- v where a < b, else 0
unfoldable pub gate : ℕ → ℕ → ℕ → ℕ
gate a b v = pick (dec_lt a b) v 0

pub gate-in : (a b v : ℕ) → a < b → gate a b v ≡ v
unfolding gate
gate-in a b v h = pick_yes (dec_lt a b) v 0 h

pub gate-out : (a b v : ℕ) → b ≤ a → gate a b v ≡ 0
unfolding gate
gate-out a b v h = pick_no (dec_lt a b) v 0 (omega arith)

pub gate-≤ : (a b v : ℕ) → gate a b v ≤ v
unfolding gate pick
gate-≤ a b v = elim (dec_lt a b) as (λ d. pick d v 0 ≤ v) [ yes h ↦ omega arith | no h ↦ omega arith ]

pub gate-add : (a b v w : ℕ) → gate a b (v + w) ≡ gate a b v + gate a b w
gate-add a b v w =
    elim (dec_lt a b) [
      | yes l ↦ omega (arith, gate-in a b (v + w) l, gate-in a b v l, gate-in a b w l)
      | no l ↦
          omega (arith, gate-out a b (v + w) (omega arith), gate-out a b v (omega arith), gate-out a b w (omega arith))
    ]

-- i < k as a gate on the one factor or on the other
pub gate-flip : (i k a b : ℕ) → b * gate i k a ≡ a * gate (suc i) (suc k) b
gate-flip i k a b =
    elim (dec_lt i k) [
      | yes h ↦ rw (gate-in i k a h, gate-in (suc i) (suc k) b (omega arith)) (omega arith)
      | no h ↦ rw (gate-out i k a (omega arith), gate-out (suc i) (suc k) b (omega arith)) (omega arith)
    ]

-- v where a ≡ b, else 0
unfoldable pub at : ℕ → ℕ → ℕ → ℕ
at a b v = pick (ℕ_discrete a b) v 0

pub at_in : (a b v : ℕ) → a ≡ b → at a b v ≡ v
unfolding at
at_in a b v h = pick_yes (ℕ_discrete a b) v 0 h

pub at_out : (a b v : ℕ) → a ≢ b → at a b v ≡ 0
unfolding at
at_out a b v h = pick_no (ℕ_discrete a b) v 0 h

-- κ with v at s
unfoldable pub put : (ℕ → ℕ) → ℕ → ℕ → ℕ → ℕ
put κ s v i = pick (ℕ_discrete i s) v (κ i)

pub put_same : (κ : ℕ → ℕ) (s v : ℕ) → put κ s v s ≡ v
unfolding put
put_same κ s v = pick_yes (ℕ_discrete s s) v (κ s) refl

pub put_other : (κ : ℕ → ℕ) (s v i : ℕ) → i ≢ s → put κ s v i ≡ κ i
unfolding put
put_other κ s v i h = pick_no (ℕ_discrete i s) v (κ i) h

-- what holds of every value of κ and of v holds of every value of κ with v at s
pub put_all : (P : ℕ → Type 0) (κ : ℕ → ℕ) (s v : ℕ) → ((i : ℕ) → P (κ i)) → P v → (i : ℕ) → P (put κ s v i)
unfolding put pick
put_all P κ s v h b i = elim (ℕ_discrete i s) as (λ d. P (pick d v (κ i))) [ yes e ↦ b | no e ↦ h i ]

-- a sum over a changed function: g k i is the term at i of a function that is k there
pub sum-put : (q : ℕ) (g : ℕ → ℕ → ℕ) (κ : ℕ → ℕ) (s v : ℕ) → s < q →
    sum q (λ i. g (put κ s v i) i) + g (κ s) s ≡ sum q (λ i. g (κ i) i) + g v s
sum-put q g κ s v b =
    omega (
      arith,
      ap (λ k. g k s) (put_same κ s v),
      sum-at q s (λ i. g (put κ s v i) i) (λ i. g (κ i) i) b (λ i h. ap (λ k. g k i) (put_other κ s v i h)),
    )

-- a sum cut off at k
pub sum-gate : (n k : ℕ) (f : ℕ → ℕ) → k ≤ n → sum n (λ i. gate i k (f i)) ≡ sum k f
unfolding sum
sum-gate zero k f b = let e : k ≡ 0 = omega arith in rw e
sum-gate (suc n) k f b =
    elim (dec_le k n) [
      | yes c ↦ omega (arith, sum-gate n k f c, gate-out n k (f n) c)
      | no c ↦
          let e : k ≡ suc n = omega arith in
          omega (
            arith,
            ap (λ z. sum z f) e,
            gate-in n k (f n) (omega arith),
            sum-cong n (λ i. gate i k (f i)) f (λ i d. gate-in i k (f i) (omega arith)),
          )
    ]

pub sum_mono : (k n : ℕ) (f : ℕ → ℕ) → k ≤ n → sum k f ≤ sum n f
sum_mono k n f b = omega (arith, sum-gate n k f b, sum-le n _ f (λ i _. gate-≤ i k (f i)))

-- f and g agree except at j and at i, which differ
pub sum-two : (n j i : ℕ) (f g : ℕ → ℕ) → j < n → i < n → j ≢ i → ((x : ℕ) → x ≢ j → x ≢ i → f x ≡ g x) →
    sum n f + g j + g i ≡ sum n g + f j + f i
sum-two n j i f g bj bi ne h =
    omega (
      arith,
      put_same f j (g j),
      put_other f j (g j) i (λ e. ne (sym e)),
      sum-at n j (put f j (g j)) f bj (λ x d. put_other f j (g j) x d),
      sum-at n i (put f j (g j)) g bi (λ x d.
          elim (ℕ_discrete x j) [
            | yes e ↦ rw e (put_same f j (g j))
            | no e ↦ put_other f j (g j) x e ∙ h x e d
          ]),
    )
