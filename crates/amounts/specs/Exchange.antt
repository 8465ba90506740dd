-- The common start: from any violating cut to one that never rises, by exchanging the classes of two next stretches.
-- What a job owes is convex in what is covered, so lowering the later class or raising the earlier keeps the violation.
use Rattle.std.specs.Prelude.{◌≡◌}
use Rattle.std.proofs.Math.Path.{ap}
use Rattle.std.proofs.Math.Logic.Dec.{and as dec_and}
use Prim.Native.Nat.{ℕ, zero, suc, ◌+◌, ◌*◌, ◌-◌, ◌≤◌, ◌<◌}
use Rattle.std.proofs.Common.{mul-le-mul_left, mul-zero, sub-eq-zero_of_le}
use Rattle.std.proofs.Math.Nat.{mul-lt-mul_of_pos_left}
use Rattle.std.proofs.Math.Decide.{dec_le, dec_lt}
use native.Mathlib.Omega.{arith}
use Rattle.sums.specs.Sum.{sum, sum-le, sum-add, sum-mul}
use Rattle.sums.specs.Gate.{gate, gate-in, gate-out, put, put_all, sum-put}
use Rattle.amounts.specs.Flow.{Flow, covered, owed_by, left, right, Violating, Cut}
use Rattle.amounts.specs.Below.{first, none, first_below}

-- q stretches with their lengths; job j may use the first `ends j`; `count i` processors have the class i + 1
pub record Stretches : Type 0 where
  pub q : ℕ
  pub n : ℕ
  pub length : ℕ → ℕ
  pub time : ℕ → ℕ
  pub class : ℕ → ℕ
  pub ends : ℕ → ℕ
  pub count : ℕ → ℕ

-- a job may have the whole of each of its stretches; the classes up to k have the room of their processors
abbrev pub common_flow : Stretches → Flow
common_flow o =
    record {
      q = o.q;
      n = o.n;
      time = o.time;
      class = o.class;
      cap = λ j s. gate s (o.ends j) (o.length s);
      room = λ s k. sum k o.count * o.length s;
    }

mix-≤ : (l m d e f : ℕ) → d ≤ e → d ≤ f → (l + m) * d ≤ l * e + m * f
mix-≤ l m d e f p q = omega (arith, mul-le-mul_left l p, mul-le-mul_left m q)

-- `t - x` is convex in x
sub-convex : (l m t x a b : ℕ) → a ≡ x + m → b + l ≡ x → (l + m) * (t - x) ≤ l * (t - a) + m * (t - b)
sub-convex l m t x a b p r =
    elim (dec_le t x) [
      | yes h ↦ rw (sub-eq-zero_of_le h, mul-zero) (omega arith)
      | no h ↦
          let p₁ : t - x ≤ t - a + m = omega arith in
          let p₂ : t - x + l ≤ t - b = omega arith in
          omega (arith, mul-le-mul_left l p₁, mul-le-mul_left m p₂)
    ]

-- one job of class c that may use the first e stretches: x is what κ covers, a and b what the changed cuts cover
job-convex : (l m t x a b u v c e s s' : ℕ) → u < v → s < s' →
    a + gate v c (gate s' e m) ≡ x + gate u c (gate s' e m) →
    b + gate u c (gate s e l) ≡ x + gate v c (gate s e l) → (l + m) * (t - x) ≤ l * (t - a) + m * (t - b)
job-convex l m t x a b u v c e s s' low before ea eb =
    let y = gate s' e m in
    let z = gate s e l in
    elim (dec_lt u c) [
      | no h ↦
          let g : a ≡ x = omega (arith, gate-out u c y (omega arith), gate-out v c y (omega arith)) in
          let g' : b ≡ x = omega (arith, gate-out u c z (omega arith), gate-out v c z (omega arith)) in
          mix-≤ l m (t - x) (t - a) (t - b) (omega arith) (omega arith)
      | yes h ↦
          elim (dec_lt v c) [
            | yes k ↦
                let g : a ≡ x = omega (arith, gate-in u c y h, gate-in v c y k) in
                let g' : b ≡ x = omega (arith, gate-in u c z h, gate-in v c z k) in
                mix-≤ l m (t - x) (t - a) (t - b) (omega arith) (omega arith)
            | no k ↦
                let g : a ≡ x + y = omega (arith, gate-in u c y h, gate-out v c y (omega arith)) in
                let g' : b + z ≡ x = omega (arith, gate-in u c z h, gate-out v c z (omega arith)) in
                elim (dec_lt s' e) [
                  | no i ↦
                      let y₀ = gate-out s' e m (omega arith) in
                      mix-≤ l m (t - x) (t - a) (t - b) (omega arith) (omega arith)
                  | yes i ↦
                      let y₁ = gate-in s' e m i in
                      let z₁ = gate-in s e l (omega arith) in
                      sub-convex l m t x a b (omega arith) (omega arith)
                ]
          ]
    ]

-- A lowers κ at the later stretch s', B raises it at s
module _ (o : Stretches) (κ : ℕ → ℕ) (s s' : ℕ) (before : s < s') (inside : s' < o.q) (rise : κ s < κ s') where
  abbrev A : ℕ → ℕ
  A = put κ s' (κ s)

  abbrev B : ℕ → ℕ
  B = put κ s (κ s')

  exchange-left : (o.length s + o.length s') * left (common_flow o) κ
      ≤ o.length s * left (common_flow o) A + o.length s' * left (common_flow o) B
  unfolding left covered
  exchange-left =
      let l : ℕ = o.length s in
      let l' : ℕ = o.length s' in
      let x : ℕ → ℕ = owed_by (common_flow o) κ in
      let a : ℕ → ℕ = owed_by (common_flow o) A in
      let b : ℕ → ℕ = owed_by (common_flow o) B in
      let g : ℕ → ℕ → ℕ → ℕ = λ j k i. gate k (o.class j) (gate i (o.ends j) (o.length i)) in
      omega (
        arith,
        sum-mul o.n (l + l') x,
        sum-mul o.n l a,
        sum-mul o.n l' b,
        sum-add o.n (λ j. l * a j) (λ j. l' * b j),
        sum-le o.n (λ j. (l + l') * x j) (λ j. l * a j + l' * b j) (λ j _.
            job-convex l l' (o.time j) (covered (common_flow o) κ j) (covered (common_flow o) A j) (covered (common_flow o) B j) (κ s)
            (κ s') (o.class j) (o.ends j) s s' rise before (sum-put o.q (g j) κ s' (κ s) inside)
            (sum-put o.q (g j) κ s (κ s') (omega arith))),
      )

  exchange-right : o.length s * right (common_flow o) A + o.length s' * right (common_flow o) B
      ≡ (o.length s + o.length s') * right (common_flow o) κ
  unfolding right
  exchange-right =
      let g : ℕ → ℕ → ℕ = λ k i. sum k o.count * o.length i in
      omega (
        arith,
        ap (λ x. o.length s * x) (sum-put o.q g κ s' (κ s) inside),
        ap (λ x. o.length s' * x) (sum-put o.q g κ s (κ s') (omega arith)),
      )

  -- the excess of A is at least that of κ, or the excess of B is larger
  exchange : 0 < o.length s → ¬ (left (common_flow o) κ + right (common_flow o) A ≤ left (common_flow o) A + right (common_flow o) κ) →
      left (common_flow o) κ + right (common_flow o) B < left (common_flow o) B + right (common_flow o) κ
  exchange pos not_a =
      elim (dec_lt (left (common_flow o) κ + right (common_flow o) B) (left (common_flow o) B + right (common_flow o) κ)) [
        | yes h ↦ h
        | no h ↦
            let ha : left (common_flow o) A + right (common_flow o) κ < left (common_flow o) κ + right (common_flow o) A = omega arith in
            let hb : left (common_flow o) B + right (common_flow o) κ ≤ left (common_flow o) κ + right (common_flow o) B = omega arith in
            absurd (omega (
              arith,
              exchange-left,
              exchange-right,
              mul-lt-mul_of_pos_left ha pos,
              mul-le-mul_left (o.length s') hb,
            ))
      ]

-- κ never rises below q
abbrev pub Falls : (ℕ → ℕ) → ℕ → Type 0
Falls κ q = (i : ℕ) → suc i < q → κ (suc i) ≤ κ i

data Course (κ : ℕ → ℕ) (q : ℕ) : Type 0 where
  rises : (s : ℕ) → suc s < q → κ s < κ (suc s) → Course κ q
  falls : Falls κ q → Course κ q

course : (κ : ℕ → ℕ) (q : ℕ) → Course κ q
course κ q =
    elim (first_below (λ s. (suc s < q) × (κ s < κ (suc s)))
    (λ s. dec_and (dec_lt (suc s) q) (dec_lt (κ s) (κ (suc s)))) q) [
      | first s b p _ ↦ rises s p.0 p.1
      | none f ↦ falls (λ i b. level i (λ r. f i (omega arith) (b, r)))
    ]
  where
    level : (i : ℕ) → ¬ (κ i < κ (suc i)) → κ (suc i) ≤ κ i
    level i h = omega arith

-- a violating cut of classes below m that never rises
pub record FallingCut (o : Stretches) (m : ℕ) : Type 0 where
  pub cut : Cut (common_flow o) m
  pub falling : Falls cut.κ o.q

left-≤-times : (o : Stretches) (κ : ℕ → ℕ) → left (common_flow o) κ ≤ sum o.n o.time
unfolding left
left-≤-times o κ = sum-le o.n _ o.time (omega arith)

module _ (o : Stretches) (pos : (s : ℕ) → s < o.q → 0 < o.length s) (m : ℕ) where
  -- g bounds what the excess can still gain, k what the cut can still lose
  fall : (g k : ℕ) (κ : ℕ → ℕ) → Violating (common_flow o) κ → ((i : ℕ) → κ i < m) →
      sum o.n o.time + right (common_flow o) κ < left (common_flow o) κ + g → sum o.q κ < k → FallingCut o m
  fall zero k κ v b e h = absurd (omega (arith, left-≤-times o κ))
  fall (suc g) zero κ v b e h = absurd (omega arith)
  fall (suc g) (suc k) κ v b e h =
      elim (course κ o.q) [
        | falls f ↦ record { cut = record { κ = κ; below = b; violating = v }; falling = f }
        | rises s i r ↦
            let A : ℕ → ℕ = put κ (suc s) (κ s) in
            let B : ℕ → ℕ = put κ s (κ (suc s)) in
            elim (dec_le (left (common_flow o) κ + right (common_flow o) A) (left (common_flow o) A + right (common_flow o) κ)) [
              | yes y ↦
                  fall (suc g) k A (omega arith) (put_all (λ k. k < m) κ (suc s) (κ s) b (b s)) (omega arith)
                  (omega (arith, sum-put o.q (λ k _. k) κ (suc s) (κ s) i))
              | no y ↦
                  let x = exchange o κ s (suc s) (omega arith) i r (pos s (omega arith)) y in
                  fall g (suc (sum o.q B)) B (omega arith) (put_all (λ k. k < m) κ s (κ (suc s)) b (b (suc s)))
                  (omega arith) (omega arith)
            ]
      ]

  pub cut-falls : Cut (common_flow o) m → FallingCut o m
  cut-falls C =
      fall (suc (sum o.n o.time + right (common_flow o) C.κ)) (suc (sum o.q C.κ)) C.κ C.violating
      C.below (omega arith) (omega arith)
