-- Classes as facts: a job fits a processor exactly if the processor's class is not beyond the job's; the processors of a
-- class are those with its memory; a need of 0 belongs to the last class.
use Prim.Native.Nat.{ℕ, zero, suc, ◌≤◌, ◌<◌}
use Rattle.std.specs.Prelude.{◌≡◌, Bool, true, false, cond, List, [], ◌∷◌, ◌↔◌, ◌≢◌, leb, eqb, length}
use Rattle.std.proofs.Math.Path.{refl, ap}
use Rattle.std.proofs.Common.{sym, ◌∙◌, le_of_suc-le-suc}
use native.Mathlib.Omega.{arith}
use Rattle.std.proofs.Math.Decide.{dec_le, dec_lt, ℕ_discrete}
use borrow.Author.Tests.{leb-true, leb-false, le-leb, lt-leb, ltb-true, eq-eqb, ne_eqb}
use Rattle.std.proofs.Math.Dec.{ltb}
use Rattle.std.proofs.Math.ListN.{get_or}
use Rattle.sums.specs.Sum.{sum}
use Rattle.sums.specs.Lists.{In, total, only, nth}
use Rattle.sums.specs.Members.{in-All, in-at, at_in}
use Rattle.sums.specs.Pairs.{Pairwise-at}
use Rattle.sums.specs.Totals.{only-le, total-cong, total-ge, total-most, total-none, sum-total}
use Rattle.order.specs.Order.{Order, processor_count}
use Rattle.order.specs.SortedLaws.{ltb-strict, distinct-falls, in-distinct, distinct-in, distinct-length}
use Rattle.order.specs.Class.{classes, last_that_suffices, class_for, memory_of_class, processors_in, processors_to}

-- the classes' memories fall
pub classes-fall : (o : Order) (i k : ℕ) → i < k → k < length (classes o) → get_or (classes o) k 0 < get_or (classes o) i 0
unfolding classes
classes-fall o i k l b = ltb-true _ _ (Pairwise-at _ (classes o) 0 (distinct-falls ltb ltb-strict o.memories) i k l b)

-- each memory is a class's, and each class's memory is a processor's
pub memory-in-classes : (o : Order) (m : ℕ) → In m o.memories → In m (classes o)
unfolding classes
memory-in-classes o m i = in-distinct ltb ltb-strict m o.memories i

pub class-in-memories : (o : Order) (m : ℕ) → In m (classes o) → In m o.memories
unfolding classes
class-in-memories o m i = distinct-in ltb ltb-strict m o.memories i

last-at-most : (need : ℕ) (ms : List ℕ) → last_that_suffices need ms ≤ length ms
unfolding last_that_suffices
last-at-most need [] = omega arith
last-at-most need (m ∷ ms) = go (leb need m) (last-at-most need ms)
  where
    go : (b : Bool) → last_that_suffices need ms ≤ length ms → cond b (suc (last_that_suffices need ms)) 0 ≤ suc (length ms)
    go true h = omega arith
    go false h = omega arith

-- the memories counted suffice, and the next does not
last-suffices : (need : ℕ) (ms : List ℕ) (k : ℕ) → k < last_that_suffices need ms → need ≤ get_or ms k 0
unfolding last_that_suffices
last-suffices need [] k h = absurd (omega arith)
last-suffices need (m ∷ ms) k h = go (leb need m) refl k h (last-suffices need ms)
  where
    go : (b : Bool) → leb need m ≡ b → (k : ℕ) → k < cond b (suc (last_that_suffices need ms)) 0 →
        ((k : ℕ) → k < last_that_suffices need ms → need ≤ get_or ms k 0) → need ≤ get_or (m ∷ ms) k 0
    go true e zero h f = leb-true need m e
    go true e (suc k) h f = f k (le_of_suc-le-suc h)
    go false e k h f = absurd (omega arith)

last-ends : (need : ℕ) (ms : List ℕ) → last_that_suffices need ms < length ms → get_or ms (last_that_suffices need ms) 0 < need
unfolding last_that_suffices
last-ends need [] h = absurd (omega arith)
last-ends need (m ∷ ms) h = go (leb need m) refl h (last-ends need ms)
  where
    go : (b : Bool) → leb need m ≡ b → cond b (suc (last_that_suffices need ms)) 0 < suc (length ms) →
        (last_that_suffices need ms < length ms → get_or ms (last_that_suffices need ms) 0 < need) →
        get_or (m ∷ ms) (cond b (suc (last_that_suffices need ms)) 0) 0 < need
    go true e h f = f (le_of_suc-le-suc h)
    go false e h f = leb-false need m e

module _ (o : Order) where
  -- a class is the last that suffices exactly if it suffices and the next does not
  pub class-suffices : (need k : ℕ) → k < length (classes o) → (k < class_for o need) ↔ (need ≤ get_or (classes o) k 0)
  unfolding class_for
  class-suffices need k b = (
    last-suffices need (classes o) k,
    λ h.
        elim (dec_lt k (last_that_suffices need (classes o))) [
          | yes l ↦ l
          | no l ↦ absurd (after h (omega arith))
        ],
  )
    where
      after : need ≤ get_or (classes o) k 0 → last_that_suffices need (classes o) ≤ k → ⊥
      after h l =
          elim (dec_lt (last_that_suffices need (classes o)) k) [
            | yes m ↦ omega (
              arith,
              classes-fall o (last_that_suffices need (classes o)) k m b,
              last-ends need (classes o) (omega arith),
            )
            | no m ↦
                let e : last_that_suffices need (classes o) ≡ k = omega arith in
                omega (arith, last-ends need (classes o) (omega arith), ap (λ (i : ℕ). get_or (classes o) i 0) e)
          ]

  pub class-at-most : (need : ℕ) → class_for o need ≤ length (classes o)
  unfolding class_for
  class-at-most need = last-at-most need (classes o)

  -- a smaller need has no earlier class
  pub class-antitone : (a b : ℕ) → a ≤ b → class_for o b ≤ class_for o a
  class-antitone a b h =
      elim (dec_le (class_for o b) (class_for o a)) [
        | yes l ↦ l
        | no l ↦
            let k : class_for o a < length (classes o) = omega (arith, class-at-most b) in
            let s : b ≤ get_or (classes o) (class_for o a) 0 = (class-suffices b (class_for o a) k).0 (omega arith) in
            absurd (omega (arith, (class-suffices a (class_for o a) k).1 (omega arith)))
      ]

  -- a processor is in the class that has its memory
  pub class-of-memory : (m : ℕ) → In m o.memories →
      (k : ℕ) × (k < length (classes o)) × (class_for o m ≡ suc k) × (get_or (classes o) k 0 ≡ m)
  class-of-memory m i =
      let p = in-at (classes o) 0 m (memory-in-classes o m i) in
      (p.0, p.1, exact p.0 p.1 p.2, p.2)
    where
      exact : (k : ℕ) → k < length (classes o) → get_or (classes o) k 0 ≡ m → class_for o m ≡ suc k
      exact k l e =
          let low : k < class_for o m = (class-suffices m k l).1 (omega arith) in
          elim (dec_lt (suc k) (class_for o m)) [
            | no h ↦ omega arith
            | yes h ↦
                let b : suc k < length (classes o) = omega (arith, class-at-most m) in
                absurd (omega (arith, (class-suffices m (suc k) b).0 h, classes-fall o k (suc k) (omega arith) b))
          ]

  pub memory-of-its-class : (m : ℕ) → In m o.memories → memory_of_class o (class_for o m) ≡ m
  unfolding memory_of_class
  memory-of-its-class m i = let c = class-of-memory m i in ap (λ (k : ℕ). nth (classes o) k 0) c.2 ∙ c.3

  pub class-of-processor : (m : ℕ) → In m o.memories → (1 ≤ class_for o m) × (class_for o m ≤ length (classes o))
  class-of-processor m i = (omega (arith, (class-of-memory m i).2), class-at-most m)

  -- a job fits a processor exactly if the processor's class is not beyond the job's
  pub fits-class : (need m : ℕ) → In m o.memories → (need ≤ m) ↔ (class_for o m ≤ class_for o need)
  fits-class need m i = (
    class-antitone need m,
    λ h.
        let c = class-of-memory m i in
        omega (arith, (class-suffices need c.0 c.1).0 (omega (arith, c.2)), c.3),
  )

  -- a job that fits some processor has a class
  pub class-some : (need m : ℕ) → In m o.memories → need ≤ m → 1 ≤ class_for o need
  class-some need m i h = omega (arith, class-antitone need m h, class-of-processor m i)

  -- a need of 0 belongs to the last class
  pub class-of-zero : class_for o 0 ≡ length (classes o)
  class-of-zero =
      elim (dec_lt (class_for o 0) (length (classes o))) [
        | no h ↦ omega (arith, class-at-most 0)
        | yes h ↦ absurd (omega (arith, (class-suffices 0 (class_for o 0) h).1 (omega arith)))
      ]

-- one of the classes 1 to n is c, or none is
only-class : (c n : ℕ) → 1 ≤ c → sum n (λ i. only (eqb c (suc i)) 1) ≡ only (leb c n) 1
unfolding sum
only-class c zero h = rw (lt-leb c 0 h)
only-class c (suc n) h =
    elim (ℕ_discrete c (suc n)) [
      | yes e ↦
          rw (only-class c n h, eq-eqb c (suc n) e, lt-leb c n (omega arith), le-leb c (suc n) (omega arith)) refl
      | no e ↦
          elim (dec_le c n) [
            | yes l ↦ rw (only-class c n h, ne_eqb c (suc n) e, le-leb c n l, le-leb c (suc n) (omega arith)) refl
            | no l ↦ rw (only-class c n h, ne_eqb c (suc n) e, lt-leb c n (omega arith), lt-leb c (suc n) (omega arith)) refl
          ]
    ]

-- the processors of the first k classes are those whose class is at most k
pub processors_to-is : (o : Order) (k : ℕ) → processors_to o k ≡ total o.memories (λ m. only (leb (class_for o m) k) 1)
unfolding processors_to processors_in
processors_to-is o k =
    sum-total k o.memories (λ i m. only (eqb (class_for o m) (suc i)) 1)
    ∙ total-cong o.memories _ _ (in-All _ o.memories (λ m i. only-class (class_for o m) k (class-of-processor o m i).0))

module _ (o : Order) where
  -- no two classes have one memory
  classes-apart : (i k : ℕ) → i < length (classes o) → k < length (classes o) → get_or (classes o) i 0 ≡ get_or (classes o) k 0 → i ≡ k
  classes-apart i k m l e =
      elim (dec_lt i k) [
        | yes h ↦ absurd (omega (arith, classes-fall o i k h l))
        | no h ↦
            elim (dec_lt k i) [
              | yes g ↦ absurd (omega (arith, classes-fall o k i g m))
              | no g ↦ omega arith
            ]
      ]

  -- each class has a processor
  pub processors_in-some : (k : ℕ) → k < length (classes o) → 1 ≤ processors_in o (suc k)
  unfolding processors_in
  processors_in-some k l =
      let i = class-in-memories o (get_or (classes o) k 0) (at_in (classes o) 0 k l) in
      let c = class-of-memory o (get_or (classes o) k 0) i in
      let e : class_for o (get_or (classes o) k 0) ≡ suc k = omega (arith, c.2, classes-apart c.0 k c.1 l c.3) in
      omega (
        arith,
        total-ge o.memories (λ m. only (eqb (class_for o m) (suc k)) 1) (get_or (classes o) k 0) i,
        ap (λ b. only b 1) (eq-eqb _ _ e),
      )

  -- the processors of a class are those that have its memory
  pub processors_in-is : (k : ℕ) → k < length (classes o) →
      processors_in o (suc k) ≡ total o.memories (λ m. only (eqb m (memory_of_class o (suc k))) 1)
  unfolding memory_of_class processors_in
  processors_in-is k l =
      total-cong o.memories (λ m. only (eqb (class_for o m) (suc k)) 1) (λ m. only (eqb m (get_or (classes o) k 0)) 1)
      (in-All _ o.memories has)
    where
      has : (m : ℕ) → In m o.memories → only (eqb (class_for o m) (suc k)) 1 ≡ only (eqb m (get_or (classes o) k 0)) 1
      has m i =
          let c = class-of-memory o m i in
          elim (ℕ_discrete m (get_or (classes o) k 0)) [
            | yes e ↦
                let same : class_for o m ≡ suc k = omega (arith, c.2, classes-apart c.0 k c.1 l (c.3 ∙ e)) in
                rw (eq-eqb (class_for o m) (suc k) same, eq-eqb m (get_or (classes o) k 0) e) refl
            | no ne ↦
                let other : class_for o m ≢ suc k
                = λ e. let same : c.0 ≡ k = omega (arith, c.2) in ne (sym c.3 ∙ ap (λ (j : ℕ). get_or (classes o) j 0) same) in
                rw (ne_eqb (class_for o m) (suc k) other, ne_eqb m (get_or (classes o) k 0) ne) refl
          ]

  -- none is beyond the last class
  pub processors_in-none : processors_in o (suc (length (classes o))) ≡ 0
  unfolding processors_in
  processors_in-none =
      total-none o.memories _
      (in-All _ o.memories (λ m i. ap (λ (b : Bool). only b 1)
      (ne_eqb (class_for o m) (suc (length (classes o))) (λ e. omega (arith, (class-of-processor o m i).1)))))

  pub processors_to-some : (k : ℕ) → k < length (classes o) → 1 ≤ processors_to o (suc k)
  unfolding processors_to sum
  processors_to-some k l = omega (arith, processors_in-some k l)

  -- no more classes than processors, and no more processors in a class, or in the first classes, than there are
  pub classes-few : length (classes o) ≤ processor_count o
  unfolding classes
  classes-few = distinct-length ltb o.memories

  pub processors_to-few : (k : ℕ) → processors_to o k ≤ processor_count o
  processors_to-few k =
      omega (
        arith,
        processors_to-is o k,
        total-most o.memories (λ m. only (leb (class_for o m) k) 1) 1
            (in-All _ o.memories (λ m i. only-le (leb (class_for o m) k) 1)),
      )

  pub processors_in-few : (k : ℕ) → processors_in o k ≤ processor_count o
  unfolding processors_in
  processors_in-few k =
      omega (
        arith,
        total-most o.memories (λ m. only (eqb (class_for o m) k) 1) 1
            (in-All _ o.memories (λ m i. only-le (eqb (class_for o m) k) 1)),
      )
