-- Longer times, and nothing else: where jobs take D minutes more in all, the least reach is not smaller, and at most D larger. Classes,
-- their processors and the due times mention no time, so that each term of the formula is compared with itself.
use Rattle.std.specs.Prelude.{ℕ, suc, ◌+◌, ◌-◌, ◌*◌, ◌≤◌, ◌≡◌, Bool, true, false, ℤ, length}
use Rattle.std.proofs.Math.Path.{refl, ap}
use Rattle.std.proofs.Common.{sym, subst, mul-le-mul_right}
use mathlib.Core.List.{List, [], ◌∷◌, map}
use native.Mathlib.Omega.{arith}
use Rattle.std.proofs.Math.Dec.{leb, eqb}
use Rattle.std.specs.Int.Signed.{lt_z}
use Rattle.sums.specs.Lists.{All, In, total, only}
use Rattle.sums.specs.Members.{All-map}
use Rattle.order.specs.Order.{Job, Order}
use Rattle.order.specs.Sorted.{distinct, due_times}
use Rattle.order.specs.Class.{classes, class_for, class_of, processors_in, processors_to}
use Rattle.order.proofs.ClassLaws.{processors_to-some}
use Rattle.order.specs.Lead.{lead}
use Rattle.profile.specs.Search.{choices}
use Rattle.profile.specs.Least.{owed_at, weight_at, weight_from, least_reach}
use Rattle.profile.specs.LeastLaws.{reach-le, times-reached, weights-reached}
use Rattle.profile.proofs.MinutesLaws.{only-most, only-from}

-- jobs that differ in time alone, each at least as long
abbrev pub Longer : List Job → List Job → Type 0
Longer [] [] = Unit {0}
Longer [] (k ∷ ks) = ⊥
Longer (j ∷ js) [] = ⊥
Longer (j ∷ js) (k ∷ ks) = ((k.due ≡ j.due) × (k.need ≡ j.need) × (j.time ≤ k.time)) × Longer js ks

-- the minutes of all jobs
abbrev pub minutes_of : List Job → ℕ
minutes_of js = total js (λ (job : Job). job.time)

-- what is known of two differences is so behind a test
only-rises-by : (b : Bool) (x y t u : ℕ) → y + t ≤ x + u → only b y + only b t ≤ only b x + only b u
only-rises-by true x y t u l = l
only-rises-by false x y t u l = omega arith

only_part : (b : Bool) (t u : ℕ) → t ≤ u → only b u + t ≤ only b t + u
only_part true t u l = omega arith
only_part false t u l = omega arith

-- sums over the jobs whose need passes a test: what holds of each two jobs holds of the sums
module _ (test : ℕ → Bool) where
  abbrev passing : (Job → ℕ) → List Job → ℕ
  passing f js = total js (λ (job : Job). only (test job.need) (f job))

  sums-rise : (f : Job → ℕ) (js ks : List Job) → Longer js ks →
      ((j k : Job) → k.due ≡ j.due → j.time ≤ k.time → f j ≤ f k) → passing f js ≤ passing f ks
  sums-rise f [] [] h each = omega arith
  sums-rise f [] (k ∷ ks) h each = absurd h
  sums-rise f (j ∷ js) [] h each = absurd h
  sums-rise f (j ∷ js) (k ∷ ks) h each =
      omega (
        arith,
        ap (λ (n : ℕ). only (test n) (f k)) h.0.1,
        only-most (test j.need) (each j k h.0.0 h.0.2),
        sums-rise f js ks h.1 each,
      )

  sums-rise-by : (f : Job → ℕ) (js ks : List Job) → Longer js ks →
      ((j k : Job) → k.due ≡ j.due → j.time ≤ k.time → f k + j.time ≤ f j + k.time) →
      passing f ks + passing (λ (job : Job). job.time) js ≤ passing f js + passing (λ (job : Job). job.time) ks
  sums-rise-by f [] [] h each = omega arith
  sums-rise-by f [] (k ∷ ks) h each = absurd h
  sums-rise-by f (j ∷ js) [] h each = absurd h
  sums-rise-by f (j ∷ js) (k ∷ ks) h each =
      omega (
        arith,
        ap (λ (n : ℕ). only (test n) (f k)) h.0.1,
        ap (λ (n : ℕ). only (test n) k.time) h.0.1,
        only-rises-by (test j.need) (f j) (f k) j.time k.time (each j k h.0.0 h.0.2),
        sums-rise-by f js ks h.1 each,
      )

  -- the times of some jobs grow by no more than those of all
  part-rises : (js ks : List Job) → Longer js ks →
      passing (λ (job : Job). job.time) ks + minutes_of js ≤ passing (λ (job : Job). job.time) js + minutes_of ks
  part-rises [] [] h = omega arith
  part-rises [] (k ∷ ks) h = absurd h
  part-rises (j ∷ js) [] h = absurd h
  part-rises (j ∷ js) (k ∷ ks) h =
      omega (
        arith,
        ap (λ (n : ℕ). only (test n) k.time) h.0.1,
        only_part (test j.need) j.time k.time h.0.2,
        part-rises js ks h.1,
      )

-- the times of a class, and those behind it, are those from it on
from-class : (class : ℕ → ℕ) (k : ℕ) (js : List Job) →
    passing (λ n. leb k (class n)) (λ (job : Job). job.time) js
    ≡ passing (λ n. eqb (class n) k) (λ (job : Job). job.time) js
    + passing (λ n. leb (suc k) (class n)) (λ (job : Job). job.time) js
from-class class k [] = refl
from-class class k (j ∷ js) = omega (arith, only-from (class j.need) k j.time, from-class class k js)

-- the due times are the same
dues-same : (js ks : List Job) → Longer js ks → map (λ (job : Job). job.due) ks ≡ map (λ (job : Job). job.due) js
dues-same [] [] h = refl
dues-same [] (k ∷ ks) h = absurd h
dues-same (j ∷ js) [] h = absurd h
dues-same (j ∷ js) (k ∷ ks) h = cc (h.0.0, dues-same js ks h.1)

module _ (top : ℤ) (ms : List ℕ) (js ks : List Job) (h : Longer js ks) where
  abbrev o : Order
  o = record { memories = ms; jobs = js }

  abbrev o' : Order
  o' = record { memories = ms; jobs = ks }

  choices-same : (k : ℕ) → choices k (due_times o') ≡ choices k (due_times o)
  unfolding due_times
  choices-same k = ap (λ (ds : List ℤ). choices k (distinct lt_z ds)) (dues-same js ks h)

  processors-same : (k : ℕ) → processors_to o' k ≡ processors_to o k
  unfolding processors_to processors_in class_for classes
  processors-same k = refl

  classes-same : length (classes o') ≡ length (classes o)
  unfolding classes
  classes-same = refl

  -- what one class weighs
  class-rises : (k g : ℕ) → weight_at top o k g ≤ weight_at top o' k g
  unfolding weight_at processors_in class_of class_for classes
  class-rises k g =
      omega (
        arith,
        sums-rise (λ n. eqb (class_for o n) k) (owed_at top g) js ks h
            (λ i j d t. rw d (omega arith)),
      )

  class-rises-by : (k g : ℕ) →
      weight_at top o' k g + passing (λ n. eqb (class_for o n) k) (λ (job : Job). job.time) js
      ≤ weight_at top o k g + passing (λ n. eqb (class_for o n) k) (λ (job : Job). job.time) ks
  unfolding weight_at processors_in class_of class_for classes
  class-rises-by k g =
      omega (
        arith,
        sums-rise-by (λ n. eqb (class_for o n) k) (owed_at top g) js ks h
            (λ i j d t. rw d (omega arith)),
      )

  -- what a profile weighs
  weight-rises : (k : ℕ) (es : List ℤ) → weight_from top o k es ≤ weight_from top o' k es
  unfolding weight_from
  weight-rises k [] = omega arith
  weight-rises k (e ∷ es) = omega (arith, class-rises k (lead top e), weight-rises (suc k) es)

  weight-rises-from : (k : ℕ) (es : List ℤ) →
      weight_from top o' k es + passing (λ n. leb k (class_for o n)) (λ (job : Job). job.time) js
      ≤ weight_from top o k es + passing (λ n. leb k (class_for o n)) (λ (job : Job). job.time) ks
  unfolding weight_from
  weight-rises-from k [] =
      omega (arith, sums-rise (λ n. leb k (class_for o n)) (λ (job : Job). job.time) js ks h (λ i j d t. t))
  weight-rises-from k (e ∷ es) =
      omega (
        arith,
        class-rises-by k (lead top e),
        weight-rises-from (suc k) es,
        from-class (class_for o) k js,
        from-class (class_for o) k ks,
      )

  -- the least reach is not smaller
  pub reach-rises : least_reach top o ≤ least_reach top o'
  reach-rises =
      reach-le o top (least_reach top o') (ends-rise js ks h (times-reached o' top (least_reach top o') (omega arith)))
      (λ k l es i.
      omega (
        arith,
        weight-rises 1 es,
        weights-reached o' top (least_reach top o') (omega arith) k (omega (arith, classes-same)) es
            (subst (λ (l : List (List ℤ)). In es l) (sym (choices-same (suc k))) i),
        ap (λ (m : ℕ). m * least_reach top o') (processors-same (suc k)),
      ))
    where
      ends-rise : (js ks : List Job) → Longer js ks →
          All (λ (job : Job). job.time + lead top job.due ≤ least_reach top o') ks →
          All (λ (job : Job). job.time + lead top job.due ≤ least_reach top o') js
      ends-rise [] [] h a = tt
      ends-rise [] (k ∷ ks) h a = tt
      ends-rise (j ∷ js) [] h a = absurd h
      ends-rise (j ∷ js) (k ∷ ks) h a =
          (omega (arith, a.0, h.0.2, ap (lead top) h.0.0), ends-rise js ks h.1 a.1)

  -- and larger by at most what the jobs take more in all
  pub reach-rises-by : (d : ℕ) → minutes_of ks ≡ minutes_of js + d → least_reach top o' ≤ least_reach top o + d
  reach-rises-by d e =
      reach-le o' top (least_reach top o + d) (ends-rise d js ks h e (times-reached o top (least_reach top o) (omega arith)))
      (λ k l es i.
      omega (
        arith,
        e,
        weight-rises-from 1 es,
        part-rises (λ n. leb 1 (class_for o n)) js ks h,
        weights-reached o top (least_reach top o) (omega arith) k (omega (arith, classes-same)) es
            (subst (λ (l : List (List ℤ)). In es l) (choices-same (suc k)) i),
        ap (λ (m : ℕ). m * (least_reach top o + d)) (processors-same (suc k)),
        mul-le-mul_right d (processors_to-some o k (omega (arith, classes-same))),
      ))
    where
      no-shorter : (js ks : List Job) → Longer js ks → minutes_of js ≤ minutes_of ks
      no-shorter [] [] h = omega arith
      no-shorter [] (k ∷ ks) h = omega arith
      no-shorter (j ∷ js) [] h = absurd h
      no-shorter (j ∷ js) (k ∷ ks) h = omega (arith, h.0.2, no-shorter js ks h.1)

      ends-rise : (d : ℕ) (js ks : List Job) → Longer js ks → minutes_of ks ≡ minutes_of js + d →
          All (λ (job : Job). job.time + lead top job.due ≤ least_reach top o) js →
          All (λ (job : Job). job.time + lead top job.due ≤ least_reach top o + d) ks
      ends-rise d [] [] h e a = tt
      ends-rise d [] (k ∷ ks) h e a = absurd h
      ends-rise d (j ∷ js) [] h e a = tt
      ends-rise d (j ∷ js) (k ∷ ks) h e a = (
        omega (arith, e, a.0, h.0.2, ap (lead top) h.0.0, no-shorter js ks h.1),
        All-map _ _ ks (λ (job : Job) x. omega (arith, x, h.0.2))
            (ends-rise (d - (k.time - j.time)) js ks h.1 (omega (arith, e, h.0.2, no-shorter js ks h.1)) a.1),
      )
