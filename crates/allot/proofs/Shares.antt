-- Where a stretch begins, how large a room can be, and one processor more of a class.
use Prim.Native.Nat.{ℕ, zero, suc, pred, ◌+◌, ◌-◌, ◌*◌, ◌≤◌, ◌<◌}
use mathlib.Core.Path.{◌≡◌, refl, sym, ap, ◌∙◌, subst}
use mathlib.Core.Bool.{Bool}
use mathlib.Core.Logic.{◌≢◌}
use mathlib.Core.List.{List, [], ◌∷◌, ◌++◌}
use native.Mathlib.Decide.{dec_le, ℕ_discrete}
use native.Mathlib.Nat.{mul-le-mul}
use native.Mathlib.Numerals.{add-one}
use native.Mathlib.Omega.{arith}
use borrow.Author.Tests.{le-leb, lt-leb}
use lib.Dec.{leb}
use lib.ListN.{length, get_or, set, take, replicate, length-set}
use lib.Seq.{get_or-set_same, get_or-set_other, take-suc}
use Rattle.std.specs.List.{sum as sum_of}
use Rattle.std.proofs.lemmas.List.Sums.{sum_by_more}
use Rattle.sums.specs.Sum.{sum}
use Rattle.sums.specs.Gate.{sum_mono}
use Rattle.sums.specs.Lists.{total, only, nth}
use Rattle.sums.specs.Totals.{total-append}
use Rattle.sums.specs.Members.{All-at}
use Rattle.order.specs.Order.{Numbers}
use Rattle.allot.specs.Tables.{count_of, Kinds, Counted}

-- the next stretch begins where this one ends
pub next_start : (marks : List ℕ) (s : ℕ) → nth marks (s + 1) 0 ≡ get_or marks s 0
next_start marks s = ap (λ (k : ℕ). nth marks k 0) (add-one s)

-- rooms are small
pub room_small : (p m : ℕ) → p ≤ 16 → m ≤ 176000016 → p * m ≤ 2816000256
room_small p m h l = mul-le-mul {n₂ = 16} {m₂ = 176000016} h l

-- the counts of the first k classes as the code adds them up
pub sum-taken : (xs : List ℕ) (k : ℕ) → k ≤ length xs → sum_of (take k xs) ≡ sum k (count_of xs)
unfolding sum
sum-taken xs zero l = refl
sum-taken xs (suc k) l =
    rw (← add-one k) (sum_by_more (λ x. x) xs k 0 l ∙ ap (λ (n : ℕ). n + get_or xs k 0) (sum-taken xs k (omega arith)))

-- they are few where those of more classes are
pub taken-few : (xs : List ℕ) (k last : ℕ) → k ≤ last → last ≤ length xs → sum last (count_of xs) ≤ 16 → sum_of (take k xs) ≤ 16
taken-few xs k last l h few = omega (arith, sum-taken xs k (omega arith), sum_mono k last (count_of xs) l)

-- one more at place c, of the first k places
one_more : (xs : List ℕ) (c : ℕ) → c < length xs → (k : ℕ) →
    sum k (count_of (set xs c (get_or xs c 0 + 1))) ≡ sum k (count_of xs) + only (leb (suc c) k) 1
unfolding sum
one_more xs c l zero = rw (lt-leb (suc c) 0 (omega arith)) (omega arith)
one_more xs c l (suc k) =
    elim (ℕ_discrete k c) [
      | yes e ↦
          rw (le-leb (suc c) (suc k) (omega arith))
          (omega (
            arith,
            one_more xs c l k,
            ap (λ (b : Bool). only b 1) (lt-leb (suc c) k (omega arith)),
            ap (λ (i : ℕ). get_or (set xs c (get_or xs c 0 + 1)) i 0) e,
            get_or-set_same xs c (get_or xs c 0 + 1) 0 l,
            ap (λ (i : ℕ). get_or xs i 0) e,
          ))
      | no e ↦
          omega (
            arith,
            one_more xs c l k,
            get_or-set_other xs c k (get_or xs c 0 + 1) 0 e,
            test (λ h. e h),
          )
    ]
  where
    test : k ≢ c → only (leb (suc c) (suc k)) 1 ≡ only (leb (suc c) k) 1
    test ne =
        elim (dec_le (suc c) k) [
          | yes h ↦ rw (le-leb (suc c) k h, le-leb (suc c) (suc k) (omega arith)) refl
          | no h ↦ rw (lt-leb (suc c) k (omega arith), lt-leb (suc c) (suc k) (omega (arith, ne))) refl
        ]

-- one processor more, of class c + 1
pub counted-more : (counts kinds ps : List ℕ) (i c : ℕ) → c < length counts → get_or kinds (pred i) 0 ≡ suc c →
    Counted counts kinds ps → Counted (set counts c (get_or counts c 0 + 1)) kinds (ps ++ (i ∷ []))
counted-more counts kinds ps i c l e C k h =
    omega (
      arith,
      one_more counts c l k,
      C k h,
      total-append ps (i ∷ []) (λ i. only (leb (get_or kinds (pred i) 0) k) 1),
      ap (λ (z : ℕ). only (leb z k) 1) e,
    )

pub counted_none : (counts kinds : List ℕ) → ((k : ℕ) → get_or counts k 0 ≡ 0) → Counted counts kinds []
unfolding sum
counted_none counts kinds z k h = nothing k
  where
    nothing : (k : ℕ) → sum k (count_of counts) ≡ 0
    nothing zero = refl
    nothing (suc k) = omega (arith, nothing k, z k)

-- the k-th of the processors has a class
pub kind_at : (S : ℕ) (kinds ps : List ℕ) (k : ℕ) → Kinds S kinds ps → k < length ps →
    Numbers 16 (get_or ps k 0) × ((1 ≤ get_or kinds (get_or ps k 0 - 1) 0) × (get_or kinds (get_or ps k 0 - 1) 0 ≤ S))
kind_at S kinds ps k h l =
    let g = All-at _ ps 0 h k l in
    let p : pred (get_or ps k 0) ≡ get_or ps k 0 - 1 = omega arith in
    rw p at g

-- an array of zeros, also past its end
pub zeros-at : (m i : ℕ) → ◌≡◌ {A = ℕ} (get_or (replicate m 0) i 0) 0
zeros-at zero i = refl
zeros-at (suc m) zero = refl
zeros-at (suc m) (suc i) = zeros-at m i

-- what the first k processors have counted
pub record Counting (kinds list counts : List ℕ) (k : ℕ) : Type 0 where
  pub size : length counts ≡ 16
  pub counted : Counted counts kinds (take k list)
  pub small : (i : ℕ) → get_or counts i 0 ≤ k

pub counting-none : (kinds list counts : List ℕ) → length counts ≡ 16 → ((i : ℕ) → get_or counts i 0 ≡ 0) →
    Counting kinds list counts 0
counting-none kinds list counts e z =
    record { size = e; counted = counted_none counts kinds z; small = λ i. omega (arith, z i) }

pub counting_more : (kinds list counts : List ℕ) (k i c : ℕ) → k < length list → get_or list k 0 ≡ i → 1 ≤ i →
    c < 16 → get_or kinds (i - 1) 0 ≡ c + 1 → Counting kinds list counts k →
    Counting kinds list (set counts c (get_or counts c 0 + 1)) (k + 1)
counting_more kinds list counts k i c l e some b f C =
    record {
      size = length-set counts c (get_or counts c 0 + 1) ∙ C.size;
      counted =
          subst (Counted (set counts c (get_or counts c 0 + 1)) kinds) (sym taken)
          (counted-more counts kinds (take k list) i c (omega (arith, C.size)) kind C.counted);
      small = λ x.
          elim (ℕ_discrete x c) [
            | yes z ↦ rw z (omega (arith, get_or-set_same counts c (get_or counts c 0 + 1) 0 (omega (arith, C.size)), C.small c))
            | no z ↦ omega (arith, get_or-set_other counts c x (get_or counts c 0 + 1) 0 z, C.small x)
          ];
    }
  where
    taken : take (k + 1) list ≡ take k list ++ (i ∷ [])
    taken =
        ap (λ (n : ℕ). take n list) (add-one k) ∙ take-suc list k 0 l ∙ ap (λ (x : ℕ). take k list ++ (x ∷ [])) e

    kind : get_or kinds (pred i) 0 ≡ suc c
    kind =
        let p : pred i ≡ i - 1 = omega arith in
        ap (λ (x : ℕ). get_or kinds x 0) p ∙ omega (arith, f)

-- the last of the m rooms of each of the first s stretches, together
abbrev pub lasts : List ℕ → (m s : ℕ) → ℕ
lasts room m s = sum s (λ s. get_or room (s * m + (m - 1)) 0)

pub idle-none : (f : ℕ → ℕ) → 0 ≡ sum 0 f
unfolding sum
idle-none f = refl

pub idle-next : (room : List ℕ) (m s total : ℕ) → total ≡ lasts room m s →
    total + get_or room (s * m + (m - 1)) 0 ≡ lasts room m (s + 1)
unfolding sum
idle-next room m s total e = rw add-one (omega (arith, e))

pub idle-step : (room : List ℕ) (m s q : ℕ) → s < q → lasts room m s + get_or room (s * m + (m - 1)) 0 ≤ lasts room m q
idle-step room m s q l = omega (
  arith,
  idle-next room m s (lasts room m s) refl,
  sum_mono (s + 1) q (λ s. get_or room (s * m + (m - 1)) 0) (omega arith),
)
