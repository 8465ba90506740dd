-- The rows of filling and the places of their processors: rows stand by place, then by `from`; and a row's processor is
-- among the first that its job may use, where the shares up to each job's have room on these.
use Rattle.std.specs.Prelude.{ℕ, zero, suc, ◌+◌, ◌-◌, ◌*◌, ◌≤◌, ◌<◌, ◌≡◌, refl, List, [], ◌∷◌, ◌⊎◌, ◌≢◌, length, get_or}
use Rattle.std.proofs.Common.{ap, ◌∙◌, subst, inl, inr, arith, le_of_suc-le-suc, lt_of_mul-lt-mul_right, eq-eqb, ne_eqb}
use Rattle.sums.specs.Lists.{All, Pairwise}
use Rattle.sums.specs.Members.{All-map, All-both, All-at, All-from}
use Rattle.plan.specs.Plan.{Row}
use Rattle.wrap.specs.Layout.{Share}
use Rattle.wrap.specs.Filled.{Filled, no-processor, no-share, ends-before, ends_there, goes_on}
use Rattle.wrap.specs.FilledRows.{filled-processors}
use Rattle.wrap.specs.RowOrder.{place_in}

-- the processors stand at the places u, u + 1, ..; `named i` is the one at place i
abbrev pub Placed : (place named : ℕ → ℕ) → ℕ → List ℕ → Type 0
Placed place named u [] = Unit {0}
Placed place named u (p ∷ ps) = (place p ≡ u) × (p ≡ named u) × Placed place named (suc u) ps

placed-from : (place named : ℕ → ℕ) (u : ℕ) (ps : List ℕ) →
    ((i : ℕ) → i < length ps → (place (get_or ps i 0) ≡ u + i) × (get_or ps i 0 ≡ named (u + i))) → Placed place named u ps
placed-from place named u [] h = tt
placed-from place named u (p ∷ ps) h =
    let e : u + 0 ≡ u = omega arith in
    let first = h 0 (omega arith) in (
      first.0 ∙ e,
      first.1 ∙ ap named e,
      placed-from place named (suc u) ps (λ i l.
          let n : u + suc i ≡ suc u + i = omega arith in
          let next = h (suc i) (omega arith) in
          (next.0 ∙ n, next.1 ∙ ap named n)),
    )

-- the member at place i stands there, where no member stands twice
place_in-at : (xs : List ℕ) → Pairwise (λ x y. x ≢ y) xs → (i : ℕ) → i < length xs → place_in xs (get_or xs i 0) ≡ i
unfolding place_in
place_in-at [] d i l = absurd (omega arith)
place_in-at (x ∷ xs) d zero l = rw (eq-eqb x x refl)
place_in-at (x ∷ xs) d (suc i) l =
    let b = le_of_suc-le-suc l in
    rw (ne_eqb x (get_or xs i 0) (All-at (λ y. x ≢ y) xs 0 d.0 i b)) (ap suc (place_in-at xs d.1 i b))

pub placed : (xs : List ℕ) → Pairwise (λ x y. x ≢ y) xs → Placed (place_in xs) (λ i. get_or xs i 0) 0 xs
placed xs d =
    placed-from (place_in xs) (λ i. get_or xs i 0) 0 xs
    (λ i l. let e : i ≡ 0 + i = omega arith in (place_in-at xs d i l ∙ e, ap (λ (i : ℕ). get_or xs i 0) e))

-- each member has a place, and stands there
pub place_in-members : (xs : List ℕ) → Pairwise (λ x y. x ≢ y) xs →
    All (λ x. (place_in xs x < length xs) × (get_or xs (place_in xs x) 0 ≡ x)) xs
place_in-members xs d =
    All-from _ xs 0 (λ i l.
    let e = place_in-at xs d i l in
    (omega arith, ap (λ (i : ℕ). get_or xs i 0) e))

-- by place, then by `from`
abbrev pub Stands : (ℕ → ℕ) → Row → Row → Type 0
Stands place r s = (place r.processor < place s.processor) ⊎ ((r.processor ≡ s.processor) × (r.to ≤ s.from))

-- shares, laid out from the minute S of all processors' minutes: each ends on the processors that its job may use, the
-- first `room` of them, and none is empty
abbrev pub Roomy : (span : ℕ) (room : ℕ → ℕ) → ℕ → List Share → Type 0
Roomy span room S [] = Unit {0}
Roomy span room S (x ∷ xs) =
    (0 < x.minutes) × (S + x.minutes ≤ room x.job * span) × Roomy span room (S + x.minutes) xs

module _ {start end : ℕ} (place named : ℕ → ℕ) where
  -- a row's processor is among the first that its job may use: u processors are full, and y minutes of the next
  pub filled-room : {ps : List ℕ} {at : ℕ} {xs : List Share} {rows : List Row} (span : ℕ) (room : ℕ → ℕ) →
      start + span ≡ end → Filled start end ps at xs rows → (u y S : ℕ) → at ≡ start + y → S ≡ u * span + y →
      Placed place named u ps → Roomy span room S xs → All (λ (r : Row). place r.processor < room r.job) rows
  filled-room span room whole no-processor u y S e f h k = tt
  filled-room span room whole no-share u y S e f h k = tt
  filled-room span room whole (ends-before {x} l t) u y S e f h k = (
    rw h.0 (lt_of_mul-lt-mul_right span (omega (arith, k.0, k.1))),
    filled-room span room whole t u (y + x.minutes) (S + x.minutes) (omega arith) (omega arith) h k.2,
  )
  filled-room span room whole (ends_there {x} l t) u y S e f h k = (
    rw h.0 (lt_of_mul-lt-mul_right span (omega (arith, k.0, k.1))),
    filled-room span room whole t (suc u) 0 (S + x.minutes) (omega arith) (omega arith) h.2 k.2,
  )
  filled-room span room whole (goes_on {at} {x} {xs} l t) u y S e f h k =
      let same : S + x.minutes ≡ suc u * span + (at + x.minutes - end) = omega arith in (
        rw h.0 (lt_of_mul-lt-mul_right span (omega (arith, k.0, k.1))),
        filled-room span room whole t (suc u) 0 (suc u * span) (omega arith) (omega arith) h.2
            (omega arith, omega (arith, k.1), subst (λ (z : ℕ). Roomy span room z xs) same k.2),
      )

-- of a list whose members are distinct, the places rise
places_behind : (x : ℕ) (ys : List ℕ) → All (λ y. x ≢ y) ys →
    Pairwise (λ y z. place_in ys y < place_in ys z) ys →
    Pairwise (λ y z. place_in (x ∷ ys) y < place_in (x ∷ ys) z) ys
unfolding place_in
places_behind x ys d h = go ys d h
  where
    go : (zs : List ℕ) → All (λ y. x ≢ y) zs → Pairwise (λ y z. place_in ys y < place_in ys z) zs →
        Pairwise (λ y z. place_in (x ∷ ys) y < place_in (x ∷ ys) z) zs
    go [] d h = tt
    go (z ∷ zs) d h = (
      All-map _ _ zs (λ w k. rw (ne_eqb x z d.0, ne_eqb x w k.0) (omega (arith, k.1))) (All-both _ _ zs d.1 h.0),
      go zs d.1 h.1,
    )

pub places-rise : (xs : List ℕ) → Pairwise (λ x y. x ≢ y) xs → Pairwise (λ x y. place_in xs x < place_in xs y) xs
unfolding place_in
places-rise [] d = tt
places-rise (x ∷ xs) d = (
  All-map _ _ xs (λ y ne. rw (eq-eqb x x refl, ne_eqb x y ne) (omega arith)) d.0,
  places_behind x xs d.0 (places-rise xs d.1),
)

-- a row of the processor p behind the minute `at`, or on a later processor
abbrev Behind : (ℕ → ℕ) → ℕ → ℕ → Row → Type 0
Behind place p at r = ((p ≡ r.processor) × (at ≤ r.from)) ⊎ (place p < place r.processor)

module _ {start end : ℕ} (place : ℕ → ℕ) where
  -- on processors behind p, each row is
  later : {ps : List ℕ} {at : ℕ} {xs : List Share} {rows : List Row} → Filled start end ps at xs rows → (p : ℕ) →
      All (λ q. place p < place q) ps → All (λ (r : Row). place p < place r.processor) rows
  later t p h = filled-processors (λ q. place p < place q) t h

  filled-behind : {p : ℕ} {ps : List ℕ} {at : ℕ} {xs : List Share} {rows : List Row} → Filled start end (p ∷ ps) at xs rows →
      Pairwise (λ q r. place q < place r) (p ∷ ps) → All (Behind place p at) rows
  filled-behind no-share h = tt
  filled-behind (ends-before {p} {at} {x} {rows} l t) h =
      (inl (refl, omega arith), All-map _ _ rows weaker (filled-behind t h))
    where
      weaker : (r : Row) → Behind place p (at + x.minutes) r → Behind place p at r
      weaker r (inl w) = inl (w.0, omega (arith, w.1))
      weaker r (inr w) = inr w
  filled-behind (ends_there {p} {rows} l t) h =
      (inl (refl, omega arith), All-map _ _ rows (λ (r : Row) w. inr w) (later t p h.0))
  filled-behind (goes_on {p} {rows} l t) h =
      (inl (refl, omega arith), All-map _ _ rows (λ (r : Row) w. inr w) (later t p h.0))

  -- rows stand by place, then by `from`
  pub filled-stands-rising : {ps : List ℕ} {at : ℕ} {xs : List Share} {rows : List Row} → Filled start end ps at xs rows →
      Pairwise (λ q r. place q < place r) ps → Pairwise (Stands place) rows
  filled-stands-rising no-processor h = tt
  filled-stands-rising no-share h = tt
  filled-stands-rising (ends-before {p} {at} {x} {rows} l t) h =
      (All-map _ _ rows one (filled-behind t h), filled-stands-rising t h)
    where
      one : (r : Row) → Behind place p (at + x.minutes) r →
          (place p < place r.processor) ⊎ ((p ≡ r.processor) × (at + x.minutes ≤ r.from))
      one r (inl w) = inr w
      one r (inr w) = inl w
  filled-stands-rising (ends_there {p} {rows} l t) h =
      (All-map _ _ rows (λ (r : Row) w. inl w) (later t p h.0), filled-stands-rising t h.1)
  filled-stands-rising (goes_on {p} {rows} l t) h =
      (All-map _ _ rows (λ (r : Row) w. inl w) (later t p h.0), filled-stands-rising t h.1)
