-- What of a row lies in a stretch of time. Document 01: "two rows of one job never overlap, nor two rows of one processor".
-- Rows that never overlap fill a stretch at most once.
use Rattle.std.specs.Prelude.{ℕ, zero, suc, ◌+◌, ◌-◌, ◌≤◌, ◌<◌, min, max, ◌≡◌, Bool, true, List, [], ◌∷◌, eqb}
use Rattle.std.proofs.Common.{sym, ◌∙◌, inl, inr, arith, le_of_lt, eqb-true}
use Rattle.sums.specs.Sum.{sum}
use Rattle.sums.specs.Lists.{All, Pairwise, total, only, keep}
use Rattle.sums.specs.Members.{All-map}
use Rattle.sums.specs.Kept.{keep_all, keep-passing, keep-total}
use Rattle.sums.specs.Pairs.{Pairwise-map}
use Rattle.plan.specs.Plan.{Row, Forward, Apart}

-- how much of the row lies in the stretch from a to b
abbrev pub clip : ℕ → ℕ → Row → ℕ
clip a b r = min r.to b - max r.from a

-- the three parts into which [f, t) splits [a, b): v is at most min f b, and u at least max t a
three-of : (a b f t u v : ℕ) → f ≤ t → v ≤ f → v ≤ b → t ≤ u → a ≤ u → (min t b - max f a) + ((v - a) + (b - u)) ≤ b - a
three-of a b f t u v h vf vb tu au = omega arith

three : (a b f t : ℕ) → f ≤ t → (min t b - max f a) + ((min f b - a) + (b - max t a)) ≤ b - a
three a b f t h = three-of a b f t (max t a) (min f b) h (omega arith) (omega arith) (omega arith) (omega arith)

-- a row right of t, or left of f, is clipped to [a, b) as to the part of [a, b) on its side
right : (a b t : ℕ) (s : Row) → t ≤ s.from → clip a b s ≤ clip (max t a) b s
right a b t s h = omega arith

left : (a b f : ℕ) (s : Row) → s.to ≤ f → clip a b s ≤ clip a (min f b) s
left a b f s h = omega arith

sides : (a b : ℕ) (r s : Row) → Apart r s → clip a b s ≤ clip a (min r.from b) s + clip (max r.to a) b s
sides a b r s (inl h) = omega (arith, right a b r.to s h)
sides a b r s (inr h) = omega (arith, left a b r.from s h)

sides_all : (a b : ℕ) (r : Row) (rs : List Row) → All (Apart r) rs →
    total rs (clip a b) ≤ total rs (clip a (min r.from b)) + total rs (clip (max r.to a) b)
sides_all a b r [] h = omega arith
sides_all a b r (s ∷ rs) h = omega (arith, sides a b r s h.0, sides_all a b r rs h.1)

-- rows of which no two overlap fill [a, b) at most once
pub packing : (rs : List Row) → Pairwise Apart rs → All Forward rs → (a b : ℕ) → total rs (clip a b) ≤ b - a
packing [] d w a b = omega arith
packing (r ∷ rs) d w a b =
    omega (
      arith,
      three a b r.from r.to (le_of_lt w.0),
      sides_all a b r rs d.0,
      packing rs d.1 w.1 a (min r.from b),
      packing rs d.1 w.1 (max r.to a) b,
    )

-- the same of the rows that pass a test, where no two of those overlap
packing-of : (p : Row → Bool) (rs : List Row) → Pairwise (λ r s. p r ≡ true → p s ≡ true → Apart r s) rs →
    All Forward rs → (a b : ℕ) → total rs (λ r. only (p r) (clip a b r)) ≤ b - a
packing-of p rs d w a b =
    omega (
      arith,
      keep-total p (clip a b) rs,
      packing (keep p rs) (keep-passing p Apart rs d) (keep_all p Forward rs (All-map _ _ rs (λ s k e. k) w)) a b,
    )

-- the rows of one job, or of one processor, fill [a, b) at most once
pub packing-key : (key : Row → ℕ) (i : ℕ) (rs : List Row) → Pairwise (λ r s. key r ≡ key s → Apart r s) rs →
    All Forward rs → (a b : ℕ) → total rs (λ r. only (eqb (key r) i) (clip a b r)) ≤ b - a
packing-key key i rs d w =
    packing-of (λ r. eqb (key r) i) rs
    (Pairwise-map _ _ rs (λ r s h p q. h (eqb-true (key r) i p ∙ sym (eqb-true (key s) i q))) d)
    w

-- clips to [a, b) and to [b, c) make up the clip to [a, c)
joined_of : (f y a b : ℕ) → a ≤ b → (min y b - max f a) + (y - max f b) ≡ y - max f a
joined_of f y a b ab = omega arith

min-min : (t b c : ℕ) → b ≤ c → min t b ≡ min (min t c) b
min-min t b c bc = omega arith

joined : (f t a b c : ℕ) → a ≤ b → b ≤ c → (min t b - max f a) + (min t c - max f b) ≡ min t c - max f a
joined f t a b c ab bc = rw (min-min t b c bc) (joined_of f (min t c) a b ab)

rising_le : (cut : ℕ → ℕ) (q : ℕ) → ((s : ℕ) → s < q → cut s ≤ cut (suc s)) → cut 0 ≤ cut q
rising_le cut zero up = omega arith
rising_le cut (suc q) up = omega (arith, rising_le cut q (λ s l. up s (omega arith)), up q (omega arith))

-- clips to stretches that follow one another add up to the clip to the whole
pub telescope : (cut : ℕ → ℕ) (q : ℕ) → ((s : ℕ) → s < q → cut s ≤ cut (suc s)) → (r : Row) →
    sum q (λ s. clip (cut s) (cut (suc s)) r) ≡ clip (cut 0) (cut q) r
unfolding sum
telescope cut zero up r = omega arith
telescope cut (suc q) up r =
    omega (
      arith,
      telescope cut q (λ s l. up s (omega arith)) r,
      joined r.from r.to (cut 0) (cut q) (cut (suc q)) (rising_le cut q (λ s l. up s (omega arith)))
          (up q (omega arith)),
    )
