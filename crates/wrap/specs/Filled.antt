-- Filling as a relation: which rows come of which processors and shares, one case for each step of the wrap. What the rows
-- are is proved by going through these cases.
use Rattle.std.specs.Prelude.{ℕ, ◌+◌, ◌-◌, ◌<◌, ◌≡◌, refl, Bool, true, false, cond, List, [], ◌∷◌, ltb, eqb}
use Rattle.std.proofs.Common.{arith, ltb-true, ltb-false, eqb-true}
use Rattle.std.proofs.lemmas.Bool.{eqb-false}
use Rattle.plan.specs.Plan.{Row}
use Rattle.wrap.specs.Layout.{Share, fill}

-- the row of a job on a processor
abbrev pub row : (job processor from to : ℕ) → Row
row job processor from to = record { job = job; processor = processor; from = from; to = to }

-- what is left of a share behind the stretch's end
abbrev pub rest : (end at : ℕ) → Share → Share
rest end at x = record { job = x.job; minutes = at + x.minutes - end }

pub data Filled (start end : ℕ) : List ℕ → ℕ → List Share → List Row → Type 0 where
  no-processor : {at : ℕ} {xs : List Share} → Filled start end [] at xs []
  no-share : {p : ℕ} {ps : List ℕ} {at : ℕ} → Filled start end (p ∷ ps) at [] []
  -- the share ends before the stretch does: the next goes on behind it
  ends-before : {p : ℕ} {ps : List ℕ} {at : ℕ} {x : Share} {xs : List Share} {rows : List Row} →
      at + x.minutes < end → Filled start end (p ∷ ps) (at + x.minutes) xs rows →
      Filled start end (p ∷ ps) at (x ∷ xs) (row x.job p at (at + x.minutes) ∷ rows)
  -- it ends with the stretch: the next begins on the next processor
  ends_there : {p : ℕ} {ps : List ℕ} {at : ℕ} {x : Share} {xs : List Share} {rows : List Row} →
      at + x.minutes ≡ end → Filled start end ps start xs rows →
      Filled start end (p ∷ ps) at (x ∷ xs) (row x.job p at end ∷ rows)
  -- it does not: the rest of it begins on the next processor
  goes_on : {p : ℕ} {ps : List ℕ} {at : ℕ} {x : Share} {xs : List Share} {rows : List Row} →
      end < at + x.minutes → Filled start end ps start (rest end at x ∷ xs) rows →
      Filled start end (p ∷ ps) at (x ∷ xs) (row x.job p at end ∷ rows)

pub fill-filled : (start end : ℕ) (ps : List ℕ) (at : ℕ) (xs : List Share) →
    Filled start end ps at xs (fill start end ps at xs)
unfolding fill
fill-filled start end [] at xs = no-processor
fill-filled start end (p ∷ ps) at [] = no-share
fill-filled start end (p ∷ ps) at (x ∷ xs) =
    go (ltb (at + x.minutes) end) (eqb (at + x.minutes) end) refl refl
    (fill-filled start end (p ∷ ps) (at + x.minutes) xs)
    (fill-filled start end ps start xs)
    (fill-filled start end ps start (rest end at x ∷ xs))
  where
    go : (b c : Bool) → ltb (at + x.minutes) end ≡ b → eqb (at + x.minutes) end ≡ c →
        Filled start end (p ∷ ps) (at + x.minutes) xs (fill start end (p ∷ ps) (at + x.minutes) xs) →
        Filled start end ps start xs (fill start end ps start xs) →
        Filled start end ps start (rest end at x ∷ xs) (fill start end ps start (rest end at x ∷ xs)) →
        Filled start end (p ∷ ps) at (x ∷ xs)
        (cond b (row x.job p at (at + x.minutes) ∷ fill start end (p ∷ ps) (at + x.minutes) xs)
        (row x.job p at end
        ∷ cond c (fill start end ps start xs) (fill start end ps start (rest end at x ∷ xs))))
    go true c e f r s t = ends-before (ltb-true _ _ e) r
    go false true e f r s t = ends_there (eqb-true _ _ f) s
    go false false e f r s t =
        let h = ltb-false (at + x.minutes) end e in
        let ne : ¬ (at + x.minutes ≡ end) = eqb-false _ _ f in
        goes_on {at = at} {x = x} (omega arith) t
