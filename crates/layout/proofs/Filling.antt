-- Shares on processors: what one share does to the processor that it comes to.
use Prim.Native.Nat.{ℕ, ◌+◌, ◌-◌, ◌≤◌, ◌<◌}
use mathlib.Core.Path.{◌≡◌, refl, ap}
use mathlib.Core.Bool.{Bool, true, false, cond}
use mathlib.Core.List.{List, [], ◌∷◌, ◌++◌, append-nil}
use native.Mathlib.Decide.{dec_lt, ℕ_discrete}
use native.Mathlib.Omega.{arith}
use borrow.Author.Tests.{lt-ltb, le-ltb, eq-eqb, ne_eqb}
use lib.Dec.{ltb}
use lib.ListN.{length}
use Rattle.plan.specs.Plan.{Row}
use Rattle.wrap.specs.Layout.{Share, fill, shares_of}
use Rattle.layout.specs.Laid.{portion}
use Rattle.wrap.specs.Shares.{share}

abbrev row : ℕ → ℕ → ℕ → ℕ → Row
row job processor from to = record { job = job; processor = processor; from = from; to = to }

module _ (start end : ℕ) where
  pub fill-no-processor : (at : ℕ) (xs : List Share) → fill start end [] at xs ≡ []
  unfolding fill
  fill-no-processor at xs = refl

  pub fill-no-share : (ps : List ℕ) (at : ℕ) → fill start end ps at [] ≡ []
  unfolding fill
  fill-no-share [] at = refl
  fill-no-share (p ∷ ps) at = refl

  module _ (p : ℕ) (ps : List ℕ) (at job minutes : ℕ) (xs : List Share) where
    -- a share that ends before the stretch does; one that does not fills the processor, and what is left of it goes on
    pub fill-short : at + minutes < end →
        fill start end (p ∷ ps) at (share job minutes ∷ xs)
        ≡ row job p at (at + minutes) ∷ fill start end (p ∷ ps) (at + minutes) xs
    unfolding fill
    fill-short h = rw (lt-ltb (at + minutes) end h)

    pub fill-long : end ≤ at + minutes →
        fill start end (p ∷ ps) at (share job minutes ∷ xs)
        ≡ row job p at end ∷ fill start end ps start (portion job (at + minutes - end) ++ xs)
    unfolding fill
    fill-long h =
        elim (ℕ_discrete (at + minutes) end) [
          | yes e ↦
              rw (le-ltb (at + minutes) end h, eq-eqb (at + minutes) end e, le-ltb 0 (at + minutes - end) (omega arith))
          | no e ↦
              rw (le-ltb (at + minutes) end h, ne_eqb (at + minutes) end e, lt-ltb 0 (at + minutes - end) (omega arith))
        ]

    pub fill-some : 1 ≤ length (fill start end (p ∷ ps) at (share job minutes ∷ xs))
    fill-some =
        elim (dec_lt (at + minutes) end) [
          | yes l ↦ omega (arith, ap length (fill-short l))
          | no l ↦ omega (arith, ap length (fill-long (omega arith)))
        ]

  -- a share alone takes no more rows than with others behind it
  alone : (ps : List ℕ) (at job minutes : ℕ) (xs : List Share) →
      length (fill start end ps at (portion job minutes ++ [])) ≤ length (fill start end ps at (portion job minutes ++ xs))
  alone [] at job minutes xs = omega (arith, ap length (fill-no-processor at (portion job minutes ++ [])))
  alone (p ∷ ps) at job minutes xs =
      elim (dec_lt 0 minutes) [
        | no m ↦ rw (le-ltb 0 minutes (omega arith)) (omega (arith, ap length (fill-no-share (p ∷ ps) at)))
        | yes m ↦
            rw (lt-ltb 0 minutes m)
            (elim (dec_lt (at + minutes) end) [
              | yes l ↦
                  omega (
                    arith,
                    ap length (fill-short p ps at job minutes [] l),
                    ap length (fill-short p ps at job minutes xs l),
                    ap length (fill-no-share (p ∷ ps) (at + minutes)),
                  )
              | no l ↦
                  omega (
                    arith,
                    ap length (fill-long p ps at job minutes [] (omega arith)),
                    ap length (fill-long p ps at job minutes xs (omega arith)),
                    alone ps start job (at + minutes - end) xs,
                  )
            ])
      ]

  pub portion-alone : (ps : List ℕ) (at job minutes : ℕ) (xs : List Share) →
      length (fill start end ps at (portion job minutes)) ≤ length (fill start end ps at (portion job minutes ++ xs))
  portion-alone ps at job minutes xs = rw (append-nil (portion job minutes)) at (alone ps at job minutes xs)

-- the shares of no job, and of one more
pub shares-none : (a : ℕ → ℕ → ℕ) (s : ℕ) → shares_of a s [] ≡ []
unfolding shares_of
shares-none a s = refl

pub shares-more : (a : ℕ → ℕ → ℕ) (s j : ℕ) (js : List ℕ) → shares_of a s (j ∷ js) ≡ portion j (a j s) ++ shares_of a s js
unfolding shares_of
shares-more a s j js = go (ltb 0 (a j s))
  where
    go : (b : Bool) → cond b (share j (a j s) ∷ shares_of a s js) (shares_of a s js)
        ≡ cond b (share j (a j s) ∷ []) [] ++ shares_of a s js
    go true = refl
    go false = refl
