-- The times of lent lists: the struct of three arrays.
use Prim.Native.Nat.{ℕ, ◌+◌, ◌*◌}
use mathlib.Core.Path.{◌≡◌, refl, ap, ◌∙◌}
use mathlib.Core.List.{List}
use native.Mathlib.Omega.{arith}
use lib.ListN.{get_or}
use Rattle.sums.specs.Lists.{tabulate}
use Rattle.sums.specs.Places.{tabulate-cong}
use Rattle.timed.specs.declared.Times.{Times}
use Rattle.highboyrobin.specs.TimedCalls.{times_from}

-- the numbers at place 0 of the pairs are the first ones
first-side : (windows : List ℕ) →
    tabulate 16 (λ (i : ℕ). get_or windows (2 * i + 0) 0) ≡ tabulate 16 (λ (i : ℕ). get_or windows (2 * i) 0)
first-side windows =
    tabulate-cong 16 (λ (i : ℕ). get_or windows (2 * i + 0) 0) (λ (i : ℕ). get_or windows (2 * i) 0)
    (λ i l. let e : 2 * i + 0 ≡ 2 * i = omega arith in ap (λ (k : ℕ). get_or windows k 0) e)

-- the three arrays are the times
pub times-are : (lent windows : List ℕ) (t : Times) → t.ready ≡ tabulate 48 (λ (j : ℕ). get_or lent j 0) →
    t.opens ≡ tabulate 16 (λ (i : ℕ). get_or windows (2 * i + 0) 0) →
    t.closes ≡ tabulate 16 (λ (i : ℕ). get_or windows (2 * i + 1) 0) → t ≡ times_from lent windows
times-are lent windows t r o c = three t _ _ _ r (o ∙ first-side windows) c
  where
    three : (t : Times) (r o c : List ℕ) → t.ready ≡ r → t.opens ≡ o → t.closes ≡ c →
        t ≡ record { ready = r; opens = o; closes = c }
    three t r o c e f g = rw (← e, ← f, ← g) refl
