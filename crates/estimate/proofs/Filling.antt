-- The array of times after k minutes, filled job by job.
use Prim.Native.Nat.{ℕ, ◌+◌, ◌<◌}
use mathlib.Core.Path.{◌≡◌, refl, sym, ap, ◌∙◌}
use mathlib.Core.Bool.{Bool}
use mathlib.Core.List.{List}
use mathlib.Core.Logic.{◌≢◌}
use native.Mathlib.Omega.{arith}
use native.Mathlib.Decide.{dec_lt}
use borrow.Author.Tests.{lt-ltb, le-ltb}
use lib.Dec.{ltb}
use lib.ListN.{set, replicate}
use Rattle.sums.specs.Lists.{only}
use Rattle.sums.specs.Places.{tabulate-cong, set-tabulate, replicate-tabulate}
use Rattle.estimate.specs.Inside.{time_after, array_after}

-- before the first job there are zeros
pub none_after : (lows highs : List ℕ) (k : ℕ) → replicate 48 0 ≡ array_after lows highs 0 k
none_after lows highs k =
    replicate-tabulate 48 0
    ∙ tabulate-cong 48 (λ _. 0) (λ j. only (ltb j 0) (time_after lows highs k j))
    (λ j l. sym (ap (λ (b : Bool). only b (time_after lows highs k j)) (le-ltb j 0 (omega arith))))

-- a job more
pub one-after : (lows highs : List ℕ) (k j : ℕ) (out : List ℕ) (time : ℕ) → out ≡ array_after lows highs j k →
    time ≡ time_after lows highs k j → j < 48 → set out j time ≡ array_after lows highs (j + 1) k
one-after lows highs k j out time e t l =
    ap (λ (xs : List ℕ). set xs j time) e
    ∙ set-tabulate 48 (λ i. only (ltb i j) (time_after lows highs k i)) (λ i. only (ltb i (j + 1)) (time_after lows highs k i)) j time
    (ap (λ (b : Bool). only b (time_after lows highs k j)) (lt-ltb j (j + 1) (omega arith)) ∙ sym t) others
  where
    others : (i : ℕ) → i < 48 → i ≢ j → only (ltb i j) (time_after lows highs k i) ≡ only (ltb i (j + 1)) (time_after lows highs k i)
    others i l ne =
        elim (dec_lt i j) [
          | yes h ↦ rw (lt-ltb i j h, lt-ltb i (j + 1) (omega arith)) refl
          | no h ↦ rw (le-ltb i j (omega arith), le-ltb i (j + 1) (omega arith)) refl
        ]
