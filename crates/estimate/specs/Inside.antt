-- What the inner functions answer: two arrays of lows and highs, how far a job goes, the array of times after k minutes.
use Rattle.std.specs.Prelude.{ℕ, ◌+◌, ◌-◌, ◌≤◌, ◌<◌, min, List, ltb, get_or}
use Rattle.sums.specs.Sum.{sum}
use Rattle.sums.specs.Lists.{only, tabulate}

abbrev pub width_at : (lows highs : List ℕ) → ℕ → ℕ
width_at lows highs j = get_or highs j 0 - get_or lows j 0

-- n jobs, none with its low above its high, none above the largest time
pub record Spans (lows highs : List ℕ) (n : ℕ) : Type 0 where
  pub few : n ≤ 48
  pub rise : (j : ℕ) → j < n → get_or lows j 0 ≤ get_or highs j 0
  pub small : (j : ℕ) → j < n → get_or highs j 0 ≤ 100000

-- the time of job j + 1 after k minutes: those before it have taken theirs
abbrev pub time_after : (lows highs : List ℕ) → ℕ → ℕ → ℕ
time_after lows highs k j = get_or lows j 0 + min (k - sum j (width_at lows highs)) (width_at lows highs j)

abbrev pub array_after : (lows highs : List ℕ) → ℕ → ℕ → List ℕ
array_after lows highs n k = tabulate 48 (λ j. only (ltb j n) (time_after lows highs k j))
