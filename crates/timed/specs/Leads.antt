-- Whole numbers as leads before the minute 11,000,001, beyond which no end, ready minute, opening or closing lies.
use Rattle.std.specs.Prelude.{ℕ, ◌+◌, ◌-◌, ◌≤◌, ◌<◌, ◌≡◌, List, ℤ, pos, get_or}

abbrev pub top : ℤ
top = pos 11000001

-- the largest bound in range
abbrev pub most_bound : ℤ
most_bound = pos 10000000

-- the first n minutes are in range; the first n leads of due times are
abbrev pub Below : ℕ → List ℕ → Type 0
Below n minutes = (i : ℕ) → i < n → get_or minutes i 0 ≤ 1000000

abbrev pub Small : ℕ → List ℕ → Type 0
Small n leads = (i : ℕ) → i < n → get_or leads i 0 ≤ 2000000

-- from the place `at` on a list holds the leads of n openings, then those of n closings; what lies before is as it was
pub record WindowsPut (xs ys : List ℕ) (at n : ℕ) (opens closes : List ℕ) : Type 0 where
  pub opening : (i : ℕ) → i < n → get_or ys (at + i) 0 ≡ 11000001 - get_or opens i 0
  pub closing : (i : ℕ) → i < n → get_or ys (at + n + i) 0 ≡ 11000001 - get_or closes i 0
  pub before : (i : ℕ) → i < at → get_or ys i 0 ≡ get_or xs i 0
