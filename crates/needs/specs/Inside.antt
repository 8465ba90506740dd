-- What the parts of filling in are held to: the first line that meets a length, and the smallest length that passes a test.
use Rattle.std.specs.Prelude.{ℕ, suc, ◌≤◌, ◌<◌, min, ◌≡◌, Bool, true, false, List, Option, Some, None}
use Rattle.sums.specs.Lists.{tabulate}
use Rattle.needs.specs.NeedTable.{Line, line_at, meets, longest}

-- the first n lines of a lent table
abbrev pub first_lines : List ℕ → ℕ → List Line
first_lines table n = tabulate n (line_at table)

-- of the first n lines, i is the place of the first that meets a length
pub record FirstMeets (table : List ℕ) (n x i : ℕ) : Type 0 where
  pub one_of : i < n
  pub before : (k : ℕ) → k < i → meets (line_at table k) x ≡ false
  pub here : meets (line_at table i) x ≡ true

-- r is the smallest length that passes a test; one more than the longest where none does
pub record Smallest (test : ℕ → Bool) (r : ℕ) : Type 0 where
  pub from_one : 1 ≤ r
  pub most : r ≤ suc longest
  pub before : (x : ℕ) → 1 ≤ x → x < r → test x ≡ false
  pub here : r ≤ longest → test r ≡ true

-- the smallest length that passes a test, where one does
abbrev pub SmallestOf : (ℕ → Bool) → Option ℕ → Type 0
SmallestOf test None = Smallest test (suc longest)
SmallestOf test (Some r) = (r ≤ longest) × Smallest test r

-- the smaller of two lengths, each of which there may be none of
abbrev pub smaller : Option ℕ → Option ℕ → Option ℕ
smaller None b = b
smaller (Some x) None = Some x
smaller (Some x) (Some y) = Some (min x y)
