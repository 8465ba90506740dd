-- Rows and their numbers: four numbers are a row, so the rows of rows' numbers are the rows, and where none are left over the
-- numbers of the rows are the numbers.
use Rattle.std.specs.Prelude.{ℕ, suc, ◌+◌, ◌*◌, ◌/◌, ◌%◌, ◌≡◌, refl, List, [], ◌∷◌, length, get_or}
use Rattle.std.proofs.Common.{ap, ◌∙◌, arith}
use Rattle.sums.specs.Places.{tabulate-cong}
use Rattle.plan.specs.Plan.{Row}
use Rattle.plan.specs.Check.{numbers_of, row_at, rows_of}

abbrev four : ℕ → ℕ → ℕ → ℕ → Row
four a b c d = record { job = a; processor = b; from = c; to = d }

module _ (a b c d : ℕ) (rest : List ℕ) where
  later : (k j : ℕ) → j ≡ suc (suc (suc (suc k))) → get_or (a ∷ b ∷ c ∷ d ∷ rest) j 0 ≡ get_or rest k 0
  later k j e = ap (λ (x : ℕ). get_or (a ∷ b ∷ c ∷ d ∷ rest) x 0) e

  -- the first four numbers are the first row
  first-row : rows_of (a ∷ b ∷ c ∷ d ∷ rest) ≡ four a b c d ∷ rows_of rest
  first-row =
      let n : suc (suc (suc (suc (length rest)))) / 4 ≡ suc (length rest / 4) = omega arith in
      rw n
      (ap (λ (l : List Row). four a b c d ∷ l)
      (tabulate-cong (length rest / 4) (λ i. row_at (a ∷ b ∷ c ∷ d ∷ rest) (suc i)) (row_at rest)
      (λ i _. cc (
        later (4 * i) (4 * suc i) (omega arith),
        later (4 * i + 1) (4 * suc i + 1) (omega arith),
        later (4 * i + 2) (4 * suc i + 2) (omega arith),
        later (4 * i + 3) (4 * suc i + 3) (omega arith),
      ))))

pub rows-of-numbers : (rows : List Row) → rows_of (numbers_of rows) ≡ rows
unfolding numbers_of
rows-of-numbers [] = refl
rows-of-numbers (r ∷ rows) =
    first-row r.job r.processor r.from r.to (numbers_of rows) ∙ ap (λ (l : List Row). r ∷ l) (rows-of-numbers rows)

pub length-numbers : (rows : List Row) → length (numbers_of rows) ≡ 4 * length rows
unfolding numbers_of
length-numbers [] = refl
length-numbers (r ∷ rows) = omega (arith, length-numbers rows)

pub numbers-of-rows : (numbers : List ℕ) → length numbers % 4 ≡ 0 → numbers_of (rows_of numbers) ≡ numbers
unfolding numbers_of
numbers-of-rows [] e = refl
numbers-of-rows (a ∷ []) e = absurd (omega arith)
numbers-of-rows (a ∷ b ∷ []) e = absurd (omega arith)
numbers-of-rows (a ∷ b ∷ c ∷ []) e = absurd (omega arith)
numbers-of-rows (a ∷ b ∷ c ∷ d ∷ rest) e =
    ap numbers_of (first-row a b c d rest) ∙ ap (λ (l : List ℕ). a ∷ b ∷ c ∷ d ∷ l) (numbers-of-rows rest (omega arith))
