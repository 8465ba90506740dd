-- The plan check: whether lent numbers, four to a row, are the rows of a right plan. `is_right` computes it; CheckLaws says
-- that it answers true exactly for right plans.
use Rattle.std.specs.Prelude.{ℕ, suc, ◌+◌, ◌*◌, ◌/◌, ◌%◌, ◌≡◌, Bool, true, not, ◌&&◌, ◌||◌, List, [], ◌∷◌, ◌++◌, leb, ltb, eqb, ℤ, pos, length, get_or}
use Rattle.std.specs.Int.Signed.{le_z}
use Rattle.sums.specs.Lists.{tabulate}
use Rattle.order.specs.Order.{Order, processor_count, job_count, job_of, memory_of, end_of}
use Rattle.order.specs.Refusals.{limits, TableRow, order_rows, bound_row, rows_to_check_row}
use Rattle.plan.specs.Plan.{Row, Right, lengths_of}

-- the numbers of rows, four to a row
unfoldable pub numbers_of : List Row → List ℕ
numbers_of [] = []
numbers_of (r ∷ rows) = r.job ∷ r.processor ∷ r.from ∷ r.to ∷ numbers_of rows

-- the lent numbers are exactly the rows of a right plan, four to a row, none left over
pub record RightNumbers (o : Order) (bound : ℤ) (numbers : List ℕ) : Type 0 where
  pub rows : List Row
  pub are : numbers ≡ numbers_of rows
  pub right : Right o bound rows

-- the row at a place, and the whole rows
abbrev pub row_at : List ℕ → ℕ → Row
row_at numbers i = record {
  job = get_or numbers (4 * i) 0;
  processor = get_or numbers (4 * i + 1) 0;
  from = get_or numbers (4 * i + 2) 0;
  to = get_or numbers (4 * i + 3) 0;
}

abbrev pub rows_of : List ℕ → List Row
rows_of numbers = tabulate (length numbers / 4) (row_at numbers)

-- a test passes for each member; for each member and each later one
unfoldable pub every {ℓ} : {A : Type ℓ} → (A → Bool) → List A → Bool
every test [] = true
every test (x ∷ xs) = test x && every test xs

unfoldable pub every_two {ℓ} : {A : Type ℓ} → (A → A → Bool) → List A → Bool
every_two test [] = true
every_two test (x ∷ xs) = every (test x) xs && every_two test xs

-- the four rules as tests
abbrev pub well_formed : Order → Row → Bool
well_formed o r =
    (leb 1 r.job && leb r.job (job_count o))
    && ((leb 1 r.processor && leb r.processor (processor_count o))
    && (leb (job_of o r.job).need (memory_of o r.processor) && ltb r.from r.to))

abbrev pub by_end : Order → ℤ → Row → Bool
by_end o bound r = le_z (pos r.to) (end_of bound (job_of o r.job))

abbrev pub no_overlap : Row → Row → Bool
no_overlap r s =
    not (eqb r.job s.job || eqb r.processor s.processor) || (leb r.to s.from || leb s.to r.from)

abbrev pub whole_job : Order → List Row → ℕ → Bool
whole_job o rows j = eqb (lengths_of j rows) (job_of o j).time

unfoldable pub is_right : Order → ℤ → List ℕ → Bool
is_right o bound numbers =
    (eqb (length numbers % 4) 0 && every (λ (r : Row). well_formed o r && by_end o bound r) (rows_of numbers))
    && (every_two no_overlap (rows_of numbers)
    && every (whole_job o (rows_of numbers)) (tabulate (job_count o) suc))

-- the check judges the rows of acceptance, 8, then 11
unfoldable pub check_rows : Order → ℤ → ℕ → List TableRow
check_rows o bound numbers = order_rows limits o ++ (bound_row bound ∷ rows_to_check_row numbers ∷ [])
