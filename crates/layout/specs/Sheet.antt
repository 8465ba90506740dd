-- Rows written into a lent buffer one after the other, each joined to the last of its processor where that goes on as it. `added`
-- says what one row does to the numbers; that the rows which then stand are the joined ones is proved (proofs/Holding).
use Rattle.std.specs.Prelude.{ℕ, suc, ◌+◌, ◌-◌, ◌*◌, ◌≤◌, ◌≡◌, cond, List, [], ◌∷◌, ◌++◌, ltb, eqb, length, get_or, take, drop, set}
use Rattle.sums.specs.Lists.{tabulate, only}
use Rattle.plan.specs.Plan.{Row}
use Rattle.plan.specs.Check.{numbers_of}
use Rattle.layout.specs.declared.Written.{Written}

-- how many rows stand in a buffer, and for each processor the number of its last row, counted from 1; 0 where it has none
pub record Sheet : Type 0 where
  pub count : ℕ
  pub last : List ℕ
  pub buffer : List ℕ

abbrev pub sheet : ℕ → List ℕ → List ℕ → Sheet
sheet count last buffer = record { count = count; last = last; buffer = buffer }

-- the rows written so far, in the buffer that they stand in
abbrev pub standing : Written → List ℕ → Sheet
standing written buffer = sheet written.count written.last buffer

-- the job that a processor ends with at a minute, where its last row is the one with this number; 0 where it ends with none
abbrev pub ending_job : List ℕ → (number minute : ℕ) → ℕ
ending_job buffer number minute =
    cond (eqb number 0) 0 (cond (eqb (get_or buffer (4 * number - 1) 0) minute) (get_or buffer (4 * number - 4) 0) 0)

-- the number of the last row of a row's processor
abbrev pub last_for : Sheet → Row → ℕ
last_for s x = get_or s.last (x.processor - 1) 0

-- one row more lengthens the last row of its processor where the processor ends with its job where it begins, and else stands behind
-- all others
unfoldable pub added : Sheet → Row → Sheet
added s x =
    cond (eqb (ending_job s.buffer (last_for s x) x.from) x.job)
    (sheet s.count s.last (set s.buffer (4 * last_for s x - 1) x.to))
    (sheet (s.count + 1) (set s.last (x.processor - 1) (s.count + 1))
    (take (4 * s.count) s.buffer
    ++ (x.job ∷ x.processor ∷ x.from ∷ x.to ∷ drop (4 * s.count + 4) s.buffer)))

unfoldable pub added_all : Sheet → List Row → Sheet
added_all s [] = s
added_all s (x ∷ xs) = added_all (added s x) xs

-- the numbers of last rows are those of rows that stand, and these have their place in the buffer
pub record Good (s : Sheet) : Type 0 where
  pub sixteen : length s.last ≡ 16
  pub stand : (i : ℕ) → get_or s.last i 0 ≤ s.count
  pub room : 4 * s.count ≤ length s.buffer

-- the number of the last row of a processor among rows, counted from 1; 0 where it has none
unfoldable pub last_of : List Row → ℕ → ℕ
last_of [] i = 0
last_of (r ∷ rows) i = cond (ltb 0 (last_of rows i)) (suc (last_of rows i)) (only (eqb r.processor i) 1)

-- these rows stand in a lent buffer, and nothing else was written
pub record Holds (lent : List ℕ) (rows : List Row) (s : Sheet) : Type 0 where
  pub count-is : s.count ≡ length rows
  pub last-is : s.last ≡ tabulate 16 (λ i. last_of rows (suc i))
  pub buffer-is : s.buffer ≡ numbers_of rows ++ drop (4 * length rows) lent
  pub room : 4 * length rows ≤ length lent
