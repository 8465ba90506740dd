-- A maker's table of needs (document 02, §7): "a table whose first 32 lines count, any further ones being passed over: from length, to
-- length (both included, in minutes), need. Lengths 1 to 100,000 must each be met by one line, lines in any order."
use Rattle.std.specs.Prelude.{ℕ, suc, ◌+◌, ◌*◌, ◌/◌, Bool, cond, not, ◌&&◌, List, [], ◌∷◌, ◌++◌, map, leb, eqb, length, get_or, take}
use Rattle.sums.specs.Lists.{total, only, tabulate}
use Rattle.order.specs.Refusals.{TableRow, row, first, time_in_range, room_row}

-- a line: from length, to length, need
pub record Line : Type 0 where
  pub from : ℕ
  pub to : ℕ
  pub need : ℕ

-- "a line out of range or running backwards meets no length"; lengths are in the range of a job's time
abbrev pub good_line : Line → Bool
good_line line = time_in_range line.from && time_in_range line.to && leb line.from line.to

-- a good line meets each length from the one to the other, "both included"
unfoldable pub meets : Line → ℕ → Bool
meets line x = good_line line && leb line.from x && leb x line.to

-- line i + 1 of a lent table, three numbers to a line; one or two numbers left over are no line
abbrev pub line_at : List ℕ → ℕ → Line
line_at table i = record { from = get_or table (3 * i) 0; to = get_or table (3 * i + 1) 0; need = get_or table (3 * i + 2) 0 }

unfoldable pub lines_in : List ℕ → List Line
lines_in table = tabulate (length table / 3) (line_at table)

-- those that count
abbrev pub most_lines : ℕ
most_lines = 32

unfoldable pub counted : List ℕ → List Line
counted table = take most_lines (lines_in table)

-- how many lines meet a length
unfoldable pub met_by : List Line → ℕ → ℕ
met_by lines x = total lines (λ (line : Line). only (meets line x) 1)

-- every length, the smallest first
abbrev pub longest : ℕ
longest = 100000

unfoldable pub every_length : List ℕ
every_length = tabulate longest suc

-- no line meets a length; two or more do
abbrev pub unmet : List Line → ℕ → Bool
unmet lines x = eqb (met_by lines x) 0

abbrev pub met_twice : List Line → ℕ → Bool
met_twice lines x = leb 2 (met_by lines x)

-- rows 17 and 18 carry the smallest such length, which is also its number among all lengths
abbrev pub unmet_row : List Line → TableRow
unmet_row lines = row 17 (first (unmet lines) every_length)

abbrev pub met_twice_row : List Line → TableRow
met_twice_row lines = row 18 (first (met_twice lines) every_length)

unfoldable pub table_rows : List Line → List TableRow
table_rows lines = unmet_row lines ∷ met_twice_row lines ∷ []

-- "the refusals here are 17, 18, 5 and 9, in that order": a listed length out of range, the first in the list; room for fewer needs
unfoldable pub need_rows : (table listed : List ℕ) → (lent : ℕ) → List TableRow
need_rows table listed lent =
    table_rows (counted table) ++ (row 5 (first (λ (x : ℕ). not (time_in_range x)) listed) ∷ room_row lent (length listed) ∷ [])

-- the need of a length: that of the first line that meets it, and in an accepted table no other line does (NeedLaws)
unfoldable pub need_for : List Line → ℕ → ℕ
need_for [] x = 0
need_for (line ∷ lines) x = cond (meets line x) line.need (need_for lines x)

abbrev pub needs_of : (table listed : List ℕ) → List ℕ
needs_of table listed = map (need_for (counted table)) listed
