-- What a call from C or Rust returns: one number as its result; and the rows that stand before the refusal table.
use Rattle.std.specs.Prelude.{ℕ, ◌+◌, ◌*◌, ◌%◌, ◌≡◌, not, List, ◌∷◌, ltb, eqb, Result, Ok, Err}
use Rattle.order.specs.Refusals.{TableRow, Verdict, accepted, refused, row, whole, file_row}
use Rattle.order.specs.Table.{number_by, carried_by}
use Rattle.order_file.specs.File.{good_file}

-- the result: 0 where the call succeeds, else the refusal's number and 256 times what it carries
abbrev pub result_of : Verdict → ℕ
result_of v = number_by v + 256 * carried_by v

-- three rows that stand before document 01's table, with numbers that no paper gives: the answer is too short; the jobs' numbers are
-- not four to a job; another lent list has fewer numbers than are asked for
abbrev pub answer_row : ℕ → ℕ → TableRow
answer_row lent asked = row 255 (whole (ltb lent asked))

abbrev pub part_job_row : ℕ → TableRow
part_job_row numbers = row 254 (whole (not (eqb (numbers % 4) 0)))

abbrev pub short_list_row : ℕ → ℕ → TableRow
short_list_row numbers asked = row 253 (whole (ltb numbers asked))

-- what a call that reads a file and the lists beside it answers: what was read, and this holds of it; or the result
abbrev pub StatusBy : {A : Type 0} → Verdict → Result A ℕ → (A → Type 0) → Type 0
StatusBy accepted (Ok read) P = P read
StatusBy accepted (Err result) P = ⊥
StatusBy (refused number carried) (Ok read) P = ⊥
StatusBy (refused number carried) (Err result) P = result ≡ result_of (refused number carried)

-- the table of a call that takes a file: the answer's room, 12, then the rows of the entry point
unfoldable pub file_call : ℕ → ℕ → List ℕ → List TableRow → List TableRow
file_call lent asked file rows = answer_row lent asked ∷ file_row (good_file file) ∷ rows

-- and of one that is lent a list too, between the first two
unfoldable pub list_call : (lent asked numbers wanted : ℕ) → List ℕ → List TableRow → List TableRow
list_call lent asked numbers wanted file rows =
    answer_row lent asked ∷ short_list_row numbers wanted ∷ file_row (good_file file) ∷ rows
