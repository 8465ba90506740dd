-- What hbr_needs judges by (document 02, §7): the answer's room, the length of the list, then 17, 18, 5 and 9.
use Rattle.std.specs.Prelude.{ℕ, List, ◌∷◌, ltb, length}
use Rattle.order.specs.Refusals.{TableRow, row, whole}
use Rattle.needs.specs.NeedTable.{need_rows}
use Rattle.highboyrobin.specs.Results.{answer_row}

-- the most lengths of one call: a result of 32 bits has room for no larger place
abbrev pub most_lengths : ℕ
most_lengths = 16777215

abbrev pub long_list_row : ℕ → TableRow
long_list_row lengths = row 253 (whole (ltb most_lengths lengths))

unfoldable pub needs_call : (table listed : List ℕ) → (lent answer : ℕ) → List TableRow
needs_call table listed lent answer = answer_row answer 1 ∷ long_list_row (length listed) ∷ need_rows table listed lent
