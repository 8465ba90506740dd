-- What composing and reading back judge and answer.
use Rattle.std.specs.Prelude.{ℕ, List, [], ◌∷◌, ◌++◌, ℤ, length, Result, Ok, Err}
use Rattle.order.specs.Order.{Order}
use Rattle.order.specs.Refusals.{limits, TableRow, Verdict, accepted, Answer, answer, answer_by, order_rows, bound_row, room_row}
use Rattle.order.specs.Table.{refusal_told}
use Rattle.order.specs.declared.Refusal.{Refusal}
use Rattle.reason.specs.declared.Why.{Why}
use Rattle.sentence.specs.Handed.{handed}
use Rattle.sentence.specs.Line.{composed}

-- "1 to 8 apply, and a line longer than its buffer is 9"
unfoldable pub compose_rows : Order → ℤ → Why → ℕ → List TableRow
compose_rows o bound why lent =
    order_rows limits o ++ (bound_row bound ∷ room_row lent (length (composed o bound (handed o why))) ∷ [])

-- the length of the line, or the refusal
abbrev pub composed_told : Result ℕ Refusal → Answer ℕ
composed_told (Ok n) = answer n
composed_told (Err r) = answer_by (refusal_told r) 0

abbrev pub length_told : Result ℕ Refusal → ℕ
length_told (Ok n) = n
length_told (Err r) = 0

-- reading back judges the rows of acceptance, then 8
unfoldable pub read_rows : Order → ℤ → List TableRow
read_rows o bound = order_rows limits o ++ (bound_row bound ∷ [])

abbrev pub recovered_told : Result Why Refusal → Verdict
recovered_told (Ok why) = accepted
recovered_told (Err r) = refusal_told r
