-- What filling in answers, as numbers of the refusal table.
use Rattle.std.specs.Prelude.{ℕ, Result, Ok, Err}
use Rattle.order.specs.Refusals.{Answer, answer, refusal}
use Rattle.needs.specs.declared.Unfilled.{Unfilled}
use Rattle.needs.specs.declared.Unfilled.TheVariants.{NoLine, TwoLines, LengthOutOfRange, BufferTooShort}

-- how many needs were filled in, or the refusal: 17 and 18 carry a length, 5 a place in the list, counted from 1
abbrev pub filled_told : Result ℕ Unfilled → Answer ℕ
filled_told (Ok n) = answer n
filled_told (Err (NoLine x)) = refusal 17 x
filled_told (Err (TwoLines x)) = refusal 18 x
filled_told (Err (LengthOutOfRange place)) = refusal 5 place
filled_told (Err BufferTooShort) = refusal 9 0
