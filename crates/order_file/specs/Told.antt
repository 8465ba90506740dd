-- What the code's answers stand for.
use Rattle.std.specs.Prelude.{ℕ, ◌≡◌, Result, Ok, Err, IfOk}
use Rattle.order.specs.Order.{Order, no_order}
use Rattle.order.specs.Refusals.{Verdict, Answer, answer, answer_by}
use Rattle.order.specs.Table.{order_of, table_of, refusal_told}
use Rattle.order.specs.declared.Order.{Order as OrderTable}
use Rattle.order.specs.declared.Refusal.{Refusal}

-- the reader's: the order, or the refusal
abbrev pub read_told : Result OrderTable Refusal → Answer Order
read_told (Ok t) = answer (order_of t)
read_told (Err r) = answer_by (refusal_told r) no_order

-- all that it answers, by the verdict
abbrev pub ReadBy : Verdict → Order → Result OrderTable Refusal → Type 0
ReadBy v o r = (read_told r ≡ answer_by v o) × IfOk r (λ t. t ≡ table_of o)

-- the writer's: the file's length, or the refusal
abbrev pub written_told : Result ℕ Refusal → Answer ℕ
written_told (Ok n) = answer n
written_told (Err r) = answer_by (refusal_told r) 0
