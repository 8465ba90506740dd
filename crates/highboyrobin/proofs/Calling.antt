-- How a call that takes a file comes to its verdict: the answer's room first, then the reader, then the entry point.
use Rattle.std.specs.Prelude.{Result, Ok, Err}
use Prim.Native.Nat.{ℕ, ◌≤◌}
use mathlib.Core.Path.{◌≡◌, refl, sym, subst, ◌∙◌}
use mathlib.Core.List.{List, [], ◌∷◌, ◌++◌}
use borrow.Author.Tests.{le-ltb}
use Rattle.order.specs.Refusals.{limits, TableRow, judge, answer_by, order_rows, file_row, Accepted}
use Rattle.order.proofs.RefusalLaws.{judge-clear}
use Rattle.order.specs.Table.{order_of, refusal_told}
use Rattle.order.specs.declared.Order.{Order as OrderTable}
use Rattle.order.specs.declared.Refusal.{Refusal}
use Rattle.order_file.specs.File.{good_file, order_in, read_rows}
use Rattle.order_file.specs.ReaderLaws.{file-refused, file-read, order_is, order-accepted}
use Rattle.order_file.specs.Told.{read_told}
use Rattle.highboyrobin.specs.Results.{answer_row, file_call, short_list_row, list_call}

-- an order that was read is accepted
pub read_accepted : (f : List ℕ) (r : Result OrderTable Refusal) → read_told r ≡ answer_by (judge (read_rows f)) (order_in f) →
    (t : OrderTable) → r ≡ Ok t → Accepted (order_of t)
read_accepted f r e t is = subst Accepted (sym (order_is f r e t is)) (order-accepted f r e t is)

module _ (f : List ℕ) (lent asked : ℕ) (r : Result OrderTable Refusal) (e : read_told r ≡ answer_by (judge (read_rows f)) (order_in f))
    (room : asked ≤ lent) where
  room-clear : (rows : List TableRow) → judge (file_call lent asked f rows) ≡ judge (file_row (good_file f) ∷ rows)
  unfolding file_call
  room-clear rows = judge-clear (answer_row lent asked ∷ []) (file_row (good_file f) ∷ rows) (rw (le-ltb lent asked room) refl, tt)

  -- the reader's refusal is the call's, since its rows begin with the order's
  pub call-refused : (rows later : List TableRow) → rows ≡ order_rows limits (order_in f) ++ later → (why : Refusal) → r ≡ Err why →
      judge (file_call lent asked f rows) ≡ refusal_told why
  call-refused rows later begins why is = room-clear rows ∙ file-refused f r e rows later begins why is

  pub call-read : (rows : List TableRow) (t : OrderTable) → r ≡ Ok t → judge (file_call lent asked f rows) ≡ judge rows
  call-read rows t is = room-clear rows ∙ file-read f r e rows t is

-- of a call with a list: the answer's room, the list's length, then the same
module _ (f : List ℕ) (lent asked numbers wanted : ℕ) (room : asked ≤ lent) (enough : wanted ≤ numbers) (r : Result OrderTable Refusal)
    (e : read_told r ≡ answer_by (judge (read_rows f)) (order_in f)) where
  list-clear : (rows : List TableRow) → judge (list_call lent asked numbers wanted f rows) ≡ judge (file_row (good_file f) ∷ rows)
  unfolding list_call
  list-clear rows =
      judge-clear (answer_row lent asked ∷ short_list_row numbers wanted ∷ []) (file_row (good_file f) ∷ rows)
      (rw (le-ltb lent asked room) refl, (rw (le-ltb numbers wanted enough) refl, tt))

  pub list-refused : (rows later : List TableRow) → rows ≡ order_rows limits (order_in f) ++ later → (why : Refusal) → r ≡ Err why →
      judge (list_call lent asked numbers wanted f rows) ≡ refusal_told why
  list-refused rows later begins why is = list-clear rows ∙ file-refused f r e rows later begins why is

  pub list_read : (rows : List TableRow) (t : OrderTable) → r ≡ Ok t → judge (list_call lent asked numbers wanted f rows) ≡ judge rows
  list_read rows t is = list-clear rows ∙ file-read f r e rows t is
