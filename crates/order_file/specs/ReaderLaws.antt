-- What the reader's answer says of a file: its verdict, its order, and the verdict of an entry point that takes a file and whose
-- rows begin with the order's.
use Rattle.std.specs.Prelude.{ℕ, ◌≡◌, List, [], ◌∷◌, ◌++◌, Result, Ok, Err}
use Rattle.std.proofs.Math.Path.{sym}
use Rattle.std.proofs.Common.{ap, ◌∙◌}
use Rattle.order.specs.Order.{Order, no_order}
use Rattle.order.specs.Refusals.{limits, TableRow, Verdict, accepted, judge, answer_by, order_rows, file_row, Accepted}
use Rattle.order.proofs.RefusalLaws.{judge-accepted, judge-clear, judge-refused-append}
use Rattle.order.specs.Table.{order_of, refusal_told}
use Rattle.order.proofs.TableLaws.{refused-told, verdict-refused, verdict-accepted}
use Rattle.order.specs.declared.Order.{Order as OrderTable}
use Rattle.order.specs.declared.Refusal.{Refusal}
use Rattle.order_file.specs.File.{good_file, order_in, read_rows}
use Rattle.order_file.specs.Told.{read_told}

-- what an answer tells of the verdict, whichever rows were judged
module _ (v : Verdict) (o : Order) (r : Result OrderTable Refusal) (e : read_told r ≡ answer_by v o) where
  pub read-refused : (why : Refusal) → r ≡ Err why → v ≡ refusal_told why
  read-refused why is = verdict-refused v why no_order o (sym (ap read_told is) ∙ e)

  pub read-accepted : (t : OrderTable) → r ≡ Ok t → (v ≡ accepted) × (order_of t ≡ o)
  read-accepted t is = verdict-accepted v (order_of t) o (sym (ap read_told is) ∙ e)

module _ (f : List ℕ) (r : Result OrderTable Refusal) (e : read_told r ≡ answer_by (judge (read_rows f)) (order_in f)) where
  -- the reader refuses
  pub reader-refused : (why : Refusal) → r ≡ Err why → judge (read_rows f) ≡ refusal_told why
  reader-refused = read-refused (judge (read_rows f)) (order_in f) r e

  -- the reader accepts
  reader-accepted : (t : OrderTable) → r ≡ Ok t → (judge (read_rows f) ≡ accepted) × (order_of t ≡ order_in f)
  reader-accepted = read-accepted (judge (read_rows f)) (order_in f) r e

  pub order_is : (t : OrderTable) → r ≡ Ok t → order_of t ≡ order_in f
  order_is t is = (reader-accepted t is).1

  pub order-accepted : (t : OrderTable) → r ≡ Ok t → Accepted (order_in f)
  unfolding read_rows
  order-accepted t is =
      (judge-accepted (order_rows limits (order_in f))).1 ((judge-accepted (read_rows f)).0 (reader-accepted t is).0).1

  -- the reader's refusal is the entry point's, since its rows begin with the order's
  pub file-refused : (rows later : List TableRow) → rows ≡ order_rows limits (order_in f) ++ later → (why : Refusal) →
      r ≡ Err why → judge (file_row (good_file f) ∷ rows) ≡ refusal_told why
  unfolding read_rows
  file-refused rows later begins why is =
      let t = refused-told why in
      rw begins (judge-refused-append (read_rows f) later t.0 t.1 (reader-refused why is ∙ t.2) ∙ sym t.2)

  -- where the reader accepts, its rows decide
  pub file-read : (rows : List TableRow) (t : OrderTable) → r ≡ Ok t → judge (file_row (good_file f) ∷ rows) ≡ judge rows
  unfolding read_rows
  file-read rows t is =
      judge-clear (file_row (good_file f) ∷ []) rows (((judge-accepted (read_rows f)).0 (reader-accepted t is).0).0, tt)
