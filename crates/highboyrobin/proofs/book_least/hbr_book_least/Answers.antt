-- `hbr_book_least`: the answer's room, the book's length, the reader, then the booked planner decide.
use mathlib.Core.Path.{refl, ap, ◌∙◌}
use mathlib.Core.List.{◌∷◌}
use lib.IntN.{ℤ, pos}
use lib.ListN.{length, drop}
use Rattle.order.specs.Table.{order_of}
use Rattle.order_file.specs.File.{order_in}
use Rattle.order_file.specs.ReaderLaws.{order_is, order-accepted}
use Rattle.planner.specs.RowLaws.{written-few}
use Rattle.planner.specs.AnswerLaws.{booked-least-begins}
use Rattle.profile.specs.LeastRead.{read-least}
use Rattle.profile.proofs.LeastRange.{least-in-range}
use Rattle.highboyrobin.specs.BookCalls.{counts_in}
use Rattle.highboyrobin.proofs.Answering.{book-told, book-done}
use Rattle.highboyrobin.proofs.BooksTold.{least-book-moved, least-book-refused, least-book-at}
use Rattle.highboyrobin.proofs.Calling.{list_read, list-refused}
use Rattle.highboyrobin.proofs.Carried.{carried-few, least-book-carries}
use native.Mathlib.Omega.{arith}
use Rattle.highboyrobin.proofs.book_least.hbr_book_least.Goals as goal

pub returns-in-Err : goal.returns-in-Err
returns-in-Err c =
    let a = c.args in
    let f = c.args.file.now in
    let r = c.read_order in
    let t = book-told _ _ _ _ _ _ _ c.in-Err.refusal
    (list-refused f (length a.answer.now) 2 (length a.book.now) 16 c.if-answer-lt2.false
    c.if-book-lt16.false r.result r.ensures.result_value _ _
    (booked-least-begins (order_in f) (length a.rows.now) (counts_in a.book.now)) _
    c.in-Err.is) _ c.result_of.ensures _ refl in
    record { value = t.0; plan_by = t.1.0; book_after = t.1.1 }

pub result_of-requires-in-Err-least_booked : goal.result_of-requires-in-Err-least_booked
result_of-requires-in-Err-least_booked c =
    let a = c.args in
    let f = c.args.file.now in
    let o = order_in f in
    let r = c.read_order.result in
    let e = c.read_order.ensures.result_value in
    let ok = c.in-Ok.is in
    let told = c.least_booked in
    let counts = counts_in a.book.now in
    let t = least-book-moved (order_of c.in-Ok.order) o a.rows.now _ _ counts _ told.result
    (order_is f r e _ ok) c.book_from-booked.ensures ((told.ensures.least_value, told.ensures.buffer_by), told.ensures.counts_value) in
    let h = least-book-refused o a.rows.now _ counts _ told.result t c.in-Err-least_booked.refusal c.in-Err-least_booked.is in
    carried-few _ _ h.0 (least-book-carries o (length a.rows.now) counts)

pub put_least-requires : goal.put_least-requires
put_least-requires c =
    let a = c.args in
    let f = c.args.file.now in
    let o = order_in f in
    let r = c.read_order.result in
    let e = c.read_order.ensures.result_value in
    let ok = c.in-Ok.is in
    let room = c.if-answer-lt2.false in
    let told = c.least_booked in
    let counts = counts_in a.book.now in
    let t = least-book-moved (order_of c.in-Ok.order) o a.rows.now _ _ counts _ told.result
    (order_is f r e _ ok) c.book_from-booked.ensures ((told.ensures.least_value, told.ensures.buffer_by), told.ensures.counts_value) in
    let h = least-book-at o a.rows.now _ counts _ told.result t c.in-Ok-least_booked.least c.in-Ok-least_booked.is in
    (omega (arith, written-few (order-accepted f r e _ ok) h.2), room)

pub returns-in-Err-least_booked : goal.returns-in-Err-least_booked
returns-in-Err-least_booked c =
    let a = c.args in
    let f = c.args.file.now in
    let o = order_in f in
    let r = c.read_order.result in
    let e = c.read_order.ensures.result_value in
    let ok = c.in-Ok.is in
    let room = c.if-answer-lt2.false in
    let enough = c.if-book-lt16.false in
    let told = c.least_booked in
    let counts = counts_in a.book.now in
    let t = least-book-moved (order_of c.in-Ok.order) o a.rows.now _ _ counts _ told.result
    (order_is f r e _ ok) c.book_from-booked.ensures ((told.ensures.least_value, told.ensures.buffer_by), told.ensures.counts_value) in
    let h = least-book-refused o a.rows.now _ counts _ told.result t c.in-Err-least_booked.refusal c.in-Err-least_booked.is in
    let t = book-told _ _ _ _ _ _ _ c.in-Err-least_booked.refusal
    (list_read f (length a.answer.now) 2 (length a.book.now) 16 room enough r e _ _ ok ∙ h.0)
    _ c.result_of-in-Err-least_booked.ensures _ h.1 in
    record { value = t.0; plan_by = t.1.0; book_after = t.1.1 }

pub returns-in-Ok-least_booked : goal.returns-in-Ok-least_booked
returns-in-Ok-least_booked c =
    let a = c.args in
    let f = c.args.file.now in
    let o = order_in f in
    let r = c.read_order.result in
    let e = c.read_order.ensures.result_value in
    let ok = c.in-Ok.is in
    let room = c.if-answer-lt2.false in
    let enough = c.if-book-lt16.false in
    let told = c.least_booked in
    let counts = counts_in a.book.now in
    let t = least-book-moved (order_of c.in-Ok.order) o a.rows.now _ _ counts _ told.result (order_is f r e _ ok)
    c.book_from-booked.ensures ((told.ensures.least_value, told.ensures.buffer_by), told.ensures.counts_value) in
    let h = least-book-at o a.rows.now _ counts _ told.result t c.in-Ok-least_booked.least c.in-Ok-least_booked.is in
    let t = book-done _ _ _ _ _ _ a.book.now _
    (list_read f (length a.answer.now) 2 (length a.book.now) 16 room enough r e _ _ ok) h.0 _ _ _ _
    (record {
      count = c.in-Ok-least_booked.least.rows;
      written = h.2;
      answered = c.put_least.ensures ∙ ap (λ (z : ℤ). z ∷ pos c.in-Ok-least_booked.least.rows ∷ drop 2 a.answer.now)
          (read-least _ _ h.1 (least-in-range o (order-accepted f r e _ ok)));
    }) t.1 c.put_book.ensures in
    record { value = t.0; plan_by = t.1.0; book_after = t.1.1 }
