-- `hbr_book_plan`: the answer's room, the book's length, the reader, then the booked planner decide.
use Rattle.std.specs.Prelude.{Err}
use mathlib.Core.Path.{refl, sym, ap, ◌∙◌}
use lib.ListN.{length}
use mir.ValLaws.{to_z-of_z}
use mir.Syntax.{w32}
use Rattle.order.specs.Table.{order_of}
use Rattle.order_file.specs.File.{order_in}
use Rattle.order_file.specs.ReaderLaws.{order_is, order-accepted}
use Rattle.planner.specs.RowLaws.{written-few}
use Rattle.planner.specs.AnswerLaws.{booked-plan-begins}
use Rattle.planner.specs.declared.NoPlan.TheVariants.{Refused}
use Rattle.highboyrobin.specs.BookCalls.{counts_in}
use Rattle.highboyrobin.proofs.Answering.{book-refused, book-told, book-done}
use Rattle.highboyrobin.proofs.BooksTold.{book-moved, booked-refused, booked-tight, booked-rows}
use Rattle.highboyrobin.proofs.Calling.{list_read, list-refused}
use Rattle.highboyrobin.proofs.Carried.{carried-few, plan-book-carries}
use native.Mathlib.Omega.{arith}
use Rattle.highboyrobin.proofs.book_plan.hbr_book_plan.Goals as goal

pub returns-in-Err : goal.returns-in-Err
returns-in-Err c =
    let a = c.args in
    let f = c.args.file.now in
    let r = c.read_order in
    let t = book-told _ _ _ _ _ _ _ c.in-Err.refusal
    (list-refused f (length a.answer.now) 1 (length a.book.now) 16 c.if-answer-lt1.false
    c.if-book-lt16.false r.result r.ensures.result_value _ _
    (booked-plan-begins (order_in f) a.bound (length a.rows.now) (counts_in a.book.now)) _
    c.in-Err.is) _ c.result_of.ensures _ refl in
    record { value = t.0; plan_by = t.1.0; book_after = t.1.1 }

pub result_of-requires-in-Err-Refused : goal.result_of-requires-in-Err-Refused
result_of-requires-in-Err-Refused c =
    let a = c.args in
    let f = c.args.file.now in
    let o = order_in f in
    let r = c.read_order.result in
    let e = c.read_order.ensures.result_value in
    let ok = c.in-Ok.is in
    let told = c.plan_booked in
    let counts = counts_in a.book.now in
    let same = to_z-of_z w32 a.bound c.ranges.bound in
    let t = book-moved (order_of c.in-Ok.order) o _ a.bound a.rows.now _ _ counts _ told.result
    (order_is f r e _ ok) same c.book_from-booked.ensures ((told.ensures.planned_value, told.ensures.buffer_by), told.ensures.counts_value) in
    let h = booked-refused o a.bound a.rows.now _ counts _ told.result t _ (c.in-Err-Refused.is ∙ ap Err (c.in-Err-Refused.field-0-is ∙ ap Refused (sym c.in-Err-Refused.refusal-is))) in
    carried-few _ _ h.0 (plan-book-carries o a.bound (length a.rows.now) counts)

pub put_count-requires : goal.put_count-requires
put_count-requires c =
    let a = c.args in
    let f = c.args.file.now in
    let o = order_in f in
    let r = c.read_order.result in
    let e = c.read_order.ensures.result_value in
    let ok = c.in-Ok.is in
    let room = c.if-answer-lt1.false in
    let told = c.plan_booked in
    let counts = counts_in a.book.now in
    let same = to_z-of_z w32 a.bound c.ranges.bound in
    let t = book-moved (order_of c.in-Ok.order) o _ a.bound a.rows.now _ _ counts _ told.result
    (order_is f r e _ ok) same c.book_from-booked.ensures ((told.ensures.planned_value, told.ensures.buffer_by), told.ensures.counts_value) in
    let h = booked-rows o a.bound a.rows.now _ counts _ told.result t c.in-Ok-plan_booked.count c.in-Ok-plan_booked.is in
    (omega (arith, written-few (order-accepted f r e _ ok) h.1), room)

pub returns-in-Err-Refused : goal.returns-in-Err-Refused
returns-in-Err-Refused c =
    let a = c.args in
    let f = c.args.file.now in
    let o = order_in f in
    let r = c.read_order.result in
    let e = c.read_order.ensures.result_value in
    let ok = c.in-Ok.is in
    let room = c.if-answer-lt1.false in
    let enough = c.if-book-lt16.false in
    let told = c.plan_booked in
    let counts = counts_in a.book.now in
    let same = to_z-of_z w32 a.bound c.ranges.bound in
    let t = book-moved (order_of c.in-Ok.order) o _ a.bound a.rows.now _ _ counts _ told.result
    (order_is f r e _ ok) same c.book_from-booked.ensures ((told.ensures.planned_value, told.ensures.buffer_by), told.ensures.counts_value) in
    let h = booked-refused o a.bound a.rows.now _ counts _ told.result t _ (c.in-Err-Refused.is ∙ ap Err (c.in-Err-Refused.field-0-is ∙ ap Refused (sym c.in-Err-Refused.refusal-is))) in
    let t = book-told _ _ _ _ _ _ _ _
    (list_read f (length a.answer.now) 1 (length a.book.now) 16 room enough r e _ _ ok ∙ h.0)
    _ c.result_of-in-Err-Refused.ensures _ h.1 in
    record { value = t.0; plan_by = t.1.0; book_after = t.1.1 }

pub returns-in-Err-TooTight : goal.returns-in-Err-TooTight
returns-in-Err-TooTight c =
    let a = c.args in
    let f = c.args.file.now in
    let o = order_in f in
    let r = c.read_order.result in
    let e = c.read_order.ensures.result_value in
    let ok = c.in-Ok.is in
    let room = c.if-answer-lt1.false in
    let enough = c.if-book-lt16.false in
    let told = c.plan_booked in
    let counts = counts_in a.book.now in
    let same = to_z-of_z w32 a.bound c.ranges.bound in
    let t = book-moved (order_of c.in-Ok.order) o _ a.bound a.rows.now _ _ counts _ told.result
    (order_is f r e _ ok) same c.book_from-booked.ensures ((told.ensures.planned_value, told.ensures.buffer_by), told.ensures.counts_value) in
    let h = booked-tight o a.bound a.rows.now _ counts _ told.result t _ _ (c.in-Err-TooTight.is ∙ ap Err c.in-Err-TooTight.field-0-is) in
    let t = book-refused _ _ _ _ _ _ _ 10 0
    (list_read f (length a.answer.now) 1 (length a.book.now) 16 room enough r e _ _ ok ∙ h.0) _ h.1 in
    record { value = t.0; plan_by = t.1.0; book_after = t.1.1 }

pub returns-in-Ok-plan_booked : goal.returns-in-Ok-plan_booked
returns-in-Ok-plan_booked c =
    let a = c.args in
    let f = c.args.file.now in
    let o = order_in f in
    let r = c.read_order.result in
    let e = c.read_order.ensures.result_value in
    let ok = c.in-Ok.is in
    let room = c.if-answer-lt1.false in
    let enough = c.if-book-lt16.false in
    let told = c.plan_booked in
    let counts = counts_in a.book.now in
    let same = to_z-of_z w32 a.bound c.ranges.bound in
    let t = book-moved (order_of c.in-Ok.order) o _ a.bound a.rows.now _ _ counts _ told.result
    (order_is f r e _ ok) same c.book_from-booked.ensures ((told.ensures.planned_value, told.ensures.buffer_by), told.ensures.counts_value) in
    let h = booked-rows o a.bound a.rows.now _ counts _ told.result t c.in-Ok-plan_booked.count c.in-Ok-plan_booked.is in
    let t = book-done _ _ _ _ _ _ a.book.now _
    (list_read f (length a.answer.now) 1 (length a.book.now) 16 room enough r e _ _ ok) h.0 _ _ _ _
    (record {
      count = c.in-Ok-plan_booked.count;
      written = h.1;
      answered = c.put_count.ensures;
    }) t.1 c.put_book.ensures in
    record { value = t.0; plan_by = t.1.0; book_after = t.1.1 }
