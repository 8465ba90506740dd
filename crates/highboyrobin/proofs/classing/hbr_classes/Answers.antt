-- `hbr_classes`: the answer's room, the list's length, then the reader decide.
use mathlib.Core.Path.{sym, ap, ◌∙◌}
use mathlib.Core.List.{[], append-nil}
use lib.ListN.{length}
use Rattle.order.specs.Order.{Order}
use Rattle.order.specs.Refusals.{limits, order_rows}
use Rattle.order.proofs.RefusalLaws.{accepted-iff}
use Rattle.order_file.specs.File.{order_in}
use Rattle.order_file.specs.ReaderLaws.{order_is, order-accepted}
use Rattle.table.specs.Passed.{listing}
use Rattle.highboyrobin.proofs.Calling.{list_read, list-refused}
use Rattle.highboyrobin.proofs.ClassesTold.{listed_few, classes-why, classes-done}
use native.Mathlib.Omega.{arith}
use Rattle.highboyrobin.proofs.classing.hbr_classes.Goals as goal

pub returns-in-Err : goal.returns-in-Err
returns-in-Err c =
    let a = c.args in
    let f = c.args.file.now in
    let rows = order_rows limits (order_in f) in
    let t = classes-why _ (order_in f) _ _ c.in-Err.refusal
    (list-refused f (length a.answer.now) 1 (length a.classes.now) 32 c.if-answer-lt1.false c.if-classes-lt32.false
    c.read_order.result c.read_order.ensures.result_value rows [] (sym (append-nil rows)) _ c.in-Err.is)
    _ c.result_of.ensures in
    record { value = t.0; classes_after = t.1.0; answer_after = t.1.1 }

pub put_classes-requires : goal.put_classes-requires
put_classes-requires c =
    let r = c.read_order in
    let found = c.classes_of-found in
    (listed_few c.args.file.now r.result r.ensures.result_value _ c.in-Ok.is found.result found.ensures, c.if-classes-lt32.false)

pub overflow_cast-found : goal.overflow_cast-found
overflow_cast-found c =
    let r = c.read_order in
    let found = c.classes_of-found in
    omega (arith, listed_few c.args.file.now r.result r.ensures.result_value _ c.in-Ok.is found.result found.ensures)

pub put_count-requires : goal.put_count-requires
put_count-requires c =
    let r = c.read_order in
    let found = c.classes_of-found in
    let few = listed_few c.args.file.now r.result r.ensures.result_value _ c.in-Ok.is found.result found.ensures in
    (omega (arith, few), c.if-answer-lt1.false)

pub returns : goal.returns
returns c =
    let a = c.args in
    let f = c.args.file.now in
    let r = c.read_order.result in
    let e = c.read_order.ensures.result_value in
    let ok = c.in-Ok.is in
    let o = order_in f in
    let k = c.classes_of-found in
    let good = order-accepted f r e _ ok in
    let t = classes-done _ o _ _
    (list_read f (length a.answer.now) 1 (length a.classes.now) 32 c.if-answer-lt1.false c.if-classes-lt32.false r e _ _ ok
    ∙ good)
    ((accepted-iff o).0 good).few-processors k.result (k.ensures ∙ ap (λ (o : Order). listing o) (order_is f r e _ ok)) _ _
    c.put_classes.ensures c.put_count.ensures in
    record { value = t.0; classes_after = t.1.0; answer_after = t.1.1 }
