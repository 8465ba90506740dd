use Rattle.highboyrobin.proofs.ClassesTold.{classes-why}
use Rattle.highboyrobin.proofs.Screening.{for-list-refused, same-replies, ClassesBy}
use Rattle.highboyrobin.specs.ScreenCallLaws.{classes-itself}
use Rattle.order.specs.Refusals.{limits, order_rows}
use Rattle.order_file.specs.File.{order_in}
use lib.ListN.{length}
use mathlib.Core.List.{[], append-nil}
use mathlib.Core.Path.{sym}
use Rattle.highboyrobin.proofs.classing_for.classes_for.Goals as goal

pub returns-in-Err : goal.returns-in-Err
returns-in-Err c =
    let k = c.accept_file_for in
    let rows = order_rows limits (order_in c.args.file.now) in
    let t = classes-why _ (order_in c.args.file.now) _ _ c.in-Err.refusal
    (for-list-refused c.args.caller c.args.file.now (length c.args.answer.now) 1 (length c.args.classes.now) 32
    c.if-answer-lt1.false c.if-classes-lt32.false
    k.result k.ensures _ c.in-Err.is rows [] (sym (append-nil rows)))
    _ c.result_of.ensures in
    record { value = t.0; classes_after = t.1.0; answer_after = t.1.1 }

pub returns : goal.returns
returns c =
    let k = c.accept_file_for in
    let d = c.hbr_classes in
    let t = same-replies c.args.caller c.args.file.now k.result k.ensures
    c.in_default.is
    (ClassesBy (order_in c.args.file.now) c.args.classes.now c.args.answer.now d.result _ _)
    (classes-itself c.args.file.now (length c.args.classes.now) (length c.args.answer.now)) (c.hbr_classes.ensures.value, (c.hbr_classes.ensures.classes_after, c.hbr_classes.ensures.answer_after)) in
    record { value = t.0; classes_after = t.1.0; answer_after = t.1.1 }
