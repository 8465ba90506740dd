-- `read_order`: the file, the counts and the whole order are judged one after the other, as the refusal table has them.
use Rattle.std.proofs.Common.{rules, ◌≡◌, None, Some, Ok, Err, refl, ap, ◌∙◌}
use Rattle.order.specs.Table.{acceptance_told}
use Rattle.order.specs.declared.Refusal.TheVariants.{BadFile}
use Rattle.order_file.specs.File.{order_in}
use Rattle.order_file.proofs.Reading.{refused-read, accepted-read, bad-file, counts-refused, stands-for, stands, verdict}
use Rattle.order_file.proofs.read.read_order.Goals as goal

pub returns-in_err-lists-clause-result_value : goal.returns-in_err-lists-clause-result_value
returns-in_err-lists-clause-result_value c =
    let f = c.args.file.now in
    let none : c.read_trailer.result ≡ None = c.in_err-lists.ensures.ok_part in
    let is : c.from_residual.result ≡ Err BadFile = search rules in
    (refused-read _ (order_in f) _ BadFile is (bad-file f _ c.read_trailer.ensures.value none)).0

pub returns-in_err-order-clause-result_value : goal.returns-in_err-order-clause-result_value
returns-in_err-order-clause-result_value c =
    let f = c.args.file.now in
    let why = c.in_err-order.field-0.0 in
    let some : c.read_trailer.result ≡ Some c.in_ok-lists.lists = c.in_ok-lists.ensures.ok_part in
    let is : c.from_residual-in_err-order.result ≡ Err why = search rules in
    (refused-read _ (order_in f) _ why is (counts-refused f _ c.read_trailer.ensures.value c.in_ok-lists.lists
    c.read_trailer.ensures.within some _ c.read_counted.ensures why c.in_err-order.was)).0

pub returns-in_err-accept-clause-result_value : goal.returns-in_err-accept-clause-result_value
returns-in_err-accept-clause-result_value c =
    let f = c.args.file.now in
    let why = c.in_err-accept.field-0.0 in
    let some : c.read_trailer.result ≡ Some c.in_ok-lists.lists = c.in_ok-lists.ensures.ok_part in
    let is : c.from_residual-in_err-accept.result ≡ Err why = search rules in
    let told = verdict f _ c.read_trailer.ensures.value c.in_ok-lists.lists c.read_trailer.ensures.within some _
    c.read_counted.ensures c.in_ok-order.order c.in_ok-order.was _ c.accept.ensures in
    (refused-read _ (order_in f) _ why is (told ∙ ap acceptance_told c.in_err-accept.was)).0

pub returns-clause-result_value : goal.returns-clause-result_value
returns-clause-result_value c =
    let f = c.args.file.now in
    let l = c.in_ok-lists.lists in
    let o = c.in_ok-order.order in
    let given = c.read_trailer.ensures in
    let some : c.read_trailer.result ≡ Some l = c.in_ok-lists.ensures.ok_part in
    let told = verdict f _ given.value l given.within some _ c.read_counted.ensures o c.in_ok-order.was _ c.accept.ensures in
    (accepted-read _ (order_in f) (Ok o) o refl (told ∙ ap acceptance_told c.in_ok-accept.was)
    (stands-for f _ given.value l given.within some _ c.read_counted.ensures o c.in_ok-order.was)
    (stands f _ given.value l given.within some _ c.read_counted.ensures o c.in_ok-order.was)).0
