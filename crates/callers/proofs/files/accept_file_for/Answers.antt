use Rattle.std.proofs.Common.{rules, ◌≡◌, None, Some, Err, ap, ◌∙◌}
use Rattle.order.specs.Callers.{limits_of}
use Rattle.order.specs.Table.{acceptance_told}
use Rattle.order.specs.declared.Refusal.TheVariants.{BadFile}
use Rattle.callers.proofs.Trailing.{file-bad, processors-fit, jobs-fit, file-counted}
use Rattle.callers.proofs.files.accept_file_for.Goals as goal

pub returns-in_err-lists : goal.returns-in_err-lists
returns-in_err-lists c =
    let r = c.read_trailer in
    let none : r.result ≡ None = c.in_err-lists.ensures.ok_part in
    let is : c.from_residual.result ≡ Err BadFile = search rules in
    ap acceptance_told is ∙ file-bad c.args.file.now r.result r.ensures.value (limits_of c.args.caller) none

pub overflow_cast-lists : goal.overflow_cast-lists
overflow_cast-lists c =
    let r = c.read_trailer in
    let some : r.result ≡ Some c.in_ok-lists.lists = c.in_ok-lists.ensures.ok_part in
    let fit = processors-fit c.args.file.now r.result r.ensures.value _ r.ensures.within some in
    search (rules, fit)

pub overflow_cast-lists-2 : goal.overflow_cast-lists-2
overflow_cast-lists-2 c =
    let r = c.read_trailer in
    let some : r.result ≡ Some c.in_ok-lists.lists = c.in_ok-lists.ensures.ok_part in
    let fit = jobs-fit c.args.file.now r.result r.ensures.value _ r.ensures.within some in
    search (rules, fit)

pub returns : goal.returns
returns c =
    let r = c.read_trailer in
    let some : r.result ≡ Some c.in_ok-lists.lists = c.in_ok-lists.ensures.ok_part in
    file-counted c.args.file.now r.result r.ensures.value _ r.ensures.within some _ _ c.accept_counts_for.ensures
