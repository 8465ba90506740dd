use Rattle.std.proofs.Common.{rules, ◌≡◌, Err, ap, ◌∙◌}
use Rattle.order_file.specs.Told.{read_told}
use Rattle.callers.proofs.Trailing.{read-refused, read-passed}
use Rattle.callers.proofs.files.read_order_for.Goals as goal

pub returns-in_err-accept_file_for-clause-result_value : goal.returns-in_err-accept_file_for-clause-result_value
returns-in_err-accept_file_for-clause-result_value c =
    let k = c.accept_file_for in
    let why = c.in_err-accept_file_for.field-0.0 in
    let is : c.from_residual.result ≡ Err why = search rules in
    ap read_told is ∙ (read-refused c.args.caller c.args.file.now k.result k.ensures why c.in_err-accept_file_for.was).0

pub returns : goal.returns
returns c =
    let k = c.accept_file_for in
    let t = read-passed c.args.caller c.args.file.now k.result k.ensures c.in_ok-accept_file_for.was
    c.read_order.result (c.read_order.ensures.result_value, c.read_order.ensures.order_value) in
    record { result_value = t.0; order_value = t.1 }
