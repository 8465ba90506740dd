use Rattle.std.proofs.Common.{rules, ◌≡◌, false, Err, ap, sym, ◌∙◌}
use Rattle.order.specs.Refusals.{judge}
use Rattle.order.specs.Table.{order_of, acceptance_told}
use Rattle.order.proofs.TableLaws.{refused-answer}
use Rattle.plan.specs.Told.{checked_told}
use Rattle.timed.specs.Times.{times_of}
use Rattle.timed.specs.Rows.{asked_rows, timed_check_rows}
use Rattle.timed.proofs.checking.check_timed.Goals as goal

pub returns-in_err-accept_timed : goal.returns-in_err-accept_timed
unfolding timed_check_rows
returns-in_err-accept_timed c =
    let e = c.in_err-accept_timed in
    let asked = asked_rows (order_of c.args.order) c.args.bound (times_of c.args.times) in
    let is : c.from_residual.result ≡ Err e.field-0.0 = search rules in
    let told : acceptance_told c.accept_timed.result ≡ judge asked = search rules in
    ap checked_told is ∙ refused-answer asked _ e.field-0.0 false _ (sym (ap acceptance_told e.was) ∙ told)
