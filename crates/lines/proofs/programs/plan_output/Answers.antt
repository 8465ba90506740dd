use mathlib.Core.Path.{sym, subst, ◌∙◌}
use native.Mathlib.Omega.{arith}
use Rattle.order.specs.Refusals.{Accepted}
use Rattle.order_file.specs.File.{order_in}
use Rattle.order_file.specs.ReaderLaws.{order_is, order-accepted, file-refused, file-read}
use Rattle.planner.specs.AnswerLaws.{least-begins}
use Rattle.planner.specs.Rows.{least_rows}
use Rattle.lines.specs.Programs.{plan_order_rows}
use Rattle.lines.proofs.Told.{refused-text, refused-true, least-moved}
use Rattle.lines.proofs.programs.plan_output.Goals as goal

pub returns-in-Err : goal.returns-in-Err
unfolding plan_order_rows
returns-in-Err c =
    let f = c.args.file.now in
    let r = c.read_order in
    let why = c.in-Err.refusal in
    let v = file-refused f r.result r.ensures.result_value (least_rows (order_in f) 12096) _ (least-begins (order_in f) 12096) why
    c.in-Err.is in
    let q = c.refused_output.ensures in (
      record { text = _; text-is = refused-text _ (order_in f) why v; put = q.0; told = q.2 ∙ refused-true _ why v },
      omega (arith, q.1),
    )

pub least_output-requires : goal.least_output-requires
least_output-requires c =
    let f = c.args.file.now in
    let r = c.read_order in
    let ok = c.in-Ok.is in
    (subst Accepted (sym (order_is f r.result r.ensures.result_value c.in-Ok.order ok)) (order-accepted f r.result r.ensures.result_value c.in-Ok.order ok), omega arith)

pub returns-in-Ok : goal.returns-in-Ok
unfolding plan_order_rows
returns-in-Ok c =
    let f = c.args.file.now in
    let r = c.read_order in
    let ok = c.in-Ok.is in
    let q = c.least_output.ensures in
    let v = file-read f r.result r.ensures.result_value (least_rows (order_in f) 12096) c.in-Ok.order ok in
    (least-moved f c.in-Ok.order _ _ _ (order_is f r.result r.ensures.result_value c.in-Ok.order ok) v q.0, q.1)
