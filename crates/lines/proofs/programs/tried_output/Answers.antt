use mathlib.Core.Path.{◌∙◌}
use native.Mathlib.Omega.{arith}
use lib.ListN.{drop}
use Rattle.order.specs.declared.Refusal.TheVariants.{BadFile}
use Rattle.order_file.specs.File.{order_in}
use Rattle.order_file.specs.ReaderLaws.{order_is, file-refused, file-read}
use Rattle.planner.specs.AnswerLaws.{plan-begins}
use Rattle.planner.specs.Rows.{plan_rows}
use Rattle.lines.specs.Programs.{try_bound_rows, bound_in}
use Rattle.text.specs.TextLaws.{put_as}
use Rattle.lines.proofs.Told.{refused-true, read-part, bound-read, tried-short, tried-refused, tried-moved}
use Rattle.lines.proofs.programs.tried_output.Goals as goal

pub returns-then-input-lt4 : goal.returns-then-input-lt4
returns-then-input-lt4 c =
    let input = c.args.input.now in
    let q = c.refused_output.ensures in
    let t = tried-short input c.if-input-lt4.true in
    ((put_as t.1 q.0, q.2 ∙ refused-true _ BadFile t.0), omega (arith, q.1))

pub returns-in-Err : goal.returns-in-Err
unfolding try_bound_rows
returns-in-Err c =
    let input = c.args.input.now in
    let f = drop 4 input in
    let r = c.read_order in
    let why = c.in-Err.refusal in
    let q = c.refused_output-in-Err.ensures in
    let v = file-refused f r.result (read-part input r.result r.ensures.result_value) (plan_rows (order_in f) (bound_in input) 12096) _
    (plan-begins (order_in f) (bound_in input) 12096) why c.in-Err.is in
    let t = tried-refused input (omega (
      arith,
      c.if-input-lt4.false,
    )) why v in
    ((put_as t.1 q.0, q.2 ∙ refused-true _ why t.0), omega (arith, q.1))

pub returns-in-Ok : goal.returns-in-Ok
unfolding try_bound_rows
returns-in-Ok c =
    let input = c.args.input.now in
    let f = drop 4 input in
    let r = c.read_order in
    let ok = c.in-Ok.is in
    let q = c.bound_output.ensures in
    let v = file-read f r.result (read-part input r.result r.ensures.result_value) (plan_rows (order_in f) (bound_in input) 12096) c.in-Ok.order ok in
    let raw = c.read4 in
    let b = bound-read input raw.result _ (omega arith) raw.ensures
    c.to_signed-bound.ensures in (
      tried-moved input
          (omega (arith, c.if-input-lt4.false)) _ _ _ _ _
          (order_is f r.result (read-part input r.result r.ensures.result_value) c.in-Ok.order ok) b v q.0,
      q.1,
    )
