use mathlib.Core.Path.{◌∙◌}
use native.Mathlib.Omega.{arith}
use Rattle.profile.specs.Least.{least_lateness}
use Rattle.profile.proofs.LeastRange.{least-in-range}
use Rattle.profile.specs.LeastRead.{read-least}
use Rattle.order.specs.Table.{order_of}
use Rattle.planner.specs.RowLaws.{written-few}
use Rattle.lines.proofs.Told.{
  blank,
  blank-size,
  refused-text,
  refused-true,
  accepted-false,
  written-room,
  least-told,
  least-written,
  plan-text,
  plan-order-text,
}
use Rattle.lines.proofs.programs.least_output.Goals as goal

pub put_plan-requires : goal.put_plan-requires
put_plan-requires c =
    let o = order_of c.args.order in
    let l = c.least_lateness in
    let w = (least-written o blank _ _ (l.ensures.result_value, l.ensures.buffer_by) blank-size _ c.in-Ok.is).2 in
    (written-few c.requires.0 w, written-room w, omega arith)

pub returns-in-Err : goal.returns-in-Err
returns-in-Err c =
    let o = order_of c.args.order in
    let l = c.least_lateness in
    let why = c.in-Err.refusal in
    let v = least-told o blank _ _ (l.ensures.result_value, l.ensures.buffer_by) blank-size why
    c.in-Err.is in
    let q = c.refused_output.ensures in (
      record { text = _; text-is = refused-text _ o why v; put = q.0; told = q.2 ∙ refused-true _ why v },
      omega (arith, q.1),
    )

pub returns-in-Ok : goal.returns-in-Ok
returns-in-Ok c =
    let o = order_of c.args.order in
    let l = c.least_lateness in
    let h = least-written o blank _ _ (l.ensures.result_value, l.ensures.buffer_by) blank-size _
    c.in-Ok.is in
    let q = c.put_plan.ensures in (
      record {
        text = _;
        text-is = plan-order-text _ o _ h.0 (plan-text o blank _ _ _
            (read-least _ (least_lateness o) h.1 (least-in-range o c.requires.0)) h.2);
        put = q.0;
        told = accepted-false _ h.0;
      },
      q.1,
    )
