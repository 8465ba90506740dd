use Rattle.std.proofs.Common.{rules, ◌≡◌, Err, length, subst, sym}
use mir.Syntax.{w32}
use mir.ValLaws.{to_z-of_z}
use Rattle.order.specs.Table.{order_of}
use Rattle.planner.proofs.Answers.{Ensured, refused-ensured, rows-ensured, made, written_at, judged-at}
use Rattle.planner.proofs.bound.plan_at.Goals as goal

pub returns-in_err-table : goal.returns-in_err-table
returns-in_err-table c =
    let o = order_of c.args.order in
    let rows = c.args.rows.now in
    let n = length rows in
    let e = to_z-of_z w32 c.args.bound c.ranges.bound in
    let no_plan = c.in_err-table.field-0.0 in
    let is : c.from_residual.result ≡ Err no_plan = search rules in
    let t = subst (Ensured o c.args.bound n rows rows) (sym is)
    (refused-ensured o c.args.bound n _ (judged-at e c.judge_bound.ensures) rows no_plan c.in_err-table.was) in
    record { planned_value = t.0; reason_told = t.1.0; buffer_by = t.1.1 }

pub make_plan-requires : goal.make_plan-requires
make_plan-requires c =
    let o = order_of c.args.order in
    let n = length c.args.rows.now in
    (o, made o _ n _ c.judge_bound.ensures c.in_ok-table.table c.in_ok-table.was)

pub returns : goal.returns
returns c =
    let o = order_of c.args.order in
    let n = length c.args.rows.now in
    let e = to_z-of_z w32 c.args.bound c.ranges.bound in
    let j = c.judge_bound.ensures in
    let table = c.in_ok-table.table in
    let t = rows-ensured o c.args.bound n _ (judged-at e j) table c.in_ok-table.was c.args.rows.now _ _
    (written_at e (c.make_plan.ensures.0 o (made o _ n _ j table c.in_ok-table.was))) in
    record { planned_value = t.0; reason_told = t.1.0; buffer_by = t.1.1 }
