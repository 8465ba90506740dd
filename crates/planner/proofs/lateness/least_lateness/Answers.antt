use Rattle.std.proofs.Common.{rules, ◌≡◌, Err, length, subst, sym}
use Rattle.order.proofs.RefusalLaws.{accepted-iff}
use Rattle.order.specs.Table.{order_of}
use Rattle.profile.specs.Least.{least_lateness}
use Rattle.profile.proofs.LeastRange.{least-in-range}
use Rattle.table.specs.Making.{fine_of}
use Rattle.feasible.specs.Least.{is-least}
use Rattle.profile.specs.LeastRead.{read-least}
use Rattle.planner.proofs.Answers.{
  LeastEnsured,
  least-refused,
  least-tabled,
  least-order-good,
  least-ensured,
  least-told,
  least-made,
  written_at,
}
use Rattle.planner.proofs.lateness.least_lateness.Goals as goal

pub returns-in_err-table : goal.returns-in_err-table
returns-in_err-table c =
    let o = order_of c.args.order in
    let rows = c.args.rows.now in
    let rf = c.in_err-table.field-0.0 in
    let is : c.from_residual.result ≡ Err rf = search rules in
    let t = subst (LeastEnsured o (length rows) rows rows) (sym is)
    (least-refused o (length rows) _ c.judge_least.ensures rows rf c.in_err-table.was) in
    record { result_value = t.0; least_in = t.1.0; buffer_by = t.1.1 }

pub least_in-lateness-requires : goal.least_in-lateness-requires
least_in-lateness-requires c =
    let o = order_of c.args.order in
    let n = length c.args.rows.now in
    let j = c.judge_least.ensures in
    let table = c.in_ok-table.table in
    let is = c.in_ok-table.was in
    fine_of o _ (least-tabled o n _ j table is) ((accepted-iff o).0 (least-order-good o n _ j table is))

pub make_plan-rows-requires : goal.make_plan-rows-requires
make_plan-rows-requires c =
    let o = order_of c.args.order in
    let n = length c.args.rows.now in
    (o, least-made o n _ c.judge_least.ensures c.in_ok-table.table c.in_ok-table.was _ c.least_in-lateness.ensures)

pub returns : goal.returns
returns c =
    let o = order_of c.args.order in
    let n = length c.args.rows.now in
    let j = c.judge_least.ensures in
    let table = c.in_ok-table.table in
    let is = c.in_ok-table.was in
    let ok = least-order-good o n _ j table is in
    let l = least-told o ok _ (least-tabled o n _ j table is) _ c.least_in-lateness.ensures in
    let e = read-least c.least_in-lateness.result (least_lateness o) l (least-in-range o ok) in
    let t = least-ensured o n _ j table is (is-least o ok) c.args.rows.now _ _ e
    (written_at e (c.make_plan-rows.ensures.0 o (least-made o n _ j table is _ c.least_in-lateness.ensures))) in
    record { result_value = t.0; least_in = t.1.0; buffer_by = t.1.1 }
