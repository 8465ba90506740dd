use Rattle.registers.proofs.Planned.{least-ends, least-never, least-done}
use borrow.Author.Rules.{rules}
use Rattle.registers.proofs.planning.plan_at_least.Goals as goal

pub returns-in-Err : goal.returns-in-Err
returns-in-Err c =
    let r = c.stored_order in
    least-ends c.args.bytes.now c.requires.0 r.result r.ensures.result_value c.args.rows.now _
    c.in-Err.is _ c.number_of.ensures.0

pub returns-in-Err-least_lateness : goal.returns-in-Err-least_lateness
returns-in-Err-least_lateness c =
    let r = c.stored_order in
    let l = c.least_lateness in
    absurd (least-never c.args.bytes.now c.requires.0 r.result r.ensures.result_value
    _ c.in-Ok.is c.args.rows.now _ c.requires.1
    l.result (l.ensures.result_value, l.ensures.buffer_by) _ c.in-Err-least_lateness.is)

pub returns-in-Ok-least_lateness : goal.returns-in-Ok-least_lateness
returns-in-Ok-least_lateness c =
    let r = c.stored_order in
    let l = c.least_lateness in
    least-done c.args.bytes.now c.requires.0 r.result r.ensures.result_value
    _ c.in-Ok.is c.args.rows.now _ c.requires.1
    l.result (l.ensures.result_value, l.ensures.buffer_by) _ c.in-Ok-least_lateness.is _ (search rules)
