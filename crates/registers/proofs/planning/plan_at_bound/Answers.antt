use Rattle.order_file.specs.Bytes.{signed}
use mir.Syntax.{w32}
use mir.ValLaws.{to_z-of_z}
use Rattle.std.specs.Prelude.{Err}
use mathlib.Core.Path.{ap, ◌∙◌}
use Rattle.registers.proofs.Planned.{bound-ends, bound-refuses, bound-tight, bound-done}
use Rattle.registers.proofs.planning.plan_at_bound.Goals as goal

pub returns-in-Err : goal.returns-in-Err
returns-in-Err c =
    let r = c.stored_order in
    bound-ends c.args.bytes.now c.requires.0 r.result r.ensures.result_value c.args.rows.now _
    c.in-Err.is _ c.number_of.ensures.0

pub returns-in-Err-Refused : goal.returns-in-Err-Refused
returns-in-Err-Refused c =
    let r = c.stored_order in
    let p = c.plan_at in
    let z = c.to_signed-bound in
    let same = to_z-of_z w32 z.result (record { sfits = z.type_inv }) ∙ z.ensures ∙ ap signed c.read4.ensures in
    bound-refuses c.args.bytes.now c.requires.0 r.result r.ensures.result_value
    _ c.in-Ok.is c.args.rows.now _ c.requires.1 _ same
    p.result (p.ensures.planned_value, p.ensures.buffer_by) _ (c.in-Err-Refused.is ∙ ap Err c.in-Err-Refused.field-0-is) _ c.number_of-in-Err-Refused.ensures.0

pub returns-in-Err-TooTight : goal.returns-in-Err-TooTight
returns-in-Err-TooTight c =
    let r = c.stored_order in
    let p = c.plan_at in
    let z = c.to_signed-bound in
    let same = to_z-of_z w32 z.result (record { sfits = z.type_inv }) ∙ z.ensures ∙ ap signed c.read4.ensures in
    bound-tight c.args.bytes.now c.requires.0 r.result r.ensures.result_value
    _ c.in-Ok.is c.args.rows.now _ c.requires.1 _ same
    p.result (p.ensures.planned_value, p.ensures.buffer_by) _ _ (c.in-Err-TooTight.is ∙ ap Err c.in-Err-TooTight.field-0-is)

pub returns-in-Ok-plan_at : goal.returns-in-Ok-plan_at
returns-in-Ok-plan_at c =
    let r = c.stored_order in
    let p = c.plan_at in
    let z = c.to_signed-bound in
    let same = to_z-of_z w32 z.result (record { sfits = z.type_inv }) ∙ z.ensures ∙ ap signed c.read4.ensures in
    bound-done c.args.bytes.now c.requires.0 r.result r.ensures.result_value
    _ c.in-Ok.is c.args.rows.now _ c.requires.1 _ same
    p.result (p.ensures.planned_value, p.ensures.buffer_by) _ c.in-Ok-plan_at.is _ same
