use Rattle.registers.specs.CommandLaws.{cleared-in, unknown-in, bound-in, least-in}
use mathlib.Core.Path.{refl}
use Rattle.registers.proofs.commands.command.Goals as goal

pub returns-in-3 : goal.returns-in-3
returns-in-3 c =
    cleared-in c.args.bytes.now c.args.rows.now _ _
    c.begin.ensures
    c.clear_rows.ensures _ c.clear_bytes.ensures _
    c.in-3.is

pub returns-in_default : goal.returns-in_default
returns-in_default c =
    let r = c.in_default.in_default-own.rest in
    unknown-in c.args.bytes.now c.args.rows.now _ _
    c.begin.ensures
    c.clear_rows.ensures
    _ _ _ c.conclude-in_default.ensures refl refl c.args.value r.0.0.1 r.0.1 r.1

pub returns-in-1 : goal.returns-in-1
returns-in-1 c =
    bound-in c.args.bytes.now c.args.rows.now _ _
    c.begin.ensures c.clear_rows.ensures
    c.plan_at_bound-outcome.result _ _ c.conclude.ensures c.plan_at_bound-outcome.ensures
    _ c.in-1.is

pub returns-in-2 : goal.returns-in-2
returns-in-2 c =
    least-in c.args.bytes.now c.args.rows.now _ _
    c.begin.ensures c.clear_rows.ensures
    c.plan_at_least-outcome.result _ _ c.conclude-in-2.ensures c.plan_at_least-outcome.ensures
    _ c.in-2.is
