-- Rows of one job that overlap decide; else the processors do.
use mathlib.Core.Path.{◌∙◌}
use native.Mathlib.Omega.{arith}
use Rattle.plan.proofs.Apart.{spans-by, jobs-overlap, processors-decide}
use Rattle.plan.proofs.rows.apart_among.Goals as goal

pub apart_by-requires : goal.apart_by-requires
apart_by-requires c =
    (omega arith, omega arith, spans-by c.args.rows.now c.requires.2 _ (omega arith), c.requires.1)

pub returns-else-apart_by : goal.returns-else-apart_by
returns-else-apart_by c = c.if-apart_by.false ∙ jobs-overlap c.args.rows.now _ c.apart_by.ensures c.if-apart_by.false

pub returns-then-apart_by : goal.returns-then-apart_by
returns-then-apart_by c =
    processors-decide c.args.rows.now _ c.apart_by.ensures c.if-apart_by.true _ c.apart_by-then-apart_by.ensures
