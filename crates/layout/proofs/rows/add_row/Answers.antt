-- A row lengthened, or one more.
use Rattle.std.proofs.Common.{◌*◌, sym}
use Rattle.wrap.specs.Filled.{row}
use Rattle.layout.specs.Sheet.{standing}
use Rattle.layout.proofs.Writing.{ends-with-job, ends-without, added-longer, added-behind, four-written}
use Rattle.layout.proofs.rows.add_row.Goals as goal

pub returns-then-eq : goal.returns-then-eq
returns-then-eq c = sym (added-longer (standing c.args.written.now c.args.rows.now)
    (row c.args.job c.args.processor c.args.from c.args.to) (ends-with-job _ c.ends_with.ensures c.if-eq.ensures))

pub returns-else-eq : goal.returns-else-eq
returns-else-eq c =
    let a = c.args in
    rw (four-written a.rows.now _ (4 * a.written.now.count) a.job a.processor a.from a.to c.copy_from_slice.ensures.after)
    (sym (added-behind (standing a.written.now a.rows.now) (row a.job a.processor a.from a.to)
    (ends-without _ c.ends_with.ensures c.requires.2 c.if-eq.ensures)))
