use Rattle.std.specs.Prelude.{Err}
use mathlib.Core.Path.{ap, ◌∙◌}
use lib.ListN.{length}
use Rattle.needs.specs.Told.{filled_told}
use Rattle.highboyrobin.proofs.NeedsTold.{carried-fits}
use native.Mathlib.Omega.{arith}
use Rattle.highboyrobin.proofs.needing.hbr_needs.Goals as goal

pub result_from-requires : goal.result_from-requires
result_from-requires c =
    let a = c.args in
    let k = c.in-Err-NoLine in
    let h = carried-fits a.table.now a.lengths.now (length a.needs.now) c.if-lengths-gt-MOST_LENGTHS.false c.fill_needs.result
    c.fill_needs.ensures.result_value 17 _ (ap filled_told (k.is ∙ ap Err k.field-0-is)) in
    (omega arith, h)

pub result_from-requires-in-Err-TwoLines : goal.result_from-requires-in-Err-TwoLines
result_from-requires-in-Err-TwoLines c =
    let a = c.args in
    let k = c.in-Err-TwoLines in
    let h = carried-fits a.table.now a.lengths.now (length a.needs.now) c.if-lengths-gt-MOST_LENGTHS.false c.fill_needs.result
    c.fill_needs.ensures.result_value 18 _ (ap filled_told (k.is ∙ ap Err k.field-0-is)) in
    (omega arith, h)

pub overflow_cast-place : goal.overflow_cast-place
overflow_cast-place c =
    let a = c.args in
    let k = c.in-Err-LengthOutOfRange in
    let h = carried-fits a.table.now a.lengths.now (length a.needs.now) c.if-lengths-gt-MOST_LENGTHS.false c.fill_needs.result
    c.fill_needs.ensures.result_value 5 _ (ap filled_told (k.is ∙ ap Err k.field-0-is)) in
    omega (arith, h)

pub result_from-requires-in-Err-LengthOutOfRange : goal.result_from-requires-in-Err-LengthOutOfRange
result_from-requires-in-Err-LengthOutOfRange c =
    let a = c.args in
    let k = c.in-Err-LengthOutOfRange in
    let h = carried-fits a.table.now a.lengths.now (length a.needs.now) c.if-lengths-gt-MOST_LENGTHS.false c.fill_needs.result
    c.fill_needs.ensures.result_value 5 _ (ap filled_told (k.is ∙ ap Err k.field-0-is)) in
    (omega arith, h)
