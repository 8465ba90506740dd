use mathlib.Core.Path.{sym, ap, ◌∙◌}
use mathlib.Core.Bool.{true≢false}
use mir.Syntax.{w32}
use mir.ValLaws.{to_z-of_z}
use Rattle.order.specs.Refusals.{bound_in_range}
use Rattle.order.specs.Table.{order_of}
use Rattle.sentence.proofs.Readings.{read_is, read-not, has-at}
use Rattle.sentence.proofs.recover.recovered.Goals as goal

pub has_line-requires : goal.has_line-requires
has_line-requires c =
    (c.requires.0, ap bound_in_range (to_z-of_z w32 c.args.bound c.ranges.bound) ∙ c.requires.1)

pub returns-then-has_line : goal.returns-then-has_line
returns-then-has_line c =
    let o = order_of c.args.order in
    let h = has-at o _ c.args.bound c.candidate_of-why.result _ _
    (to_z-of_z w32 c.args.bound c.ranges.bound)
    c.has_line.ensures in
    read_is o c.requires.0 c.args.bound _ c.candidate_of-why.result c.candidate_of-why.ensures
    (h.0 c.if-has_line.true)

pub returns : goal.returns
returns c =
    let o = order_of c.args.order in
    let h = has-at o _ c.args.bound c.candidate_of-why.result _ _
    (to_z-of_z w32 c.args.bound c.ranges.bound)
    c.has_line.ensures in
    c.no_reason.ensures
    ∙ read-not o c.requires.0 c.args.bound _ c.candidate_of-why.result
    c.candidate_of-why.ensures
    (λ l. true≢false (sym (h.1 l) ∙ c.if-has_line.false))
