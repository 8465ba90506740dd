-- The first rule that does not hold decides; the last decides alone.
use mathlib.Core.Path.{sym, ◌∙◌}
use native.Mathlib.Omega.{arith}
use Rattle.std.specs.Prelude.{ℕ, ◌≡◌}
use Rattle.order.specs.Table.{order_of}
use Rattle.order.proofs.StructLaws.{few-jobs}
use Rattle.plan.proofs.RowRanges.{good-back, good-ranged}
use Rattle.plan.proofs.Answers.{bad-rows, overlapping, jobs-decide}
use Rattle.plan.proofs.rows.rows_right.Goals.{then-rows_good, else-rows_good}
use Rattle.plan.proofs.rows.rows_right.Goals as goal

pub rows_apart-requires : goal.rows_apart-requires
rows_apart-requires c =
    let o = order_of c.args.order in
    let r = c.args.rows.now in
    let is = c.rows_good.ensures ∙ good-back o c.args.bound r c.ranges.bound in
    (c.requires.2, good-ranged o c.args.bound c.requires.0 c.requires.1 r (sym is ∙ c.if-rows_good.true))

pub jobs_whole-requires : goal.jobs_whole-requires
jobs_whole-requires c =
    let o = order_of c.args.order in
    let r = c.args.rows.now in
    let is = c.rows_good.ensures ∙ good-back o c.args.bound r c.ranges.bound in
    elim c.if-rows_good.branch [
      | then-rows_good w ↦ (
        few-jobs c.args.order c.requires.0,
        omega (arith, c.requires.2),
        good-ranged o c.args.bound c.requires.0 c.requires.1 r (sym is ∙ w.if-rows_good.true),
      )
      | else-rows_good w ↦ let z : ◌≡◌ {A = ℕ} 0 1 = cc in absurd (omega arith)
    ]

pub returns-then-rows_apart : goal.returns-then-rows_apart
returns-then-rows_apart c =
    let o = order_of c.args.order in
    let r = c.args.rows.now in
    let is = c.rows_good.ensures ∙ good-back o c.args.bound r c.ranges.bound in
    elim c.if-rows_good.branch [
      | then-rows_good w ↦
          jobs-decide o c.args.bound r _ is w.if-rows_good.true _ w.rows_apart.ensures
          (sym w.value-is ∙ c.if-rows_apart.true) _ c.jobs_whole.ensures
      | else-rows_good w ↦ let z : ◌≡◌ {A = ℕ} 0 1 = cc in absurd (omega arith)
    ]

pub returns-else-rows_apart : goal.returns-else-rows_apart
returns-else-rows_apart c =
    let o = order_of c.args.order in
    let r = c.args.rows.now in
    let is = c.rows_good.ensures ∙ good-back o c.args.bound r c.ranges.bound in
    c.if-rows_apart.false ∙ elim c.if-rows_good.branch [
      | then-rows_good w ↦
          overlapping o c.args.bound r _ is w.if-rows_good.true _ w.rows_apart.ensures (sym w.value-is ∙ c.if-rows_apart.false)
      | else-rows_good w ↦ bad-rows o c.args.bound r _ is w.if-rows_good.false
    ]
