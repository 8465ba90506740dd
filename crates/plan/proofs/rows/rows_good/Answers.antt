-- The rows passed so far are whole and good. A row that is read as malformed, or ends late, decides.
use Prim.Native.Nat.{◌-◌}
use mathlib.Core.Path.{refl, ap, ◌∙◌}
use borrow.Author.Count.{below_more}
use borrow.Author.Tests.{not-true, not-false}
use native.Mathlib.Omega.{arith}
use lib.IntN.{pos}
use lib.ListN.{get_or}
use mir.Syntax.{w32}
use mir.Val.{to_z, of_z}
use mir.ValLaws.{to_z-of_z}
use Rattle.order.specs.Machine.{machine-back}
use Rattle.order.specs.Refusals.{due_in_range, bound_in_range}
use Rattle.order.specs.Table.{order_of}
use Rattle.order.proofs.StructLaws.{few-jobs, few-processors, due-in-range-at}
use Rattle.plan.proofs.RowRanges.{good-back}
use Rattle.plan.proofs.GoodRows.{malformed, well-formed, by-its-end, rows_pass, row-fails}
use Rattle.plan.specs.Inside.{row_of}
use Rattle.plan.proofs.RowTests.{its-job, ends_read}
use Rattle.plan.proofs.rows.rows_good.Goals as goal

pub row_at-requires : goal.row_at-requires
row_at-requires c =
    (few-processors c.args.order c.requires.0, few-jobs c.args.order c.requires.0, omega arith)

pub returns-in_default : goal.returns-in_default
returns-in_default c =
    let l = c.loop-i in
    let o = order_of c.args.order in
    let b = to_z w32 (of_z w32 c.args.bound) in
    let r = c.args.rows.now in
    row-fails o b r l.i (omega arith)
    (malformed o b r l.i _ c.row_at.ensures c.in_default.is)
    ∙ good-back o c.args.bound r c.ranges.bound

pub bounds-order-at : goal.bounds-order-at
bounds-order-at c =
    let l = c.loop-i in
    let read = c.row_at in
    let o = order_of c.args.order in
    let b = to_z w32 (of_z w32 c.args.bound) in
    let r = c.args.rows.now in
    let p = c.in-Some.piece in
    let formed = well-formed o b r l.i _ read.ensures p c.in-Some.is in
    omega (arith, its-job c.args.order (row_of p) formed, few-jobs c.args.order c.requires.0)

pub by_end-requires : goal.by_end-requires
by_end-requires c =
    let l = c.loop-i in
    let read = c.row_at in
    let o = order_of c.args.order in
    let b = to_z w32 (of_z w32 c.args.bound) in
    let r = c.args.rows.now in
    let p = c.in-Some.piece in
    let formed = well-formed o b r l.i _ read.ensures p c.in-Some.is in
    let j = p.job - 1 in (
      ap due_in_range (machine-back (get_or c.args.order.dues j (pos 0)) c.by_end-arg-1.given)
          ∙ due-in-range-at c.args.order c.requires.0 j (omega (arith, its-job c.args.order (row_of p) formed)),
      ap bound_in_range (to_z-of_z w32 c.args.bound c.ranges.bound) ∙ c.requires.1,
    )

pub returns-then-not-by_end : goal.returns-then-not-by_end
returns-then-not-by_end c =
    let l = c.loop-i in
    let read = c.row_at in
    let o = order_of c.args.order in
    let b = to_z w32 (of_z w32 c.args.bound) in
    let r = c.args.rows.now in
    let p = c.in-Some.piece in
    let formed = well-formed o b r l.i _ read.ensures p c.in-Some.is in
    row-fails o b r l.i (omega arith)
    (by-its-end o b r l.i _ read.ensures p c.in-Some.is _ _
    (c.by_end.ensures ∙ ends_read c.args.order (row_of p) formed b (get_or c.args.order.dues (p.job - 1) (pos 0)) refl
    c.by_end-arg-1.given) (not-true _ c.if-not-by_end.true-raw))
    ∙ good-back o c.args.bound r c.ranges.bound

pub loop-i-preserved : goal.loop-i-preserved
loop-i-preserved c =
    let l = c.loop-i in
    let read = c.row_at in
    let o = order_of c.args.order in
    let b = to_z w32 (of_z w32 c.args.bound) in
    let r = c.args.rows.now in
    let p = c.in-Some.piece in
    let formed = well-formed o b r l.i _ read.ensures p c.in-Some.is in
    below_more _ _ l.invariant
    (by-its-end o b r l.i _ read.ensures p c.in-Some.is _ _
    (c.by_end.ensures ∙ ends_read c.args.order (row_of p) formed b (get_or c.args.order.dues (p.job - 1) (pos 0)) refl
    c.by_end-arg-1.given) (not-false _ c.if-not-by_end.false-raw))

pub returns : goal.returns
returns c =
    let o = order_of c.args.order in
    let b = to_z w32 (of_z w32 c.args.bound) in
    let r = c.args.rows.now in
    rows_pass o b r (λ k l. c.loop-i.invariant k (omega arith)) ∙ good-back o c.args.bound r c.ranges.bound
