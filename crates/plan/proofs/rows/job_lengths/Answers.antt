-- The totals are those of the rows passed so far, and each row adds less than 2^32.
use Prim.Native.Nat.{◌-◌, ◌/◌}
use mathlib.Core.Path.{◌≡◌, refl, ◌∙◌}
use native.Mathlib.Omega.{arith}
use lib.ListN.{length, length-set}
use Rattle.plan.proofs.Lengths.{totals-none, totals-more, totals-all, piece-range}
use Rattle.plan.proofs.rows.job_lengths.Goals as goal

pub loop-i-init : goal.loop-i-init
loop-i-init c = (refl, totals-none c.args.rows.now)

pub loop-i-preserved : goal.loop-i-preserved
loop-i-preserved c =
    let l = c.loop-i in
    let p = c.piece_at-piece.result in
    let w = piece-range c.args.rows.now l.i p c.piece_at-piece.ensures (c.requires.1 l.i (omega arith)) in
    let h = c.length_of.ensures in (
      length-set l.totals (p.job - 1) _ ∙ l.invariant.0,
      totals-more c.args.rows.now l.totals l.i (p.job - 1) _ p l.invariant.0 l.invariant.1
          c.piece_at-piece.ensures h.0 h.1 (omega (arith, w)) (omega (arith, w)),
    )

pub returns : goal.returns
returns c =
    let l = c.loop-i in
    let e : l.i ≡ length c.args.rows.now / 4 = omega arith in
    totals-all c.args.rows.now l.totals l.i e l.invariant.1
