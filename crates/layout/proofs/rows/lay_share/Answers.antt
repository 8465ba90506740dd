-- The loop's invariant: what is left of the share goes on from the place that the loop has come to.
use Rattle.std.proofs.Common.{arith}
use Rattle.layout.proofs.Sharing.{going_start, going-good, going-number, going-room, going_more, going_end}
use Rattle.layout.proofs.rows.lay_share.Goals as goal

pub loop-next-init : goal.loop-next-init
loop-next-init c = going_start c.args.processors.now _ _ _ c.requires.2 c.requires.1 c.requires.6 c.requires.5

pub lay_piece-next-requires : goal.lay_piece-next-requires
lay_piece-next-requires c =
    let g = c.loop-next.invariant in
    let n = going-number g c.loop-next-test.true c.if-left-gt0.true in (
      omega (arith, c.requires.0),
      omega (arith, g.few, g.inside.a-processor),
      omega (arith, g.inside),
      c.requires.4,
      n.0,
      n.1,
      going-room g c.loop-next-test.true c.if-left-gt0.true,
      going-good g,
    )

pub loop-next-preserved : goal.loop-next-preserved
loop-next-preserved c =
    let e = c.lay_piece-next.ensures in
    (going_more c.loop-next.invariant c.loop-next-test.true c.if-left-gt0.true c.min-part.ensures e.1 e.0).0

pub returns-after-loop-next : goal.returns-after-loop-next
returns-after-loop-next c = going_end c.loop-next.invariant c.loop-next-test.false
