use Rattle.std.proofs.Common.{◌≡◌, length, get_or-take, length-take-le, arith, rules}
use Rattle.layout.proofs.Opening.{opening-start, opening-more, opening-other}
use Rattle.layout.proofs.opened.open_processors.Goals as goal
use Rattle.layout.proofs.opened.open_processors.Goals.{then-is_open, else-is_open}

pub loop-i-init : goal.loop-i-init
loop-i-init c = opening-start _ _ _ _ _ _ (search rules)

pub loop-i-preserved : goal.loop-i-preserved
loop-i-preserved c =
    let l = c.loop-i in
    let t = c.loop-i-test.true in
    let z : length c.args.processors ≡ 16 = search rules in
    let s = length-take-le c.args.n c.args.processors (omega (arith, c.requires.0)) in
    let e = get_or-take c.args.n c.args.processors l.i-index 0 (omega (arith, s, t)) in
    let h = c.requires.1.at l.i-index (omega (arith, s, t)) in
    elim c.if-is_open.branch [
      | then-is_open w ↦ rw (w.list-is, w.count-is) (opening-more l.invariant t (omega (arith, e, h.0)) (omega (arith, s, t, c.requires.0)) c.is_open.ensures w.if-is_open.true)
      | else-is_open w ↦ rw (w.list-is, w.count-is) (opening-other l.invariant t (omega (arith, e, h.0)) c.is_open.ensures w.if-is_open.false)
    ]
