-- The loop's invariant: the rows of the first s stretches are written, joined, and the next one begins at mark s.
use Rattle.std.proofs.Common.{◌≤◌, length, refl, arith, rules, length-take}
use Rattle.layout.specs.Planned.{laid_out}
use Rattle.layout.proofs.Framing.{
  given,
  framing-start,
  framing-end,
  good_none,
  frame-forward,
  frame-count,
  frame-jobs,
  frame-numbers,
  frame-room,
  framing-more,
}
use Rattle.layout.proofs.stretches.lay_plan.Goals as goal

pub loop-s-init : goal.loop-s-init
loop-s-init c = framing-start _ _ _ (good_none _) refl refl

pub lay_stretch-requires : goal.lay_stretch-requires
lay_stretch-requires c =
    let a = c.args in
    let g = given a.t a.marks.now a.q a.opens.now a.closes.now a.w.now a.rows.now (c.requires.m_bound, c.requires.w_in_bounds) in
    let p = c.loop-s.invariant in
    let t = c.loop-s-test.true in
    let kept = c.open_processors-kept in
    let e = kept.ensures in
    let size : 48 ≤ length a.t.by_need = search rules in
    let n = frame-count g size in (
      omega (arith, g.few-processors, e.0, length-take kept.result.count kept.result.list),
      omega (arith, g.few-jobs, n),
      g.few-stretches,
      t,
      rw n g.amounts-long,
      frame-forward g p t _ _ e,
      omega (arith, g.few-stretches, p.few),
      frame-jobs g size,
      frame-room g p t _ _ e,
      frame-numbers g p t _ _ e,
      p.laid.good,
    )

pub loop-s-preserved : goal.loop-s-preserved
loop-s-preserved c =
    let a = c.args in
    let g = given a.t a.marks.now a.q a.opens.now a.closes.now a.w.now a.rows.now (c.requires.m_bound, c.requires.w_in_bounds) in
    let kept = c.open_processors-kept in
    let laid = c.lay_stretch.ensures.laid in
    let size : 48 ≤ length a.t.by_need = search rules in
    framing-more g c.loop-s.invariant c.loop-s-test.true _ _ kept.ensures
    (laid.0, omega (arith, laid.1, frame-count g size, length-take kept.result.count kept.result.list))

pub returns : goal.returns
unfolding laid_out
returns c =
    let a = c.args in
    let g = given a.t a.marks.now a.q a.opens.now a.closes.now a.w.now a.rows.now (c.requires.m_bound, c.requires.w_in_bounds) in
    framing-end _ _ _ g.joinable g.room c.loop-s.invariant c.loop-s-test.false
