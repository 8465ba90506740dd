use native.Mathlib.Omega.{arith}
use mathlib.Core.Path.{◌≡◌}
use Prim.Native.Nat.{suc, ◌+◌, ◌*◌, ◌-◌, ◌≤◌, ◌<◌}
use lib.ListN.{length}
use Rattle.engine.specs.View.{row-end}
use Rattle.engine.proofs.Laws.{free-upto, upto-free, barred-more}
use Rattle.engine.proofs.moves.find.Goals as goal

pub returns-in-Some : goal.returns-in-Some
returns-in-Some c =
    let s = c.loop-s.s - 1 in
    let below : s < c.args.given.now.q = omega arith in
    let long : s * c.args.given.now.m + c.args.given.now.m ≤ length c.args.filling.now.slack.now = omega (arith, row-end s c.args.given.now.m c.args.given.now.q below) in
    let low = c.requires.by_index c.args.j (omega arith) in
    let F = c.before_zero.ensures in
    let f = c.in-Some.ensures in
    let e : c.loop-s.s ≡ suc s = omega arith in (
      record {
        j-job = c.requires.j_lt_n.0;
        i-any = f.0;
        s-any = below;
        spare = c.if-filling-at.true;
        some = f.1.0;
        free = free-upto _ _ _ _ _ low long F _ f.1.1;
        lower = omega (arith, f.1.2);
      },
      rw e at c.loop-s.invariant,
      λ k lk A.
          f.2 k lk A.i-any
          (A.some, upto-free _ _ _ _ _ low long F _ (c.requires.by_index k A.i-any) A.free, omega (arith, A.lower)),
    )

pub loop-s-preserved-in_default : goal.loop-s-preserved-in_default
loop-s-preserved-in_default c =
    let s = c.loop-s.s - 1 in
    let below : s < c.args.given.now.q = omega arith in
    let long : s * c.args.given.now.m + c.args.given.now.m ≤ length c.args.filling.now.slack.now = omega (arith, row-end s c.args.given.now.m c.args.given.now.q below) in
    let low = c.requires.by_index c.args.j (omega arith) in
    barred-more _ _ _ _ _ (omega arith) c.loop-s.invariant (λ k lk sp has fr e.
    c.in_default.ensures k lk
    (has, upto-free _ _ _ _ _ low long c.before_zero.ensures _ (c.requires.by_index k lk) fr, omega (arith, e)))
