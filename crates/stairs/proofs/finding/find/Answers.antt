use Prim.Native.Nat.{suc}
use mathlib.Core.Path.{◌≡◌}
use native.Mathlib.Omega.{arith}
use borrow.Author.Rules.{rules}
use Rattle.stairs.specs.Tables.{cell, room_of}
use Rattle.stairs.specs.CompletionLaws.{first-zero, overfull-zero, overfull-none}
use Rattle.stairs.proofs.Ranking.{find-more, find-hit, find_none}
use Rattle.stairs.proofs.Rows.{completed-le}
use Rattle.stairs.proofs.finding.find.Goals as goal

pub loop-k-init : goal.loop-k-init
loop-k-init c = overfull-zero _ _ _

pub loop-d-init : goal.loop-d-init
loop-d-init c = (search rules, first-zero _ _ _ _ _)

pub overflow_add-t : goal.overflow_add-t
overflow_add-t c =
    let k = c.loop-k.k in
    let d = c.loop-d.d in
    omega (
      arith,
      c.requires.3.at 0 d (omega arith) (omega arith),
      completed-le c.args.t.now c.completions-c.result (suc k) c.args.q k 1 k d
          c.requires.3 c.completions-c.ensures (omega arith) (omega arith) (omega arith)
          (omega arith) (omega arith),
    )

pub loop-d-preserved : goal.loop-d-preserved
loop-d-preserved c =
    let l = c.loop-k in
    let l2 = c.loop-d in
    let m = c.completions-c in (
      search rules,
      find-more c.args.t.now c.args.rooms.now c.args.s c.args.q l.k l2.d m.result m.ensures
          (omega arith) (omega arith) l.invariant l2.invariant.1 (omega arith),
    )

pub loop-k-preserved : goal.loop-k-preserved
loop-k-preserved c =
    let l = c.loop-k in
    let l2 = c.loop-d in
    let e : l2.d ≡ c.args.q = omega arith in
    overfull-none (cell c.args.t.now) (room_of c.args.rooms.now) c.args.q l.k l.invariant (rw (← e) l2.invariant.1)

pub returns-then-room-t : goal.returns-then-room-t
returns-then-room-t c =
    let l = c.loop-k in
    let l2 = c.loop-d in
    let m = c.completions-c in
    find-hit c.args.t.now c.args.rooms.now c.args.s c.args.q l.k l2.d m.result m.ensures (omega arith)
    (omega arith) l.invariant l2.invariant.1 (omega arith) c.complete.result c.complete.ensures

pub returns-after-loop-k : goal.returns-after-loop-k
returns-after-loop-k c =
    let e : c.loop-k.k ≡ c.args.s = omega arith in
    find_none _ (rw (← e) c.loop-k.invariant)
