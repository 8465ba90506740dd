use Prim.Native.Nat.{suc, ◌-◌}
use native.Mathlib.Omega.{arith}
use borrow.Author.Rules.{rules}
use Rattle.stairs.proofs.Greedy.{greedy-start, greedy-least, greedy-done}
use Rattle.stairs.proofs.Rows.{completed-le}
use Rattle.stairs.proofs.finding.complete.Goals as goal

pub loop-i-init : goal.loop-i-init
loop-i-init c = (
  search rules,
  c.requires.k_bound.2.at 0 c.args.d (omega arith) (omega arith),
  greedy-start _ _ _ _ c.requires.room_bound,
)

pub least-top-requires-clause-by_index : goal.least-top-requires-clause-by_index
least-top-requires-clause-by_index c =
    let l = c.loop-i in
    λ e h. omega (
      arith,
      c.requires.k_bound.2.at l.i e (omega arith) (omega arith),
      completed-le c.args.t.now c.args.c.now (suc c.args.k) (suc c.args.d) c.args.k (suc l.i)
          (c.args.k - l.i) e c.requires.k_bound.2 c.requires.k_bound.3 (omega arith) (omega arith) (omega arith) (omega arith)
          (omega arith),
    )

pub loop-i-preserved : goal.loop-i-preserved
loop-i-preserved c =
    let l = c.loop-i in (
      omega (arith, c.least-top.ensures.within),
      omega (arith, c.requires.k_bound.2.at l.i c.least-top.result (omega arith) (omega (arith, c.least-top.ensures.within))),
      greedy-least c.args.t.now c.args.c.now (suc c.args.d) c.args.k c.requires.k_bound.3 l.invariant.2 c.least-top.result
          (omega arith) (omega arith) (omega arith) c.least-top.ensures,
    )

pub returns : goal.returns
returns c = greedy-done c.loop-i.invariant.2 (omega arith)

pub returns-2 : goal.returns-2
returns-2 c =
    let l = c.loop-i in
    greedy-done (greedy-least c.args.t.now c.args.c.now (suc c.args.d) c.args.k c.requires.k_bound.3 l.invariant.2 c.least-top.result
    (omega arith) (omega arith) (omega arith) c.least-top.ensures) (omega arith)
