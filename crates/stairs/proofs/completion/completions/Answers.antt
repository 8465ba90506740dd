use Prim.Native.Nat.{suc, ◌-◌}
use mathlib.Core.Path.{refl}
use native.Mathlib.Omega.{arith}
use borrow.Author.Rules.{rules}
use Rattle.sums.specs.Arrays.{zeros-at}
use Rattle.stairs.proofs.Rows.{completed-none, completed-more, completed-le}
use Rattle.stairs.proofs.completion.completions.Goals as goal

pub loop-m-init : goal.loop-m-init
loop-m-init c = (refl, completed-none _ _ _ _ (λ e h. zeros-at e (omega arith)))

pub above-requires-clause-by_index : goal.above-requires-clause-by_index
above-requires-clause-by_index c =
    let l = c.loop-m in
    λ e h. (
      c.requires.2.at (c.args.k - l.m) e (omega arith) (omega arith),
      omega (
        arith,
        completed-le c.args.t.now l.c (suc c.args.k) c.args.q l.m (suc c.args.k - l.m)
            l.m e c.requires.2 l.invariant.1 (omega arith) (omega arith) (omega arith) (omega arith) h,
      ),
    )

pub loop-m-preserved : goal.loop-m-preserved
loop-m-preserved c =
    let l = c.loop-m in (
      search rules,
      completed-more c.args.t.now l.c (suc c.args.k) c.args.q l.m
          (c.args.k - l.m) c.above.result (omega arith) (omega arith) l.invariant.1 c.above.ensures,
    )
