use mathlib.Core.Path.{refl, ◌≡◌}
use native.Mathlib.Omega.{arith}
use Prim.Native.Nat.{ℕ}
use lib.ListN.{get_or, length-set}
use Rattle.sums.specs.Arrays.{fill-at}
use Rattle.engine.proofs.slices.copy.Goals as goal

pub loop-k-preserved : goal.loop-k-preserved
loop-k-preserved c =
    let l = c.loop-k in (
      simp length-set l.invariant.0,
      record {
        each = fill-at (λ (k x : ℕ). x ≡ get_or c.args.from.now k 0) 0 l.xs l.k _ (omega arith)
            l.invariant.1.each refl;
      },
    )

pub returns : goal.returns
returns c = record { each = λ k h. c.loop-k.invariant.1.each k (omega arith) }
