use lib.ListN.{get_or}
use mathlib.Core.Path.{sym}
use Prim.Native.Nat.{◌+◌}
use lib.Seq.{get_or-set_other}
use Rattle.engine.proofs.Laws.{transferred}
use native.Mathlib.Omega.{arith}
use Rattle.engine.proofs.slices.transfer.Goals as goal

pub overflow_sub-xs : goal.overflow_sub-xs
overflow_sub-xs c =
    let a = c.args in
    omega (
      arith,
      get_or-set_other a.xs.now a.up a.down (get_or a.xs.now a.up 0 + a.d) 0
          (λ e. c.requires.up_in_bounds.2 (sym e)),
    )

pub returns : goal.returns
returns c =
    let p = c.requires in
    transferred _ _ _ _ p.up_in_bounds.0 p.up_in_bounds.1 p.up_in_bounds.2 p.d_bound.1
