use Prim.Native.Nat.{suc}
use native.Mathlib.Omega.{arith}
use Rattle.stairs.proofs.Rows.{completed-le, heavy, heavy-le}
use Rattle.stairs.proofs.completion.heaviest.Goals as goal

pub above-requires-clause-by_index : goal.above-requires-clause-by_index
above-requires-clause-by_index c =
    let m = c.completions-c in
    λ e h. (
      c.requires.3.at 0 e (omega arith) (omega arith),
      omega (
        arith,
        completed-le c.args.t.now m.result (suc c.args.k) c.args.q c.args.k 1 c.args.k e
            c.requires.3 m.ensures (omega arith) (omega arith) (omega arith) (omega arith) h,
      ),
    )

pub returns : goal.returns
returns c =
    let m = c.completions-c in
    let e = heavy c.args.t.now m.result c.args.k c.args.q c.above.result (omega arith) m.ensures
    c.above.ensures in
    (e, omega (arith, e, heavy-le c.args.t.now c.args.k c.args.q c.requires.3 (omega arith) (omega arith)))
