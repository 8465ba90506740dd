use lib.ListN.{take, drop}
use mathlib.Core.Path.{ap}
use Prim.Native.Nat.{ℕ, ◌+◌, ◌-◌}
use Rattle.registers.proofs.Planned.{read-long, read_short}
use Rattle.registers.proofs.planning.stored_order.Goals as goal

pub returns-then-length-gt-MOST_BYTES-clause-result_value : goal.returns-then-length-gt-MOST_BYTES-clause-result_value
returns-then-length-gt-MOST_BYTES-clause-result_value c =
    (read-long c.args.bytes.now c.requires (rw c.read2-length.ensures.0 at c.if-length-gt-MOST_BYTES.true)).0

pub returns : goal.returns
returns c =
    let size = c.read2-length in
    let t = read_short c.args.bytes.now c.requires (rw size.ensures.0 at c.if-length-gt-MOST_BYTES.false) _
    (ap (λ (n : ℕ). take (32 + n - 32) (drop 32 c.args.bytes.now)) size.ensures.0) c.read_order_for.result
    (c.read_order_for.ensures.result_value, c.read_order_for.ensures.order_value) in
    record { result_value = t.0; order_value = t.1 }
