use native.Mathlib.Omega.{arith}
use Rattle.text.specs.TextLaws.{decimal-short, put_both}
use Rattle.text.proofs.put.put_number.Goals as goal

pub put_decimal-requires : goal.put_decimal-requires
put_decimal-requires c =
    let p = c.put_bytes-behind.ensures in
    omega (arith, p.next-is, p.same_length, decimal-short c.args.n (omega (arith, c.ranges.n)))

pub returns : goal.returns
returns c =
    let p = c.put_bytes-behind.ensures in
    let q = c.put_decimal.ensures in
    (put_both p q, omega (arith, p.next-is, q.next-is, decimal-short c.args.n (omega (arith, c.ranges.n))))
