use mathlib.Core.Path.{sym, ap, ◌∙◌}
use native.Mathlib.Omega.{arith}
use lib.IntN.{pos}
use mir.Syntax.{w32}
use mir.ValLaws.{to_z-of_z}
use Rattle.std.specs.Prelude.{unsigned_abs, int_le}
use Rattle.text.specs.Text.{decimal, number}
use Rattle.text.specs.TextLaws.{decimal-short, put_both, put_as}
use Rattle.text.specs.SignedLaws.{signed-positive, signed-negative}
use Rattle.text.proofs.put.put_signed.Goals as goal

pub returns-then-n-ge0 : goal.returns-then-n-ge0
returns-then-n-ge0 c =
    let back = to_z-of_z w32 c.args.n c.ranges.n in
    let size = c.unsigned_abs-size.ensures.value ∙ ap unsigned_abs back in
    let sign = ap (int_le (pos 0)) (sym back) ∙ c.if-n-ge0.true in
    let q = c.put_number.ensures in
    (put_as (ap number size ∙ signed-positive c.args.n sign) q.0, omega (arith, q.1))

pub put_decimal-requires : goal.put_decimal-requires
put_decimal-requires c =
    let p = c.put_bytes-behind.ensures in
    omega (arith, p.next-is, p.same_length, decimal-short c.unsigned_abs-size.result (omega arith))

pub returns : goal.returns
returns c =
    let back = to_z-of_z w32 c.args.n c.ranges.n in
    let size = c.unsigned_abs-size.ensures.value ∙ ap unsigned_abs back in
    let sign = ap (int_le (pos 0)) (sym back) ∙ c.if-n-ge0.false in
    let p = c.put_bytes-behind.ensures in
    let q = c.put_decimal.ensures in (
      put_as (signed-negative c.args.n sign) (put_both p (put_as (ap decimal size) q)),
      omega (arith, p.next-is, q.next-is, decimal-short c.unsigned_abs-size.result (omega arith)),
    )
