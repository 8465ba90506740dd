use Rattle.std.proofs.Common.{arith}
use Rattle.text.proofs.Digits.{tail_none, tail_more, tail-all}
use Rattle.text.proofs.put.put_decimal.Goals as goal

pub loop-place-init : goal.loop-place-init
loop-place-init c = tail_none _ _ _ _ (omega arith) (omega arith)

pub loop-place-preserved : goal.loop-place-preserved
loop-place-preserved c = tail_more c.loop-place-test.true c.loop-place.invariant

pub returns : goal.returns
returns c = tail-all c.loop-place-test.false c.loop-place.invariant
