-- `put_processors`: the invariant is that the buffer begins with the first i processors and goes on as it was.
use Rattle.std.proofs.Common.{◌<◌, arith, get_or, get_or-take}
use Rattle.order_file.proofs.Growing.{no-processor, one-processor-more}
use Rattle.order_file.proofs.write.put_processors.Goals as goal

pub loop-i-init : goal.loop-i-init
loop-i-init c = no-processor _ (λ k. get_or c.args.order.memories k 0)

pub loop-i-preserved : goal.loop-i-preserved
loop-i-preserved c =
    let memories = c.args.order.memories in
    let n = c.args.order.processors in
    let l : c.loop-i.i < n = omega arith in
    one-processor-more _ (λ k. get_or memories k 0) _ _ _ c.loop-i.invariant (omega arith)
    (rw (get_or-take n memories c.loop-i.i 0 l) at c.put4.ensures)
