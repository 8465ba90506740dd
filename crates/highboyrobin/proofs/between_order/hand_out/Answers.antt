use native.Mathlib.Omega.{arith}
use lib.ListN.{length}
use Rattle.order.specs.Table.{order_of}
use Rattle.highboyrobin.proofs.BetweenTold.{handed-refused, handed-done}
use Rattle.highboyrobin.proofs.Carried.{carried-few, write-carries}
use Rattle.highboyrobin.proofs.FilesTold.{writer-refused, writer-wrote, file-few}
use Rattle.highboyrobin.proofs.between_order.hand_out.Goals as goal

pub overflow_cast-n : goal.overflow_cast-n
overflow_cast-n c =
    let o = order_of c.args.found in
    let b = c.args.order.now in
    let k = c.in-Ok in
    let h = writer-wrote o b _ k.n (k.ensures.result_value, (k.ensures.out_after, k.ensures.read_back_by)) in
    omega (arith, h.1, file-few o (length b) h.0)

pub put_count-requires : goal.put_count-requires
put_count-requires c =
    let o = order_of c.args.found in
    let b = c.args.order.now in
    let k = c.in-Ok in
    let h = writer-wrote o b _ k.n (k.ensures.result_value, (k.ensures.out_after, k.ensures.read_back_by)) in
    (omega (arith, h.1, file-few o (length b) h.0), c.requires.1)

pub result_of-requires : goal.result_of-requires
result_of-requires c =
    let o = order_of c.args.found in
    let b = c.args.order.now in
    let k = c.in-Err in
    carried-few _ _ (writer-refused o b _ k.refusal (k.ensures.result_value, (k.ensures.out_after, k.ensures.read_back_by))).0
    (write-carries o (length b))

pub returns-in-Err : goal.returns-in-Err
returns-in-Err c =
    let k = c.in-Err in
    handed-refused (order_of c.args.found) c.requires.0 c.args.order.now _ c.args.answer.now k.refusal
    (k.ensures.result_value, (k.ensures.out_after, k.ensures.read_back_by)) _ c.result_of.ensures

pub returns-in-Ok : goal.returns-in-Ok
returns-in-Ok c =
    let k = c.in-Ok in
    handed-done (order_of c.args.found) c.requires.0 c.args.order.now _ c.args.answer.now k.n
    (k.ensures.result_value, (k.ensures.out_after, k.ensures.read_back_by)) _ c.put_count.ensures
