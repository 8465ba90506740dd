-- `write_order`: acceptance decides, then the room in the buffer; the three parts stored one after the other are the file.
use Rattle.order_file.proofs.RoundTrip.{struct-bounded}
use Rattle.order_file.proofs.Writing.{array-small, refused-written, counts-few, too_short, file-written}
use Rattle.std.proofs.Common.{rules, ◌≡◌, Err, ap, ◌∙◌}
use Rattle.order_file.specs.Told.{written_told}
use Rattle.order_file.proofs.write.write_order.Goals as goal

pub returns-in_err-accept : goal.returns-in_err-accept
returns-in_err-accept c =
    let r = c.in_err-accept.field-0.0 in
    let is : c.from_residual.result ≡ Err r = search rules in
    let t = refused-written c.args.order _ c.accept.ensures c.args.out.now r c.in_err-accept.was in
    record { result_value = ap written_told is ∙ t.0; out_after = t.1.0; read_back_by = t.1.1 }

pub returns-then-out-len : goal.returns-then-out-len
returns-then-out-len c =
    let t = too_short c.args.order _ c.accept.ensures c.args.out.now
    c.in_ok-accept.was c.if-out-len.true in
    record { result_value = t.0; out_after = t.1.0; read_back_by = t.1.1 }

pub put_processors-requires : goal.put_processors-requires
put_processors-requires c =
    let f = counts-few c.args.order _ c.accept.ensures c.in_ok-accept.was in
    search rules

pub put_jobs-requires : goal.put_jobs-requires
put_jobs-requires c =
    let f = counts-few c.args.order _ c.accept.ensures c.in_ok-accept.was in
    search rules

pub put_trailer-requires : goal.put_trailer-requires
put_trailer-requires c =
    let f = counts-few c.args.order _ c.accept.ensures c.in_ok-accept.was in
    search rules

pub returns : goal.returns
returns c =
    let t = file-written c.args.order _ c.accept.ensures c.args.out.now
    c.in_ok-accept.was _ _ _ c.if-out-len.false
    c.put_processors.ensures c.put_jobs.ensures c.put_trailer.ensures
    (struct-bounded c.args.order (array-small c.args.order.memories c.struct_known-1.given.1.0)
    (array-small c.args.order.needs c.struct_known-1.given.1.1.1.1.1.0)) in
    record { result_value = t.0; out_after = t.1.0; read_back_by = t.1.1 }
