use Rattle.std.specs.Prelude.{Ok, Err}
use mathlib.Core.Path.{refl}
use lib.ListN.{length}
use Rattle.order.specs.Table.{order_of}
use Rattle.order.specs.declared.Caller.TheVariants.{Dock}
use Rattle.order.specs.declared.Refusal.TheVariants.{NoProcessor, TooManyProcessors, TooManyJobs}
use Rattle.highboyrobin.specs.Calls.{order_from}
use Rattle.highboyrobin.proofs.Carried.{carried-few, write-carries}
use Rattle.highboyrobin.proofs.FilesTold.{
  write-told,
  many-processors,
  no-processor,
  many-jobs,
  write-moved,
  writer-refused,
  writer-wrote,
  file-few,
}
use native.Mathlib.Omega.{arith}
use Rattle.highboyrobin.proofs.writing.hbr_write.Goals as goal

pub returns-then-memories-gt16 : goal.returns-then-memories-gt16
returns-then-memories-gt16 c =
    let s = c.args in
    let m = c.args.memories.now in
    let j = c.args.jobs.now in
    let n = length s.file.now in
    let a = length s.answer.now in
    let t = write-told _ _ _ _ (TooManyProcessors Dock)
    (many-processors m j n a c.if-answer-lt1.false c.if-jobs-ne0.false
    c.if-memories-gt16.true) _ c.result_of.ensures _ refl in
    record { value = t.0; file_after = t.1.0; read_back_by = t.1.1.0; answer_after = t.1.1.1 }

pub returns-then-memories-eq0 : goal.returns-then-memories-eq0
returns-then-memories-eq0 c =
    let s = c.args in
    let m = c.args.memories.now in
    let j = c.args.jobs.now in
    let n = length s.file.now in
    let a = length s.answer.now in
    let t = write-told _ _ _ _ NoProcessor (no-processor m j n a c.if-answer-lt1.false
    c.if-jobs-ne0.false c.if-memories-eq0.true) _ c.result_of-then-memories-eq0.ensures _ refl in
    record { value = t.0; file_after = t.1.0; read_back_by = t.1.1.0; answer_after = t.1.1.1 }

pub returns-then-jobs-gt192 : goal.returns-then-jobs-gt192
returns-then-jobs-gt192 c =
    let s = c.args in
    let m = c.args.memories.now in
    let j = c.args.jobs.now in
    let n = length s.file.now in
    let a = length s.answer.now in
    let t = write-told _ _ _ _ (TooManyJobs Dock) (many-jobs m j n a c.if-answer-lt1.false
    c.if-jobs-ne0.false c.if-memories-eq0.false c.if-memories-gt16.false
    c.if-jobs-gt192.true) _ c.result_of-then-jobs-gt192.ensures _ refl in
    record { value = t.0; file_after = t.1.0; read_back_by = t.1.1.0; answer_after = t.1.1.1 }

pub overflow_cast-n : goal.overflow_cast-n
overflow_cast-n c =
    let s = c.args in
    let m = s.memories.now in
    let j = s.jobs.now in
    let o = order_from m j in
    let k = c.in-Ok in
    let t = write-moved (order_of c.order_from.result) o s.file.now _ (Ok k.n) c.order_from.ensures
    (k.ensures.result_value, (k.ensures.out_after, k.ensures.read_back_by)) in
    let h = writer-wrote o s.file.now _ k.n t in
    omega (arith, h.1, file-few o (length s.file.now) h.0)

pub put_count-requires : goal.put_count-requires
put_count-requires c =
    let s = c.args in
    let m = s.memories.now in
    let j = s.jobs.now in
    let o = order_from m j in
    let k = c.in-Ok in
    let t = write-moved (order_of c.order_from.result) o s.file.now _ (Ok k.n) c.order_from.ensures
    (k.ensures.result_value, (k.ensures.out_after, k.ensures.read_back_by)) in
    let h = writer-wrote o s.file.now _ k.n t in
    (omega (arith, h.1, file-few o (length s.file.now) h.0), c.if-answer-lt1.false)

pub result_of-requires-in-Err : goal.result_of-requires-in-Err
result_of-requires-in-Err c =
    let s = c.args in
    let m = s.memories.now in
    let j = s.jobs.now in
    let o = order_from m j in
    let k = c.in-Err in
    let t = write-moved (order_of c.order_from.result) o s.file.now _ (Err k.refusal) c.order_from.ensures
    (k.ensures.result_value, (k.ensures.out_after, k.ensures.read_back_by)) in
    let h = writer-refused o s.file.now _ k.refusal t in
    carried-few _ _ h.0 (write-carries o (length s.file.now))
