use Rattle.std.specs.Prelude.{Ok, Err}
use mathlib.Core.Path.{ap, ◌∙◌}
use mathlib.Core.List.{◌∷◌}
use native.Mathlib.Omega.{arith}
use Prim.Native.Nat.{ℕ}
use lib.IntN.{pos}
use lib.ListN.{length, drop}
use mir.Syntax.{w32}
use mir.ValLaws.{to_z-of_z}
use Rattle.order_file.specs.File.{order_in}
use Rattle.highboyrobin.specs.TimedCalls.{times_in}
use Rattle.highboyrobin.proofs.Answering.{ended-told, ended-done, read-ended}
use Rattle.highboyrobin.proofs.Carried.{carried-few, asked-carries}
use Rattle.highboyrobin.proofs.TimedCalling.{timed-refused, timed-told, timed-read, timed-accepted, timed-room}
use Rattle.highboyrobin.proofs.TimedTold.{asked-begins, AskedTold, asked-refused, asked-rows, asked-most}
use Rattle.highboyrobin.proofs.timed_rows.hbr_timed_rows.Goals as goal

pub returns-in-Err : goal.returns-in-Err
returns-in-Err c =
    let s = c.args in
    let a = s.ready.now in
    let w = s.windows.now in
    let h = timed-refused (length s.answer.now) s.file.now a w c.in-Err.result c.in-Err.ensures _ _
    (asked-begins (order_in s.file.now) s.bound (times_in a w)) in
    let t = read-ended _ _ _ h.0 h.1 _ h.2 h.3 in
    record { value = t.0; answer_after = t.1 }

pub put_count-requires : goal.put_count-requires
put_count-requires c =
    let s = c.args in
    let n = length s.answer.now in
    let f = s.file.now in
    let a = s.ready.now in
    let w = s.windows.now in
    let r = c.in-Ok.read in
    let h = timed-told n f a w r c.in-Ok.ensures (AskedTold (Ok c.in-Ok-rows_timed.rows)) _ s.bound
    (to_z-of_z w32 s.bound c.ranges.bound) c.in-Ok-rows_timed.ensures in
    let q = asked-rows (order_in f) s.bound (times_in a w) _ h in (
      omega (arith, q.1, asked-most (order_in f) s.bound (times_in a w) (timed-accepted n f a w r c.in-Ok.ensures)),
      timed-room n f a w r c.in-Ok.ensures,
    )

pub result_of-requires : goal.result_of-requires
result_of-requires c =
    let s = c.args in
    let f = s.file.now in
    let a = s.ready.now in
    let w = s.windows.now in
    let why = c.in-Err-rows_timed.refusal in
    let h = timed-told (length s.answer.now) f a w c.in-Ok.read c.in-Ok.ensures (AskedTold (Err why)) _ s.bound
    (to_z-of_z w32 s.bound c.ranges.bound) c.in-Err-rows_timed.ensures in
    carried-few _ _ (asked-refused (order_in f) s.bound (times_in a w) why h) (asked-carries (order_in f) s.bound (times_in a w))

pub returns-in-Err-rows_timed : goal.returns-in-Err-rows_timed
returns-in-Err-rows_timed c =
    let s = c.args in
    let n = length s.answer.now in
    let f = s.file.now in
    let a = s.ready.now in
    let w = s.windows.now in
    let r = c.in-Ok.read in
    let why = c.in-Err-rows_timed.refusal in
    let h = timed-told n f a w r c.in-Ok.ensures (AskedTold (Err why)) _ s.bound (to_z-of_z w32 s.bound c.ranges.bound)
    c.in-Err-rows_timed.ensures in
    let t = ended-told _ _ _ why
    (timed-read n f a w r c.in-Ok.ensures _ ∙ asked-refused (order_in f) s.bound (times_in a w) why h) _ c.result_of.ensures in
    record { value = t.0; answer_after = t.1 }

pub returns-in-Ok-rows_timed : goal.returns-in-Ok-rows_timed
returns-in-Ok-rows_timed c =
    let s = c.args in
    let n = length s.answer.now in
    let f = s.file.now in
    let a = s.ready.now in
    let w = s.windows.now in
    let r = c.in-Ok.read in
    let h = timed-told n f a w r c.in-Ok.ensures (AskedTold (Ok c.in-Ok-rows_timed.rows)) _ s.bound
    (to_z-of_z w32 s.bound c.ranges.bound) c.in-Ok-rows_timed.ensures in
    let q = asked-rows (order_in f) s.bound (times_in a w) _ h in
    let t = ended-done _ _ _ _ (timed-read n f a w r c.in-Ok.ensures _ ∙ q.0)
    (c.put_count.ensures ∙ ap (λ (k : ℕ). pos k ∷ drop 1 s.answer.now) q.1) in
    record { value = t.0; answer_after = t.1 }
