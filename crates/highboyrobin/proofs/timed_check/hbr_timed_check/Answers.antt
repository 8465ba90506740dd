use Rattle.std.specs.Prelude.{Ok, Err}
use mathlib.Core.Bool.{Bool}
use mathlib.Core.Path.{ap, ◌∙◌}
use mathlib.Core.List.{◌∷◌, ◌++◌}
use Prim.Native.Nat.{ℕ}
use lib.IntN.{pos}
use borrow.Author.Rules.{rules}
use lib.ListN.{length, drop}
use mir.Syntax.{w32}
use mir.ValLaws.{to_z-of_z}
use Rattle.order_file.specs.File.{order_in}
use Rattle.highboyrobin.specs.Calls.{yes_or_no}
use Rattle.highboyrobin.specs.TimedCalls.{times_in}
use Rattle.highboyrobin.proofs.Answering.{ended-told, ended-done, read-ended}
use Rattle.highboyrobin.proofs.ChecksTold.{number-told}
use Rattle.highboyrobin.proofs.Carried.{carried-few, timed-check-carries}
use Rattle.highboyrobin.proofs.TimedCalling.{timed-refused, timed-told, timed-read, timed-room}
use Rattle.highboyrobin.proofs.TimedTold.{timed-check-begins, TimedCheckTold, timed-check-refused, timed-checked}
use Rattle.highboyrobin.proofs.timed_check.hbr_timed_check.Goals as goal

pub returns-in-Err : goal.returns-in-Err
returns-in-Err c =
    let s = c.args in
    let a = s.ready.now in
    let w = s.windows.now in
    let h = timed-refused (length s.answer.now) s.file.now a w c.in-Err.result c.in-Err.ensures _ _
    (timed-check-begins (order_in s.file.now) s.bound (times_in a w) (length s.rows.now)) in
    let t = read-ended _ _ _ h.0 h.1 _ h.2 h.3 in
    record { value = t.0; answer_after = t.1 }

pub put_count-requires : goal.put_count-requires
put_count-requires c =
    let s = c.args in
    (search rules, timed-room (length s.answer.now) s.file.now s.ready.now s.windows.now c.in-Ok.read c.in-Ok.ensures)

pub result_of-requires : goal.result_of-requires
result_of-requires c =
    let s = c.args in
    let n = length s.answer.now in
    let f = s.file.now in
    let a = s.ready.now in
    let w = s.windows.now in
    let r = c.in-Ok.read in
    let why = c.in-Err-check_timed.refusal in
    let h = timed-told n f a w r c.in-Ok.ensures (TimedCheckTold s.rows.now (Err why)) _ s.bound
    (to_z-of_z w32 s.bound c.ranges.bound) c.in-Err-check_timed.ensures in
    let q = timed-check-refused s.rows.now (order_in f) s.bound (times_in a w) why h in
    carried-few _ _ q (timed-check-carries (order_in f) s.bound (times_in a w) (length s.rows.now))

pub returns-in-Err-check_timed : goal.returns-in-Err-check_timed
returns-in-Err-check_timed c =
    let s = c.args in
    let n = length s.answer.now in
    let f = s.file.now in
    let a = s.ready.now in
    let w = s.windows.now in
    let r = c.in-Ok.read in
    let why = c.in-Err-check_timed.refusal in
    let h = timed-told n f a w r c.in-Ok.ensures (TimedCheckTold s.rows.now (Err why)) _ s.bound
    (to_z-of_z w32 s.bound c.ranges.bound) c.in-Err-check_timed.ensures in
    let q = timed-check-refused s.rows.now (order_in f) s.bound (times_in a w) why h in
    let t = ended-told _ _ _ why (timed-read n f a w r c.in-Ok.ensures _ ∙ q) _ c.result_of.ensures in
    record { value = t.0; answer_after = t.1 }

pub returns-in-Ok-check_timed : goal.returns-in-Ok-check_timed
returns-in-Ok-check_timed c =
    let s = c.args in
    let n = length s.answer.now in
    let f = s.file.now in
    let a = s.ready.now in
    let w = s.windows.now in
    let r = c.in-Ok.read in
    let right = c.in-Ok-check_timed.right in
    let h = timed-told n f a w r c.in-Ok.ensures (TimedCheckTold s.rows.now (Ok right)) _ s.bound
    (to_z-of_z w32 s.bound c.ranges.bound) c.in-Ok-check_timed.ensures in
    let q = timed-checked s.rows.now (order_in f) s.bound (times_in a w) right h in
    let t = ended-done _ _ _ _ (timed-read n f a w r c.in-Ok.ensures _ ∙ q.0)
    (c.put_count.ensures ∙ ap (λ (k : ℕ). pos k ∷ drop 1 s.answer.now) (c.from.ensures ∙ number-told right)
    ∙ ap (λ (b : Bool). yes_or_no b ++ drop 1 s.answer.now) q.1) in
    record { value = t.0; answer_after = t.1 }
