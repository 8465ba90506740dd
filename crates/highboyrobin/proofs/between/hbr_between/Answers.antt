use Rattle.std.specs.Prelude.{Ok, Err}
use mathlib.Core.Path.{◌∙◌, subst}
use lib.ListN.{length}
use Rattle.highboyrobin.specs.BetweenCalls.{estimate_in}
use Rattle.highboyrobin.proofs.Answering.{ended-told, ended-done, read-ended}
use Rattle.highboyrobin.proofs.BetweenCalling.{rows-begin, between-refused, between-estimate, between-read, between-room}
use Rattle.highboyrobin.proofs.BetweenTold.{LeastsSay, leasts-refused, leasts-are, low_read, high_read, two-same}
use Rattle.highboyrobin.proofs.Carried.{carried-few, estimate-carries}
use Rattle.highboyrobin.proofs.between.hbr_between.Goals as goal

pub returns-in-Err : goal.returns-in-Err
returns-in-Err c =
    let s = c.args in
    let f = s.file.now in
    let h = s.highs.now in
    let n = length s.answer.now in
    let w = between-refused n 2 f h c.in-Err.result c.in-Err.ensures _ _ (rows-begin f h) in
    let t = read-ended _ _ _ w.0 w.1 _ w.2 w.3 in
    record { value = t.0; answer_after = t.1 }

pub put_two-requires : goal.put_two-requires
put_two-requires c =
    let s = c.args in
    between-room (length s.answer.now) 2 s.file.now s.highs.now c.in-Ok.estimate c.in-Ok.ensures

pub result_of-requires : goal.result_of-requires
result_of-requires c =
    let s = c.args in
    let f = s.file.now in
    let h = s.highs.now in
    let n = length s.answer.now in
    let e = estimate_in f h in
    let d = c.in-Ok.estimate in
    let why = c.in-Err-least_between.refusal in
    let t = subst (LeastsSay (Err why)) (between-estimate n 2 f h d c.in-Ok.ensures) c.in-Err-least_between.ensures in
    carried-few _ _ (leasts-refused e why t) (estimate-carries e)

pub returns-in-Err-least_between : goal.returns-in-Err-least_between
returns-in-Err-least_between c =
    let s = c.args in
    let f = s.file.now in
    let h = s.highs.now in
    let n = length s.answer.now in
    let e = estimate_in f h in
    let d = c.in-Ok.estimate in
    let why = c.in-Err-least_between.refusal in
    let t = subst (LeastsSay (Err why)) (between-estimate n 2 f h d c.in-Ok.ensures) c.in-Err-least_between.ensures in
    let t = ended-told _ _ _ why (between-read n 2 f h d c.in-Ok.ensures _ ∙ leasts-refused e why t) _ c.result_of.ensures in
    record { value = t.0; answer_after = t.1 }

pub returns-in-Ok-least_between : goal.returns-in-Ok-least_between
returns-in-Ok-least_between c =
    let s = c.args in
    let f = s.file.now in
    let h = s.highs.now in
    let n = length s.answer.now in
    let e = estimate_in f h in
    let d = c.in-Ok.estimate in
    let l = c.in-Ok-least_between.leasts in
    let t = subst (LeastsSay (Ok l)) (between-estimate n 2 f h d c.in-Ok.ensures) c.in-Ok-least_between.ensures in
    let q = leasts-are e l t in
    let t = ended-done _ _ _ _ (between-read n 2 f h d c.in-Ok.ensures _ ∙ q.0)
    (c.put_two.ensures ∙ two-same (low_read e q.0 _ q.1) (high_read e q.0 _ q.2)) in
    record { value = t.0; answer_after = t.1 }
