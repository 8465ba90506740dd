-- `read_estimate`: file, the highs' length and the counts are judged one after the other, as the call's table has them.
use Rattle.std.specs.Prelude.{Some, None, Err}
use mathlib.Core.Path.{◌≡◌, refl}
use Rattle.order_file.specs.TrailerLaws.{lists-placed}
use Rattle.highboyrobin.proofs.BetweenRead.{bad-file, other-jobs, counts-carry, counts-refuse, counts-accept}
use borrow.Author.Rules.{rules}
use Rattle.highboyrobin.proofs.estimating.read_estimate.Goals as goal

pub returns-in_err-lists : goal.returns-in_err-lists
returns-in_err-lists c =
    let s = c.args in
    let none : c.read_trailer.result ≡ None = search rules in
    let is : c.from_residual.result ≡ Err 12 = search rules in
    rw is
    (bad-file s.lent s.asked s.file.now s.highs.now c.if-lent-asked.false c.read_trailer.result c.read_trailer.ensures.value none)

pub returns-then-highs-lists : goal.returns-then-highs-lists
returns-then-highs-lists c =
    let s = c.args in
    let t = c.read_trailer in
    let l = c.in_ok-lists.lists in
    let good : t.result ≡ Some l = search rules in
    other-jobs s.lent s.asked s.file.now s.highs.now c.if-lent-asked.false t.result t.ensures.value l t.ensures.within good
    c.if-highs-lists.true

pub read_counted-requires : goal.read_counted-requires
read_counted-requires c =
    let t = c.read_trailer in
    let l = c.in_ok-lists.lists in
    let good : t.result ≡ Some l = search rules in lists-placed c.args.file.now t.result l t.ensures.within good

pub result_of-requires : goal.result_of-requires
result_of-requires c =
    let s = c.args in
    let t = c.read_trailer in
    let l = c.in_ok-lists.lists in
    let good : t.result ≡ Some l = search rules in
    counts-carry s.lent s.asked s.file.now s.highs.now c.if-lent-asked.false t.result t.ensures.value l t.ensures.within good
    c.if-highs-lists.false c.read_counted.result c.read_counted.ensures c.in-Err.refusal c.in-Err.is

pub returns-in-Err : goal.returns-in-Err
returns-in-Err c =
    let s = c.args in
    let t = c.read_trailer in
    let l = c.in_ok-lists.lists in
    let good : t.result ≡ Some l = search rules in
    counts-refuse s.lent s.asked s.file.now s.highs.now c.if-lent-asked.false t.result t.ensures.value l t.ensures.within good
    c.if-highs-lists.false c.read_counted.result c.read_counted.ensures c.in-Err.refusal c.in-Err.is _ c.result_of.ensures

pub returns-in-Ok : goal.returns-in-Ok
returns-in-Ok c =
    let s = c.args in
    let t = c.read_trailer in
    let l = c.in_ok-lists.lists in
    let good : t.result ≡ Some l = search rules in
    counts-accept s.lent s.asked s.file.now s.highs.now c.if-lent-asked.false t.result t.ensures.value l t.ensures.within good
    c.if-highs-lists.false c.read_counted.result c.read_counted.ensures c.in-Ok.order c.in-Ok.is _ refl c.by_job.ensures
