-- `read_timed`: file, lengths and order are judged one after the other, as the call's table has them.
use Rattle.std.specs.Prelude.{Some, None, Err}
use mathlib.Core.Path.{◌≡◌}
use Rattle.highboyrobin.proofs.TimesRead.{
  bad-file,
  other-jobs,
  other-windows,
  reader-refuses,
  reader-accepts,
}
use borrow.Author.Rules.{rules}
use Rattle.highboyrobin.proofs.timing.read_timed.Goals.{
  then-ready-lists-via-then-ready-lists,
  then-ready-lists-via-else-ready-lists+then-windows-lists,
}
use Rattle.highboyrobin.proofs.timing.read_timed.Goals as goal

pub returns-in_err-lists : goal.returns-in_err-lists
returns-in_err-lists c =
    let s = c.args in
    let none : c.read_trailer.result ≡ None = search rules in
    let is : c.from_residual.result ≡ Err 12 = search rules in
    rw is
    (bad-file s.lent s.file.now s.ready.now s.windows.now c.if-lent-lt1.false c.read_trailer.result c.read_trailer.ensures.value none)

pub returns-then-ready-lists : goal.returns-then-ready-lists
returns-then-ready-lists c =
    let s = c.args in
    let t = c.read_trailer in
    let l = c.in_ok-lists.lists in
    let good : t.result ≡ Some l = search rules in
    elim c.then-ready-lists.branch [
      | then-ready-lists-via-then-ready-lists w ↦
          other-jobs s.lent s.file.now s.ready.now s.windows.now c.if-lent-lt1.false t.result t.ensures.value l t.ensures.within good
          w.if-ready-lists.true
      | then-ready-lists-via-else-ready-lists+then-windows-lists w ↦
          other-windows s.lent s.file.now s.ready.now s.windows.now c.if-lent-lt1.false t.result t.ensures.value l t.ensures.within good
          w.if-ready-lists.false w.if-windows-lists.true
    ]

pub returns-in-Err : goal.returns-in-Err
returns-in-Err c =
    let s = c.args in
    let t = c.read_trailer in
    let l = c.in_ok-lists.lists in
    let good : t.result ≡ Some l = search rules in
    reader-refuses s.lent s.file.now s.ready.now s.windows.now c.if-lent-lt1.false t.result t.ensures.value l t.ensures.within good
    c.if-ready-lists.false c.if-windows-lists.false c.read_order.result c.read_order.ensures.result_value c.in-Err.refusal c.in-Err.is
    _ c.result_of.ensures

pub returns-in-Ok : goal.returns-in-Ok
returns-in-Ok c =
    let s = c.args in
    let t = c.read_trailer in
    let l = c.in_ok-lists.lists in
    let good : t.result ≡ Some l = search rules in
    reader-accepts s.lent s.file.now s.ready.now s.windows.now c.if-lent-lt1.false t.result t.ensures.value l t.ensures.within good
    c.if-ready-lists.false c.if-windows-lists.false c.read_order.result c.read_order.ensures.result_value c.in-Ok.order c.in-Ok.is
    _ c.times_from.ensures
