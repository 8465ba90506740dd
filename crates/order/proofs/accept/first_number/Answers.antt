use Rattle.std.proofs.Common.{◌≡◌, false, sym, ◌∙◌, arith, ap}
use borrow.Author.Count.{below_none, below_more}
use Rattle.order.specs.Refusals.{holds}
use Rattle.order.proofs.RefusalLaws.{first-tabulate, none-tabulate}
use Rattle.order.proofs.accept.first_number.Goals as goal

pub loop-j-init : goal.loop-j-init
loop-j-init g c = λ P agree. below_none _

pub returns-then-test : goal.returns-then-test
returns-then-test g c = λ P agree.
    let l = c.loop-j in
    ap holds (omega arith) ∙ sym (first-tabulate P c.args.n (λ j. j) l.j c.loop-j-test.true (l.invariant P agree)
    (sym (agree l.j c.test.result c.loop-j-test.true c.test.ensures) ∙ c.if-test.true))

pub loop-j-preserved : goal.loop-j-preserved
loop-j-preserved g c = λ P agree.
    let l = c.loop-j in
    below_more (λ k. P k ≡ false) _ (l.invariant P agree)
    (sym (agree l.j c.test.result c.loop-j-test.true c.test.ensures) ∙ c.if-test.false)

pub returns : goal.returns
returns g c = λ P agree. sym (none-tabulate P c.args.n (λ j. j) (λ k l. c.loop-j.invariant P agree k (omega arith)))
