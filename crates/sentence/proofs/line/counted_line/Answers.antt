use mathlib.Core.Path.{sym, ap, ◌∙◌}
use mathlib.Core.List.{List}
use lib.IntN.{ℤ}
use mir.Syntax.{w32}
use mir.ValLaws.{to_z-of_z}
use native.Mathlib.Omega.{arith}
use Rattle.order.specs.Table.{order_of}
use Rattle.profile.specs.Reason.{stairs}
use Rattle.profile.specs.Search.{found}
use Rattle.text.specs.TextLaws.{put-none, put_as}
use Rattle.sentence.specs.Handed.{all_zero}
use Rattle.sentence.specs.Line.{composed}
use Rattle.sentence.proofs.Dues.{zeros-told}
use Rattle.sentence.proofs.Handings.{stairs-beyond, stairs-beside, stairs-handed}
use Rattle.sentence.proofs.line.counted_line.Goals as goal

pub returns-then-count-gt16 : goal.returns-then-count-gt16
returns-then-count-gt16 c = (
  put_as (sym (stairs-beyond (order_of c.args.order) c.args.bound c.args.dues c.args.count
      (omega (arith, c.if-count-gt16.true))))
      (put-none c.args.out.now 0 (omega arith)),
  omega arith,
)

pub returns-then-not-all_zero : goal.returns-then-not-all_zero
returns-then-not-all_zero c =
    let z = c.all_zero.ensures ∙ (zeros-told _ ∙ ap all_zero c.split_at.ensures.back) in (
      put_as (sym (stairs-beside (order_of c.args.order) c.args.bound c.args.dues c.args.count
          (omega (arith, c.if-count-gt16.false)) c.all_zero.result z c.if-not-all_zero.true))
          (put-none c.args.out.now 0 (omega arith)),
      omega arith,
    )

pub returns : goal.returns
returns c =
    let z = c.all_zero.ensures ∙ (zeros-told _ ∙ ap all_zero c.split_at.ensures.back) in
    let q = c.stairs_line.ensures in
    let o = order_of c.args.order in (
      put_as (ap (λ (b : ℤ). composed o b (found (stairs c.split_at.result.0.now))) (to_z-of_z w32 c.args.bound c.ranges.bound)
          ∙ (ap (λ (ds : List ℤ). composed o c.args.bound (found (stairs ds))) c.split_at.ensures.front
          ∙ stairs-handed o c.args.bound c.args.dues c.args.count
          (omega (arith, c.if-count-gt16.false)) c.all_zero.result z c.if-not-all_zero.false)) q.0,
      q.1,
    )
