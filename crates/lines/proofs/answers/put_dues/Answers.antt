use Rattle.std.proofs.Common.{rules, arith, ◌≡◌, ◌∙◌, ap, sym, pos, get_or, take, take_all, length-take-le, to_z, of_z, w32}
use Rattle.text.specs.Text.{signed_number}
use Rattle.text.specs.TextLaws.{put-none, put_as, put_both}
use Rattle.lines.specs.Lines.{signed_numbers}
use Rattle.lines.specs.LineLaws.{numbers-taken, numbers-none, numbers_more}
use Rattle.lines.proofs.answers.put_dues.Goals as goal

pub loop-due-init : goal.loop-due-init
loop-due-init c = (omega arith, put_as (sym numbers-none) (put-none c.args.out.now c.args.at (omega arith)))

pub put_signed-next-requires : goal.put_signed-next-requires
put_signed-next-requires c = omega (arith, length-take-le c.min-n.result c.args.dues (omega arith))

pub loop-due-preserved : goal.loop-due-preserved
loop-due-preserved c =
    let l = c.loop-due in
    let q = c.put_signed-next.ensures in
    let items = take c.min-n.result c.args.dues in
    let z : to_z w32 (of_z w32 (get_or items l.due-index (pos 0))) ≡ get_or items l.due-index (pos 0) = search rules in (
      omega arith,
      put_as (numbers_more items l.due-index (omega arith)) (put_both l.invariant.1 (put_as (ap signed_number z) q.0)),
    )

pub returns : goal.returns
returns c =
    let l = c.loop-due in
    let items = take c.min-n.result c.args.dues in
    let all = ap signed_numbers (take_all l.due-index items (omega arith)) in (
      put_as (all ∙ numbers-taken c.args.dues c.min-n.result c.args.count (omega arith)) l.invariant.1,
      omega (arith, length-take-le c.min-n.result c.args.dues (omega arith)),
    )
