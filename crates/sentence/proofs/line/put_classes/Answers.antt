use Rattle.std.proofs.Common.{rules, arith, ◌≡◌, sym, ap, pos, get_or, to_z, of_z, w32}
use Rattle.text.specs.TextLaws.{put-none, put_as, put_both}
use Rattle.sentence.specs.Line.{class_text}
use Rattle.sentence.proofs.Classes.{classes-none, classes-more}
use Rattle.sentence.proofs.line.put_classes.Goals as goal

pub loop-i-init : goal.loop-i-init
loop-i-init c = (omega arith, put_as (sym (classes-none _ 0)) (put-none c.args.out.now 0 (omega arith)))

pub loop-i-preserved : goal.loop-i-preserved
loop-i-preserved c =
    let l = c.loop-i in
    let p2 = c.put_between-behind.ensures in
    let p3 = c.put_class-next.ensures in
    let z : to_z w32 (of_z w32 (get_or c.args.dues.now l.i (pos 0))) ≡ get_or c.args.dues.now l.i (pos 0) = search rules in (
      omega (arith, l.invariant.0, p2.1, p3.1),
      put_as (classes-more c.args.memories c.args.dues.now l.i (omega arith))
          (put_both l.invariant.1 (put_both p2.0 (put_as (ap (class_text (get_or c.args.memories l.i 0)) z) p3.0))),
    )
