use mathlib.Core.Path.{sym, ap}
use mir.Syntax.{w32}
use mir.ValLaws.{to_z-of_z}
use native.Mathlib.Omega.{arith}
use Rattle.order.specs.Machine.{machine-low}
use Rattle.order.proofs.RefusalLaws.{accepted-iff}
use Rattle.order.proofs.StructLaws.{few-processors}
use Rattle.order.specs.Table.{order_of}
use Rattle.profile.specs.Reason.{stairs}
use Rattle.text.specs.TextLaws.{put-none, put_as, put_both}
use Rattle.sentence.specs.Line.{sums_text}
use Rattle.sentence.specs.LineLaws.{composed-none}
use Rattle.sentence.proofs.Standings.{told-at-bound, weighed-stands, weighed-falls, stairs-line}
use Rattle.sentence.proofs.line.stairs_line.Goals as goal

pub returns-in_default : goal.returns-in_default
returns-in_default c =
    let o = order_of c.args.order in
    let dues = c.args.dues.now in
    let w = c.weigh in
    let told = told-at-bound o _ c.args.bound dues w.result (to_z-of_z w32 c.args.bound c.ranges.bound) w.ensures in (
      put_as (sym (composed-none o c.args.bound (stairs dues) (weighed-falls o c.args.bound dues w.result c.in_default.is told)))
          (put-none c.args.out.now 0 (omega arith)),
      omega arith,
    )

pub classes_of-requires : goal.classes_of-requires
classes_of-requires c = (few-processors c.args.order c.requires.0, c.table_of-t.ensures.by-memory)

pub returns : goal.returns
returns c =
    let o = order_of c.args.order in
    let dues = c.args.dues.now in
    let w = c.weigh in
    let sums = c.in-Some.sums in
    let h = weighed-stands o c.args.bound dues w.result sums c.in-Some.is
    (told-at-bound o _ c.args.bound dues w.result (to_z-of_z w32 c.args.bound c.ranges.bound) w.ensures) in
    let m = c.classes_of in
    let back = machine-low sums.on_hand (omega (arith, h.3, h.4)) in
    let p1 = c.put_classes-behind.ensures in
    let p2 = c.put_sums.ensures in (
      put_as (stairs-line o c.args.bound ((accepted-iff o).0 c.requires.0).few-processors m.result m.ensures dues sums h)
          (put_both p1.0 (put_as (ap (sums_text sums.owed) back) p2.0)),
      omega (arith, p1.1, p2.1),
    )
