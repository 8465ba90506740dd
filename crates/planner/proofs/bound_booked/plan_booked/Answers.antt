use Rattle.std.proofs.Common.{rules, ◌≡◌, Err, length, subst, sym, ap, ◌∙◌}
use mir.Syntax.{w32}
use mir.ValLaws.{to_z-of_z}
use Rattle.order.specs.Table.{order_of}
use Rattle.order.specs.declared.Refusal.TheVariants.{BookFull}
use Rattle.book.specs.ToldLaws.{booking-full, booking-made}
use Rattle.planner.specs.declared.NoPlan.TheVariants.{Refused}
use Rattle.planner.proofs.Answers.{made, written_at, judged-at}
use Rattle.planner.proofs.Booked.{BookEnsured, refused-booked, full-booked, rows-booked}
use Rattle.planner.proofs.bound_booked.plan_booked.Goals as goal

pub returns-in_err-table : goal.returns-in_err-table
returns-in_err-table c =
    let o = order_of c.args.order in
    let rows = c.args.rows.now in
    let n = length rows in
    let counts = c.args.book.now.counts in
    let same = to_z-of_z w32 c.args.bound c.ranges.bound in
    let no_plan = c.in_err-table.field-0.0 in
    let is : c.from_residual.result ≡ Err no_plan = search rules in
    let t = subst (BookEnsured o c.args.bound n counts rows rows counts) (sym is)
    (refused-booked o c.args.bound n counts _ (judged-at same c.judge_bound.ensures) rows no_plan c.in_err-table.was) in
    record { planned_value = t.0; reason_told = t.1.0; buffer_by = t.1.1.0; counts_value = t.1.1.1 }

pub book_order-requires : goal.book_order-requires
book_order-requires c =
    let o = order_of c.args.order in
    (made o _ (length c.args.rows.now) _ c.judge_bound.ensures c.in_ok-table.table c.in_ok-table.was).accepted

pub returns-in_err-book : goal.returns-in_err-book
returns-in_err-book c =
    let o = order_of c.args.order in
    let rows = c.args.rows.now in
    let n = length rows in
    let book = c.args.book.now in
    let same = to_z-of_z w32 c.args.bound c.ranges.bound in
    let full = booking-full o book _ c.book_order.ensures _ c.in_err-book.was in
    let was : c.from_residual-in_err-book.result ≡ Err (Refused c.in_err-book.field-0.0) = search rules in
    let is : c.from_residual-in_err-book.result ≡ Err (Refused BookFull) = was ∙ ap (λ r. Err (Refused r)) full.0 in
    let t = subst (BookEnsured o c.args.bound n book.counts rows rows book.counts) (sym is)
    (full-booked o c.args.bound n book.counts _ (judged-at same c.judge_bound.ensures) rows c.in_ok-table.table c.in_ok-table.was full.1) in
    record { planned_value = t.0; reason_told = t.1.0; buffer_by = t.1.1.0; counts_value = t.1.1.1 }

pub make_plan-requires : goal.make_plan-requires
make_plan-requires c =
    let o = order_of c.args.order in
    (o, made o _ (length c.args.rows.now) _ c.judge_bound.ensures c.in_ok-table.table c.in_ok-table.was)

pub returns : goal.returns
returns c =
    let o = order_of c.args.order in
    let n = length c.args.rows.now in
    let j = c.judge_bound.ensures in
    let table = c.in_ok-table.table in
    let is = c.in_ok-table.was in
    let same = to_z-of_z w32 c.args.bound c.ranges.bound in
    let room = booking-made o c.args.book.now _ c.book_order.ensures _ c.in_ok-book.was in
    let t = rows-booked o c.args.bound n c.args.book.now.counts _ (judged-at same j) c.args.rows.now table is room.0 _ _ _
    (written_at same (c.make_plan.ensures.0 o (made o _ n _ j table is))) room.1 in
    record { planned_value = t.0; reason_told = t.1.0; buffer_by = t.1.1.0; counts_value = t.1.1.1 }
