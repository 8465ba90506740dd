use Rattle.std.proofs.Common.{rules, ◌≡◌, Err, length, subst, sym, ap, ◌∙◌}
use Rattle.order.proofs.RefusalLaws.{accepted-iff}
use Rattle.order.specs.Table.{order_of}
use Rattle.order.specs.declared.Refusal.TheVariants.{BookFull}
use Rattle.book.specs.ToldLaws.{booking-full, booking-made}
use Rattle.profile.specs.Least.{least_lateness}
use Rattle.profile.proofs.LeastRange.{least-in-range}
use Rattle.table.specs.Making.{fine_of}
use Rattle.feasible.specs.Least.{is-least}
use Rattle.profile.specs.LeastRead.{read-least}
use Rattle.planner.proofs.Answers.{least-tabled, least-order-good, least-told, least-made, written_at}
use Rattle.planner.proofs.Booked.{LeastBookEnsured, least-refused-booked, least-full-booked, least-booked}
use Rattle.planner.proofs.lateness_booked.least_booked.Goals as goal

pub returns-in_err-table : goal.returns-in_err-table
returns-in_err-table c =
    let o = order_of c.args.order in
    let rows = c.args.rows.now in
    let counts = c.args.book.now.counts in
    let rf = c.in_err-table.field-0.0 in
    let is : c.from_residual.result ≡ Err rf = search rules in
    let t = subst (LeastBookEnsured o (length rows) counts rows rows counts) (sym is)
    (least-refused-booked o (length rows) counts _ c.judge_least.ensures rows rf c.in_err-table.was) in
    record { least_value = t.0; least_in = t.1.0; buffer_by = t.1.1.0; counts_value = t.1.1.1 }

pub book_order-requires : goal.book_order-requires
book_order-requires c =
    least-order-good (order_of c.args.order) (length c.args.rows.now) _ c.judge_least.ensures c.in_ok-table.table c.in_ok-table.was

pub returns-in_err-book : goal.returns-in_err-book
returns-in_err-book c =
    let o = order_of c.args.order in
    let rows = c.args.rows.now in
    let book = c.args.book.now in
    let full = booking-full o book _ c.book_order.ensures _ c.in_err-book.was in
    let was : c.from_residual-in_err-book.result ≡ Err c.in_err-book.field-0.0 = search rules in
    let is : c.from_residual-in_err-book.result ≡ Err BookFull = was ∙ ap (λ r. Err r) full.0 in
    let t = subst (LeastBookEnsured o (length rows) book.counts rows rows book.counts) (sym is)
    (least-full-booked o (length rows) book.counts _ c.judge_least.ensures rows c.in_ok-table.table c.in_ok-table.was full.1) in
    record { least_value = t.0; least_in = t.1.0; buffer_by = t.1.1.0; counts_value = t.1.1.1 }

pub least_in-lateness-requires : goal.least_in-lateness-requires
least_in-lateness-requires c =
    let o = order_of c.args.order in
    let n = length c.args.rows.now in
    let j = c.judge_least.ensures in
    let table = c.in_ok-table.table in
    let is = c.in_ok-table.was in
    fine_of o _ (least-tabled o n _ j table is) ((accepted-iff o).0 (least-order-good o n _ j table is))

pub make_plan-rows-requires : goal.make_plan-rows-requires
make_plan-rows-requires c =
    let o = order_of c.args.order in
    let n = length c.args.rows.now in
    (o, least-made o n _ c.judge_least.ensures c.in_ok-table.table c.in_ok-table.was _ c.least_in-lateness.ensures)

pub returns : goal.returns
returns c =
    let o = order_of c.args.order in
    let n = length c.args.rows.now in
    let j = c.judge_least.ensures in
    let table = c.in_ok-table.table in
    let is = c.in_ok-table.was in
    let ok = least-order-good o n _ j table is in
    let late = c.least_in-lateness in
    let l = least-told o ok _ (least-tabled o n _ j table is) _ late.ensures in
    let e = read-least late.result (least_lateness o) l (least-in-range o ok) in
    let room = booking-made o c.args.book.now _ c.book_order.ensures _ c.in_ok-book.was in
    let t = least-booked o n c.args.book.now.counts _ j c.args.rows.now table is room.0 (is-least o ok) _ _ _ e
    (written_at e (c.make_plan-rows.ensures.0 o (least-made o n _ j table is _ late.ensures))) room.1 in
    record { least_value = t.0; least_in = t.1.0; buffer_by = t.1.1.0; counts_value = t.1.1.1 }
