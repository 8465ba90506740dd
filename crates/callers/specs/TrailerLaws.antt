-- Where a trailer is refused for a caller, so is every table of its file; where it is not, the caller's table answers what the dock's does.
use Rattle.std.specs.Prelude.{ℕ, ◌≡◌, List, ◌∷◌, ◌++◌}
use Rattle.std.proofs.Math.Path.{sym, ap}
use Rattle.std.proofs.Common.{◌∙◌}
use Rattle.order.specs.Order.{processor_count, job_count}
use Rattle.order.specs.Refusals.{limits, TableRow, judge, count_rows, file_row}
use Rattle.order.proofs.RefusalLaws.{judge-accepted, judge-refused-append}
use Rattle.order.specs.Callers.{limits_of, rows_by, rows_for}
use Rattle.order.proofs.CallerLaws.{Itself, counts-pass}
use Rattle.order.specs.Table.{Acceptance, refusal_told, acceptance_told}
use Rattle.order.proofs.TableLaws.{refused-told}
use Rattle.std.specs.Prelude.{Ok, Err}
use Rattle.order.specs.declared.Caller.{Caller}
use Rattle.order.specs.declared.Refusal.{Refusal}
use Rattle.order_file.specs.File.{good_file, order_in}
use Rattle.callers.specs.Trailers.{trailer_rows}

module _ (caller : Caller) (f : List ℕ) (a : Acceptance) (e : acceptance_told a ≡ judge (trailer_rows (limits_of caller) f)) where
  pub trailer-refused : (why : Refusal) → a ≡ Err why → (later : List TableRow) →
      judge (rows_for caller (order_in f)
      (file_row (good_file f) ∷ (count_rows limits (processor_count (order_in f)) (job_count (order_in f)) ++ later))) ≡ refusal_told why
  unfolding rows_by
  trailer-refused why is later =
      let t = refused-told why in
      judge-refused-append (trailer_rows (limits_of caller) f)
      (rows_by (limits_of caller) (processor_count (order_in f)) (job_count (order_in f)) later)
      t.0 t.1 (sym e ∙ ap acceptance_told is ∙ t.2)
      ∙ sym t.2

  pub trailer-passed : a ≡ Ok tt → (rows : List TableRow) → Itself (processor_count (order_in f)) (job_count (order_in f)) rows →
      judge (rows_for caller (order_in f) rows) ≡ judge rows
  trailer-passed is rows same =
      let counts = count_rows (limits_of caller) (processor_count (order_in f)) (job_count (order_in f)) in
      let clears = (judge-accepted (file_row (good_file f) ∷ counts)).0 (sym e ∙ ap acceptance_told is) in
      counts-pass caller (processor_count (order_in f)) (job_count (order_in f)) rows same ((judge-accepted counts).1 clears.1)
