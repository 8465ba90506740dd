-- How acceptance puts its answer together: the counts decide alone where they refuse, else the first bad job does.
use Prim.Native.Nat.{◌≤◌}
use mathlib.Core.Path.{◌≡◌, sym, ap, ◌∙◌}
use mathlib.Core.List.{List, ◌++◌}
use Rattle.order.specs.Refusals.{limits, TableRow, refused, judge, count_rows, job_rows, order_rows}
use Rattle.order.proofs.RefusalLaws.{judge-refused-append, judge-accepted-append, counts-in-limits}
use Rattle.order.proofs.StructLaws.{job-count, processor-count}
use Rattle.order.proofs.TableLaws.{refused-told}
use Rattle.order.specs.Table.{order_of, Acceptance, acceptance_told}
use Rattle.order.specs.declared.Order.{Order as OrderTable}
use Rattle.order.specs.declared.Refusal.{Refusal}
use Rattle.std.specs.Prelude.{Ok, Err}

-- where the first rows refuse, the whole table answers the same
pub stays-refused : (rows later : List TableRow) (a : Acceptance) (r : Refusal) → acceptance_told a ≡ judge rows → a ≡ Err r →
    acceptance_told a ≡ judge (rows ++ later)
stays-refused rows later a r e is =
    let t = refused-told r in
    let v : acceptance_told a ≡ refused t.0 t.1 = ap acceptance_told is ∙ t.2 in
    v ∙ sym (judge-refused-append rows later t.0 t.1 (sym e ∙ v))

module _ (t : OrderTable) (a : Acceptance) (e : acceptance_told a ≡ judge (count_rows limits t.processors t.jobs)) where
  counts : order_rows limits (order_of t) ≡ count_rows limits t.processors t.jobs ++ job_rows (order_of t)
  counts = rw (processor-count t, job-count t)

  pub counts-refuse : (r : Refusal) → a ≡ Err r → acceptance_told a ≡ judge (order_rows limits (order_of t))
  counts-refuse r is =
      stays-refused (count_rows limits t.processors t.jobs) (job_rows (order_of t)) a r e is ∙ ap judge (sym counts)

  pub counts-few : a ≡ Ok tt → (t.processors ≤ 16) × (t.jobs ≤ 48)
  counts-few is = let h = counts-in-limits t.processors t.jobs (sym e ∙ ap acceptance_told is) in (h.1, h.3)

  pub jobs-decide : a ≡ Ok tt → judge (order_rows limits (order_of t)) ≡ judge (job_rows (order_of t))
  jobs-decide is =
      ap judge counts
      ∙ judge-accepted-append (count_rows limits t.processors t.jobs) (job_rows (order_of t)) (sym e ∙ ap acceptance_told is)
