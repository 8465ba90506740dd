-- What the entry points with times between answer by the caller's limits.
use Prim.Native.Nat.{ℕ}
use mathlib.Core.Path.{◌≡◌, refl, sym, ap, ◌∙◌, subst}
use lib.ListN.{length}
use lib.IntN.{ℤ}
use Rattle.sums.specs.Places.{length-tabulate}
use Rattle.order.specs.Refusals.{limits, Verdict, judge, answer_by, count_rows}
use Rattle.order.proofs.RefusalLaws.{judge-refused-append}
use Rattle.order.specs.Callers.{limits_of, rows_by}
use Rattle.order.proofs.CallerLaws.{counts-pass}
use Rattle.order.proofs.StructLaws.{processor-count}
use Rattle.order.specs.Table.{Acceptance, refusal_told, acceptance_told}
use Rattle.order.proofs.TableLaws.{refused-told, same-refusal}
use Rattle.std.specs.Prelude.{Option, Result, Ok, Err, IfOk}
use Rattle.order.specs.declared.Caller.{Caller}
use Rattle.order.specs.declared.Order.{Order as OrderTable}
use Rattle.order.specs.declared.Refusal.{Refusal}
use Rattle.estimate.specs.Estimate.{least_at_lows, least_at_highs, first_met, order_met, estimated_rows, estimate_rows}
use Rattle.estimate.specs.Told.{job_between, estimate_of, leasts_told, met_told, handed_out}
use Rattle.estimate.specs.declared.Estimate.{Estimate as EstimateTable}
use Rattle.estimate.specs.declared.Leasts.{Leasts}

-- what is answered by a verdict
abbrev pub Spans : EstimateTable → Result Leasts Refusal → Verdict → Type 0
Spans t r v = leasts_told r ≡ answer_by v (least_at_lows (estimate_of t), least_at_highs (estimate_of t))

abbrev pub Meets : EstimateTable → Result (Option OrderTable) Refusal → Verdict → ℤ → Type 0
Meets t r v number =
    (met_told r ≡ answer_by v (order_met (estimate_of t) number))
    × IfOk r (λ met. met ≡ handed_out t.order (first_met (estimate_of t) number))

module _ (caller : Caller) (t : EstimateTable) (a : Acceptance)
    (e : acceptance_told a ≡ judge (count_rows (limits_of caller) t.order.processors t.order.jobs)) where
  abbrev m : ℕ
  m = length (estimate_of t).memories

  abbrev n : ℕ
  n = length (estimate_of t).jobs

  counted : judge (count_rows (limits_of caller) m n) ≡ acceptance_told a
  counted = rw (processor-count t.order, length-tabulate t.order.jobs (job_between t)) (sym e)

  -- the dock's own answer
  pub between-passes : (P : Verdict → Type 0) → a ≡ Ok tt → P (judge (estimate_rows limits (estimate_of t))) →
      P (judge (estimate_rows (limits_of caller) (estimate_of t)))
  unfolding rows_by estimate_rows
  between-passes P is p =
      subst P (sym (counts-pass caller m n (estimate_rows limits (estimate_of t)) refl (counted ∙ ap acceptance_told is))) p

  refusing : (why : Refusal) → a ≡ Err why → judge (estimate_rows (limits_of caller) (estimate_of t)) ≡ refusal_told why
  unfolding estimate_rows
  refusing why is =
      let r = refused-told why in
      judge-refused-append (count_rows (limits_of caller) m n) (estimated_rows (estimate_of t)) r.0 r.1
      (counted ∙ ap acceptance_told is ∙ r.2)
      ∙ sym r.2

  pub spans-refused : (why : Refusal) → a ≡ Err why → Spans t (Err why) (judge (estimate_rows (limits_of caller) (estimate_of t)))
  spans-refused why is = same-refusal _ why _ _ (refusing why is)

  pub meets-refused : (why : Refusal) → a ≡ Err why → (number : ℤ) →
      Meets t (Err why) (judge (estimate_rows (limits_of caller) (estimate_of t))) number
  meets-refused why is number = (same-refusal _ why _ _ (refusing why is), tt)
