-- Demand 3 holds of the least lateness of every accepted order.
use Rattle.std.specs.Prelude.{ℕ, false, ◌≡◌, refl, List, [], ◌∷◌, ◌↔◌, ◌≢◌, ℤ, pos, negsuc, ◌≤ℤ◌, ◌<ℤ◌}
use Rattle.std.proofs.Common.{sym, ap, ◌∙◌, inl, inr, arith, leb→le}
use Rattle.order.specs.Order.{Order}
use Rattle.order.specs.Whole.{le-or-lt}
use Rattle.order.specs.Lead.{last_due, Workable}
use Rattle.order.proofs.LeadLaws.{workable}
use Rattle.order.specs.Refusals.{judge, accepted, refused, tight_row, Accepted}
use Rattle.order.proofs.RefusalLaws.{accepted-iff, judge-accepted-append}
use Rattle.plan.specs.Plan.{Row, Meets}
use Rattle.profile.specs.Least.{least_lateness}
use Rattle.profile.specs.Reason.{Reason}
use Rattle.profile.proofs.ReasonLaws.{reason-found, reason-exceeds}
use Rattle.profile.specs.Search.{Found, found, nothing, reason_of}
use Rattle.profile.proofs.Threshold.{reason-below, threshold}
use Rattle.feasible.specs.Least.{is-least}
use Rattle.planner.specs.Rows.{is_found, earlier_rows, plan_rows}
use Rattle.planner.specs.Demand.{Demand3}

one_number : (a b : ℤ) → a ≤ℤ b → b ≤ℤ a → a ≡ b
one_number (pos m) (pos n) h k = ap pos (omega (arith, leb→le m n h.le, leb→le n m k.le))
one_number (pos m) (negsuc n) h k = absurd h.le
one_number (negsuc m) (pos n) h k = absurd k.le
one_number (negsuc m) (negsuc n) h k = ap negsuc (omega (arith, leb→le n m h.le, leb→le m n k.le))

-- row 10 alone
pub tight-refused : (f : Found Reason) → judge (tight_row (is_found f) ∷ []) ≡ refused 10 0 → (r : Reason) × (f ≡ found r)
unfolding judge
tight-refused nothing e = let z : ◌≡◌ {A = ℕ} 0 1 = cc in absurd (omega arith)
tight-refused (found r) e = (r, refl)

refused-tight : (f : Found Reason) (r : Reason) → f ≡ found r → judge (tight_row (is_found f) ∷ []) ≡ refused 10 0
unfolding judge
refused-tight f r e = rw e

pub not_found : (f : Found Reason) → is_found f ≡ false → f ≡ nothing
not_found nothing e = refl
not_found (found r) e = let z : ◌≡◌ {A = ℕ} 0 1 = cc in absurd (omega arith)

module _ (o : Order) (ok : Accepted o) where
  abbrev work : Workable last_due o
  work = workable o ((accepted-iff o).0 ok)

  others : (number : ℤ) (rows : List Row) → Meets o number rows → number ≢ least_lateness o → least_lateness o <ℤ number
  others number rows right differs =
      elim (le-or-lt number (least_lateness o)) [
        | inr h ↦ h
        | inl h ↦ absurd (differs (one_number number (least_lateness o) h ((is-least o ok).no_other number rows right)))
      ]

  tight : (bound : ℤ) (lent : ℕ) → judge (earlier_rows o bound lent) ≡ accepted →
      (judge (plan_rows o bound lent) ≡ refused 10 0) ↔ (bound <ℤ least_lateness o)
  unfolding plan_rows least_lateness
  tight bound lent none =
      let last : judge (plan_rows o bound lent) ≡ judge (tight_row (is_found (reason_of o bound)) ∷ [])
      = judge-accepted-append (earlier_rows o bound lent) (tight_row (is_found (reason_of o bound)) ∷ []) none in (
        (λ e. let t = tight-refused (reason_of o bound) (sym last ∙ e) in
            (threshold last_due o work bound).0 (t.0, (reason-found o bound t.0).0 t.1)),
        λ below. let r = reason-below last_due o work bound below in
            last ∙ refused-tight (reason_of o bound) r.0 ((reason-found o bound r.0).1 r.1),
      )

-- For every accepted order, all of demand 3 holds of the formula that the planner answers.
pub demand-3 : (o : Order) → Accepted o → Demand3 o (least_lateness o)
unfolding least_lateness
demand-3 o ok =
    record {
      one-meets = (is-least o ok).some-plan;
      others-larger = others o ok;
      none-in-parts = (is-least o ok).none-in-parts;
      tight-below = tight o ok;
      reason-below = λ bound below.
          let r = reason-below last_due o (work o ok) bound below in
          (r.0, (reason-found o bound r.0).1 r.1, r.1, reason-exceeds o bound r.0 r.1);
    }
