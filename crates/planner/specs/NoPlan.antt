-- What a reason says of every plan; and there is none exactly where some right plan meets the bound.
use Rattle.std.specs.Prelude.{ℕ, ◌≤◌, ◌≡◌, refl, List, [], ◌∷◌, ◌↔◌, ℤ, pos, ◌<ℤ◌}
use Rattle.std.proofs.Common.{ap, ◌∙◌, subst, arith}
use Rattle.sums.specs.Lists.{In}
use Rattle.order.specs.Order.{Order}
use Rattle.order.specs.Lead.{last_due, Workable}
use Rattle.order.proofs.LeadLaws.{workable}
use Rattle.order.specs.Refusals.{Accepted}
use Rattle.order.proofs.RefusalLaws.{accepted-iff}
use Rattle.plan.specs.Plan.{Row, RightInParts, Meets}
use Rattle.profile.specs.Reason.{Reason, IsReason, Stands, owed_of, on_hand_of}
use Rattle.profile.proofs.ReasonLaws.{reason-found, reason-none, reason-exceeds}
use Rattle.profile.specs.Search.{Found, nothing, found, reason_of}
use Rattle.profile.specs.Standing.{reasons_at, head_of}
use Rattle.profile.proofs.StandingLaws.{reasons-are, reason-first}
use Rattle.feasible.specs.Sound.{no-reason-where-met}
use Rattle.feasible.specs.Complete.{complete}

-- it is document 01's, the minutes owed exceed those on hand, and nobody's plan is right, in whatever equal parts of a minute
pub record NoPlan (o : Order) (bound : ℤ) (reason : Reason) : Type 0 where
  pub is-reason : IsReason o bound reason
  pub exceeds : on_hand_of o bound reason <ℤ pos (owed_of o bound reason)
  pub none-in-parts : (p : ℕ) → 1 ≤ p → (rows : List Row) → ¬ RightInParts p o bound rows

module _ (o : Order) (ok : Accepted o) (bound : ℤ) where
  abbrev work : Workable last_due o
  work = workable o ((accepted-iff o).0 ok)

  pub reason-no-plan : (reason : Reason) → reason_of o bound ≡ found reason → NoPlan o bound reason
  reason-no-plan reason e =
      let is = (reason-found o bound reason).0 e in
      record {
        is-reason = is;
        exceeds = reason-exceeds o bound reason is;
        none-in-parts = λ p parts rows right. no-reason-where-met o work bound p parts rows right reason is;
      }

  pub none-where-met : (reason_of o bound ≡ nothing) ↔ ((rows : List Row) × Meets o bound rows)
  none-where-met = (λ e. complete o work bound ((reason-none o bound).0 e), λ plan. met (reason_of o bound) refl plan.0 plan.1)
    where
      met : (f : Found Reason) → reason_of o bound ≡ f → (rows : List Row) → Meets o bound rows → f ≡ nothing
      met nothing e rows right = refl
      met (found r) e rows right = absurd ((reason-no-plan r e).none-in-parts 1 (omega arith) rows right)

  -- every reason that stands says so too: nobody's plan is right, in whatever equal parts of a minute
  pub stands-no-plan : (reason : Reason) → Stands o bound reason →
      (p : ℕ) → 1 ≤ p → (rows : List Row) → ¬ RightInParts p o bound rows
  stands-no-plan reason s = at (reasons_at o bound) refl
    where
      none : (p : ℕ) → 1 ≤ p → (rows : List Row) → (r : Reason) → reason_of o bound ≡ found r → ¬ RightInParts p o bound rows
      none p parts rows r e = (reason-no-plan r e).none-in-parts p parts rows

      at : (rs : List Reason) → reasons_at o bound ≡ rs → (p : ℕ) → 1 ≤ p → (rows : List Row) → ¬ RightInParts p o bound rows
      at [] e = absurd (subst (In reason) e ((reasons-are o bound reason).1 s))
      at (r ∷ rs) e = λ p parts rows. none p parts rows r (reason-first o bound ∙ ap head_of e)
