-- What is told of an order of up to sixteen classes at a bound stands for document 01's reason, whole: of a staircase every due time.
use Rattle.std.specs.Prelude.{◌≤◌, ◌≡◌, refl, List, ℤ, pos, length}
use Rattle.std.proofs.Common.{ap, ◌∙◌, arith}
use Rattle.sums.specs.Places.{take-tabulate}
use Rattle.order.specs.Order.{Order}
use Rattle.order.specs.Class.{classes}
use Rattle.profile.specs.Reason.{Reason as TightReason, over_end, stairs}
use Rattle.profile.proofs.ReasonLaws.{reason-found}
use Rattle.profile.specs.Search.{Found, found, nothing, reason_of}
use Rattle.reason.specs.Told.{why_of, why_told}
use Rattle.reason.specs.declared.Why.{Why}

module _ (o : Order) (bound : ℤ) (few : length (classes o) ≤ 16) where
  few-dues : (dues : List ℤ) → reason_of o bound ≡ found (stairs dues) → length dues ≤ 16
  few-dues dues e = omega (arith, ((reason-found o bound (stairs dues)).0 e).stairs.overfull.profile.of-classes)

  told : (f : Found TightReason) → reason_of o bound ≡ f → why_told (why_of o f) ≡ f
  told nothing e = refl
  told (found (over_end j)) e = refl
  told (found (stairs dues)) e = ap (λ (ds : List ℤ). found (stairs ds)) (take-tabulate dues 16 (pos 0) (few-dues dues e))

  pub why-told : (w : Why) → w ≡ why_of o (reason_of o bound) → why_told w ≡ reason_of o bound
  why-told w e = ap why_told e ∙ told (reason_of o bound) refl
