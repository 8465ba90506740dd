-- What a 10 at a bound says of the reason told: what is composed of it is its line.
use mathlib.Core.Path.{◌≡◌, ap, ◌∙◌}
use native.Mathlib.Omega.{arith}
use lib.IntN.{ℤ}
use Rattle.order.specs.Order.{Order}
use Rattle.order.proofs.ClassLaws.{classes-few}
use Rattle.order.specs.Refusals.{Accepted}
use Rattle.order.proofs.RefusalLaws.{accepted-iff}
use Rattle.profile.specs.Reason.{Reason, over_end, stairs, IsReason}
use Rattle.profile.proofs.ReasonLaws.{reason-found}
use Rattle.profile.specs.Search.{found, reason_of}
use Rattle.profile.proofs.StandingLaws.{reason-stands}
use Rattle.reason.specs.Told.{why_of}
use Rattle.reason.specs.declared.Why.{Why}
use Rattle.sentence.specs.Handed.{handed}
use Rattle.sentence.specs.HandedLaws.{Fitting, handed-own}
use Rattle.sentence.specs.Line.{line_of, composed}
use Rattle.sentence.specs.LineLaws.{composed-line}

-- a reason of an accepted order has up to sixteen due times
reason-fits : (o : Order) (bound : ℤ) → Accepted o → (r : Reason) → IsReason o bound r → Fitting r
reason-fits o bound ok (over_end j) h = tt
reason-fits o bound ok (stairs dues) h =
    omega (arith, h.stairs.overfull.profile.of-classes, classes-few o, ((accepted-iff o).0 ok).few-processors)

-- the line composed from the values that tell a reason is that reason's
pub composed-of : (o : Order) (bound : ℤ) → Accepted o → (r : Reason) → reason_of o bound ≡ found r →
    (why : Why) → why ≡ why_of o (found r) → composed o bound (handed o why) ≡ line_of o bound r
composed-of o bound ok r e why told =
    let is = (reason-found o bound r).0 e in
    ap (λ (w : Why). composed o bound (handed o w)) told
    ∙ (ap (composed o bound) (handed-own o r (reason-fits o bound ok r is))
    ∙ composed-line o bound r (reason-stands o bound r is))
