-- The least lateness as the machine reads it back.
use Rattle.std.specs.Prelude.{◌≡◌, true, ℤ}
use Rattle.std.proofs.Common.{ap, ◌∙◌, arith, to_z, of_z}
use Rattle.std.specs.Int.{w32}
use Rattle.order.proofs.EndLaws.{mag-range}
use Rattle.order.specs.Machine.{machine-back}
use Rattle.order.specs.Refusals.{bound_in_range}

pub read-least : (z least : ℤ) → z ≡ least → bound_in_range least ≡ true → to_z w32 (of_z w32 z) ≡ least
read-least z least e h = machine-back z (omega (arith, mag-range 9999999 10000000 z (ap bound_in_range e ∙ h))) ∙ e
