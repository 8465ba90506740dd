-- By how much a bound in range lies below the largest, as the machine computes it.
use mathlib.Core.Path.{◌≡◌, refl}
use mathlib.Core.Bool.{true}
use native.Mathlib.Omega.{arith}
use lib.IntN.{ℤ, pos, nat_abs, ◌-ℤ◌}
use lib.Signed.{non_neg}
use lib.Dec.{T}
use mir.Syntax.{w32}
use mir.Val.{to_z, of_z, SFits, Fits}
use mir.ValLaws.{to_z-of_z}
use Rattle.order.specs.Refusals.{bound_in_range}
use Rattle.order.specs.Lead.{lead}
use Rattle.order.proofs.LeadLaws.{lead-whole}
use Rattle.timed.specs.Leads.{most_bound}
use Rattle.timed.specs.LeadLaws.{bound-by-most, shift-most}

module _ (bound : ℤ) (f : SFits w32 bound) (h : bound_in_range bound ≡ true) where
  abbrev machine : ℤ
  machine = most_bound -ℤ to_z w32 (of_z w32 bound)

  machine-is : machine ≡ pos (lead most_bound bound)
  machine-is = rw (to_z-of_z w32 bound f) (lead-whole most_bound bound (bound-by-most bound h))

  fits-shift : SFits w32 (pos (lead most_bound bound))
  fits-shift = record { sfits = omega (arith, shift-most bound h) }

  pub shift_fits : SFits w32 machine
  shift_fits = rw machine-is fits-shift

  shift_back : to_z w32 (of_z w32 machine) ≡ pos (lead most_bound bound)
  shift_back = rw machine-is (to_z-of_z w32 (pos (lead most_bound bound)) fits-shift)

  pub shift-casts : T (non_neg (to_z w32 (of_z w32 machine))) × Fits w32 (nat_abs (to_z w32 (of_z w32 machine)))
  shift-casts = rw shift_back (tt, record { fits = omega (arith, shift-most bound h) })

  pub shift-read : nat_abs (to_z w32 (of_z w32 machine)) ≡ lead most_bound bound
  shift-read = rw shift_back refl
