-- Leads and due times as the machine computes them.
use Prim.Native.Nat.{ℕ, ◌≤◌}
use mathlib.Core.Path.{◌≡◌, refl, ap}
use mathlib.Core.Bool.{true}
use native.Mathlib.Omega.{arith}
use lib.IntN.{ℤ, pos, nat_abs, ◌+ℤ◌, ◌-ℤ◌}
use lib.Signed.{mag, non_neg}
use lib.Dec.{T}
use mir.Syntax.{w32}
use mir.Val.{to_z, of_z, SFits, Fits}
use mir.ValLaws.{to_z_pos, to_z-of_z}
use Rattle.order.specs.Machine.{machine-back}
use Rattle.order.specs.Order.{end_at}
use Rattle.order.specs.Refusals.{due_in_range}
use Rattle.order.specs.Lead.{lead, due_at, bound_at, last_due}
use Rattle.order.proofs.EndLaws.{mag_sum}
use Rattle.order.proofs.LeadLaws.{lead-whole, due-by-last, lead-most, due-small, bound-small}

pub due-fits : (n : ℕ) → n ≤ 2000000 → SFits w32 (due_at last_due n)
due-fits n h = record { sfits = due-small n h }

pub due-machine : (n : ℕ) → n ≤ 2000000 → pos 1000000 -ℤ to_z w32 n ≡ due_at last_due n
due-machine n h = ap (λ (z : ℤ). pos 1000000 -ℤ z) (to_z_pos w32 n (omega arith))

-- the lead of a due time in range, as the machine computes it
module _ (due : ℤ) (f : SFits w32 due) (h : due_in_range due ≡ true) where
  abbrev machine : ℤ
  machine = pos 1000000 -ℤ to_z w32 (of_z w32 due)

  machine-is : machine ≡ pos (lead last_due due)
  machine-is = rw (to_z-of_z w32 due f) (lead-whole last_due due (due-by-last due h))

  fits-lead : SFits w32 (pos (lead last_due due))
  fits-lead = record { sfits = omega (arith, lead-most due h) }

  pub lead-fits : SFits w32 machine
  lead-fits = rw machine-is fits-lead

  lead-back : to_z w32 (of_z w32 machine) ≡ pos (lead last_due due)
  lead-back = rw machine-is (to_z-of_z w32 (pos (lead last_due due)) fits-lead)

  pub lead-casts : T (non_neg (to_z w32 (of_z w32 machine))) × Fits w32 (nat_abs (to_z w32 (of_z w32 machine)))
  lead-casts = rw lead-back (tt, record { fits = omega (arith, lead-most due h) })

  pub lead-read : nat_abs (to_z w32 (of_z w32 machine)) ≡ lead last_due due
  lead-read = rw lead-back refl

-- the bound of a reach, as the machine computes it
module _ (n : ℕ) (h : n ≤ 640000000) where
  -- it fits with any number of that size; which one is right, `bound-read` says
  pub sum_fits : (z : ℤ) → mag z ≤ 1000001 → SFits w32 (to_z w32 n +ℤ z)
  sum_fits z l = rw (to_z_pos w32 n (omega arith)) (record { sfits = omega (arith, mag_sum (pos n) z) })

  less-is : to_z w32 n -ℤ pos 1000001 ≡ bound_at last_due n
  unfolding end_at
  less-is = ap (λ (z : ℤ). z -ℤ pos 1000001) (to_z_pos w32 n (omega arith))

  pub bound-read : to_z w32 (of_z w32 (to_z w32 n -ℤ pos 1000001)) ≡ bound_at last_due n
  bound-read = rw less-is (machine-back (bound_at last_due n) (bound-small n h))
