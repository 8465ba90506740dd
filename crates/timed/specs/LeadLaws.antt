-- The leads of ends and of minutes before 11,000,001, and the changes of an order by them.
use Rattle.std.specs.Prelude.{ℕ, ◌+◌, ◌-◌, ◌≤◌, ◌≡◌, true, leb, ℤ, negsuc, ◌+ℤ◌, ◌≤ℤ◌}
use Rattle.std.proofs.Math.Path.{sym, ap}
use Rattle.std.proofs.Common.{◌∙◌, subst, arith, leb-true}
use Rattle.std.proofs.Math.IntN.{pos, +ℤ_assoc}
use Rattle.std.specs.Int.Signed.{le_z}
use Rattle.order.specs.Order.{end_at}
use Rattle.order.specs.Deadline.{cut}
use Rattle.order.proofs.EndLaws.{end-from}
use Rattle.order.specs.Lead.{lead, due_at, last_due}
use Rattle.order.proofs.LeadLaws.{lead_is, due-lead, end-lead, due-by-last}
use Rattle.order.specs.Refusals.{due_in_range, bound_in_range}
use Rattle.order.proofs.RefusalLaws.{both_true, le_z-true}
use Rattle.order.specs.Whole.{cut-minus, le-add, add-swap}
use Rattle.timed.specs.Leads.{top, most_bound}

-- a minute's lead, and the minute of a lead, cut off at 0
pub lead-minute : (x : ℕ) → lead top (pos x) ≡ 11000001 - x
lead-minute x = cut-minus 11000001 x

pub minute-of-lead : (l : ℕ) → cut (due_at top l) ≡ 11000001 - l
minute-of-lead l = cut-minus 11000001 l

-- by how much a bound in range lies below the largest
pub bound-by-most : (bound : ℤ) → bound_in_range bound ≡ true → bound ≤ℤ most_bound
bound-by-most bound h = le_z-true bound most_bound (both_true (le_z (negsuc 9999999) bound) (le_z bound most_bound) h).1

pub shift-most : (bound : ℤ) → bound_in_range bound ≡ true → lead most_bound bound ≤ 20000000
shift-most (pos n) h = omega (arith, cut-minus 10000000 n)
shift-most (negsuc n) h = omega (arith, leb-true n 9999999 (both_true (leb n 9999999) true h).0)

module _ (bound due : ℤ) (hb : bound_in_range bound ≡ true) (hd : due_in_range due ≡ true) where
  -- an end and both leads come to the last minute
  end-comes : end_at bound due +ℤ pos (lead last_due due + lead most_bound bound) ≡ top
  unfolding end_at
  end-comes =
      sym (+ℤ_assoc (end_at bound due) (pos (lead last_due due)) (pos (lead most_bound bound)))
      ∙ ap (λ (z : ℤ). z +ℤ pos (lead most_bound bound)) (end-lead last_due bound due (due-by-last due hd))
      ∙ ap (λ (z : ℤ). z +ℤ pos (lead most_bound bound)) (end-from bound last_due)
      ∙ add-swap bound (end_at (pos 0) last_due) (pos (lead most_bound bound))
      ∙ ap (λ (z : ℤ). z +ℤ end_at (pos 0) last_due) (due-lead most_bound bound (bound-by-most bound hb))

  pub lead-end : lead top (end_at bound due) ≡ lead last_due due + lead most_bound bound
  lead-end = lead_is top (end_at bound due) (lead last_due due + lead most_bound bound) end-comes

  pub end-by-top : end_at bound due ≤ℤ top
  end-by-top =
      subst (λ (z : ℤ). end_at bound due ≤ℤ z) end-comes
      (le-add (end_at bound due) (lead last_due due + lead most_bound bound))
