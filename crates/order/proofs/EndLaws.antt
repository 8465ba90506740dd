-- Laws of ends: an end moves with the due time, so that ends are ordered as the due times are; at a due time and
-- a bound in range it is a small number.
use Rattle.std.specs.Prelude.{ℕ, zero, suc, ◌+◌, ◌-◌, ◌≤◌, ◌<◌, ◌≡◌, Bool, true, false, cond, ◌&&◌, ltb, leb, ℤ, pos, negsuc, ◌+ℤ◌, ◌-ℤ◌, ◌≤ℤ◌, ◌<ℤ◌}
use Rattle.std.proofs.Common.{sym, ap, ◌∙◌, arith, leb-true}
use Rattle.std.proofs.Math.IntN.{+ℤ_assoc, +ℤ_comm, +ℤ_idr}
use Rattle.std.specs.Int.Signed.{mag, le_z}
use Rattle.order.specs.Order.{end_at}
use Rattle.order.specs.Refusals.{due_in_range, bound_in_range}
use Rattle.order.proofs.RefusalLaws.{both_true}
use Rattle.order.specs.Whole.{add-swap, add-le, add-le-of, add-lt, add-cancel}

-- sums of three numbers, the third of them any
sum-later : (due x bound more : ℤ) → due +ℤ x +ℤ bound +ℤ more ≡ due +ℤ bound +ℤ more +ℤ x
sum-later due x bound more = ap (λ (z : ℤ). z +ℤ more) (add-swap due x bound) ∙ add-swap (due +ℤ bound) x more

sum-from : (due bound more : ℤ) → due +ℤ bound +ℤ more ≡ bound +ℤ (due +ℤ pos 0 +ℤ more)
sum-from due bound more =
    ap (λ (z : ℤ). z +ℤ more) (+ℤ_comm due bound)
    ∙ (+ℤ_assoc bound due more ∙ ap (λ (z : ℤ). bound +ℤ (z +ℤ more)) (sym (+ℤ_idr due)))

-- an end moves with the due time
pub end_later : (bound due x : ℤ) → end_at bound (due +ℤ x) ≡ end_at bound due +ℤ x
unfolding end_at
end_later bound due x = sum-later due x bound _

-- it is the bound and the end at bound 0
pub end-from : (bound due : ℤ) → end_at bound due ≡ bound +ℤ end_at (pos 0) due
unfolding end_at
end-from bound due = sum-from due bound _

-- and document 01's end, due time plus bound, at a bound one higher
pub end-one-higher : (bound due : ℤ) → end_at bound due ≡ due +ℤ (bound +ℤ pos 1)
unfolding end_at
end-one-higher bound due = +ℤ_assoc due bound (pos 1)

-- ends are ordered as the due times are
module _ (bound due other : ℤ) where
  pub end-le : due ≤ℤ other → end_at bound due ≤ℤ end_at bound other
  unfolding end_at
  end-le h = add-le (due +ℤ bound) (other +ℤ bound) _ (add-le due other bound h)

  pub end-le-of : end_at bound due ≤ℤ end_at bound other → due ≤ℤ other
  unfolding end_at
  end-le-of h = add-le-of due other bound (add-le-of (due +ℤ bound) (other +ℤ bound) _ h)

  pub end_lt : due <ℤ other → end_at bound due <ℤ end_at bound other
  unfolding end_at
  end_lt h = add-lt (due +ℤ bound) (other +ℤ bound) _ (add-lt due other bound h)

  pub end_cancel : end_at bound due ≡ end_at bound other → due ≡ other
  unfolding end_at
  end_cancel e = add-cancel due other bound (add-cancel (due +ℤ bound) (other +ℤ bound) _ e)

-- a number in a range is small
pub mag-range : (lo hi : ℕ) (z : ℤ) → (le_z (negsuc lo) z && le_z z (pos hi)) ≡ true → mag z ≤ lo + hi
mag-range lo hi (pos n) h = omega (arith, leb-true n hi (both_true true (leb n hi) h).1)
mag-range lo hi (negsuc n) h = omega (arith, leb-true n lo (both_true (leb n lo) true h).0)

mag-sub : (a b : ℕ) (t : Bool) → mag (cond t (negsuc (b - suc a)) (pos (a - b))) ≤ a + (b - 1)
mag-sub a b true = omega arith
mag-sub a b false = omega arith

-- so is a difference of small ones, and a small one with a little more
pub mag_less : (a b most : ℕ) → a + b < most → mag (pos a -ℤ pos b) < most
mag_less a zero most h = omega arith
mag_less a (suc b) most h = omega (arith, mag-sub a (suc b) (ltb a (suc b)))

pub mag-more : (z : ℤ) (n most : ℕ) → mag z + n ≤ most → mag (z +ℤ pos n) ≤ most
mag-more (pos a) n most h = omega arith
mag-more (negsuc a) n most h = omega (arith, mag-sub n (suc a) (ltb n (suc a)))

pub mag_sum : (x y : ℤ) → mag (x +ℤ y) ≤ mag x + mag y + 1
mag_sum (pos a) (pos b) = omega arith
mag_sum (pos a) (negsuc b) = omega (arith, mag-sub a (suc b) (ltb a (suc b)))
mag_sum (negsuc a) (pos b) = omega (arith, mag-sub b (suc a) (ltb b (suc a)))
mag_sum (negsuc a) (negsuc b) = omega arith

module _ (due bound : ℤ) (d : due_in_range due ≡ true) (b : bound_in_range bound ≡ true) where
  pub mag-both : mag (due +ℤ bound) ≤ 21999999
  mag-both = omega (arith, mag_sum due bound, mag-range 999999 1000000 due d, mag-range 9999999 10000000 bound b)

  pub mag-end : mag (end_at bound due) ≤ 22000000
  unfolding end_at
  mag-end = mag-more (due +ℤ bound) _ 22000000 (omega (arith, mag-both))
