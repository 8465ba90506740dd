-- Laws of leads and reaches: a due time that `top` does not precede is told by its lead, later due times have smaller leads, an end is
-- the reach less the lead.
use Rattle.std.specs.Prelude.{ℕ, suc, ◌+◌, ◌-◌, ◌≤◌, ◌<◌, ◌≡◌, true, ◌↔◌, leb, ltb, ℤ, pos, negsuc, neg_ℤ, ◌+ℤ◌, ◌-ℤ◌, ◌≤ℤ◌, ◌<ℤ◌}
use Rattle.std.proofs.Common.{sym, ap, ◌∙◌, subst, inl, inr, arith, leb-true}
use Rattle.std.proofs.Math.IntN.{+ℤ_assoc, +ℤ_idl, +ℤ_invr, -ℤ-+ℤ_cancel}
use Rattle.std.specs.Int.Signed.{mag, le_z, lt_z}
use Rattle.sums.specs.Members.{All-map}
use Rattle.order.specs.Order.{Job, Order, end_at}
use Rattle.order.specs.Deadline.{cut}
use Rattle.order.specs.Lead.{lead, reach_at, due_at, bound_at, last_due, most_reach, Workable}
use Rattle.order.specs.Refusals.{due_in_range, bound_in_range}
use Rattle.order.proofs.RefusalLaws.{both_true, le_z-true, Acceptable}
use Rattle.order.proofs.EndLaws.{end_later, end-from, mag_less}
use Rattle.order.specs.Whole.{
  lt_z-is-ltb,
  true-lt_z,
  le-or-lt,
  cut-minus,
  cut-less,
  le-cut,
  lt-cut,
  pos-le,
  pos-lt,
  le-gap,
  le-add,
  add-swap,
  add-le,
  add-le-of,
  add-lt,
  add-lt-of,
  add-cancel,
}

-- a number taken away from itself and more leaves the rest
rest_of : (z : ℤ) (n : ℕ) → (z +ℤ pos n) -ℤ z ≡ pos n
rest_of z n = add-swap z (pos n) (neg_ℤ z) ∙ (ap (λ (x : ℤ). x +ℤ pos n) (+ℤ_invr z) ∙ +ℤ_idl (pos n))

module _ (top : ℤ) where
  -- a lead is what a due time lacks to `top`
  pub lead_is : (due : ℤ) (n : ℕ) → due +ℤ pos n ≡ top → lead top due ≡ n
  lead_is due n e = ap (λ (z : ℤ). cut (z -ℤ due)) (sym e) ∙ ap cut (rest_of due n)

  pub due-lead : (due : ℤ) → due ≤ℤ top → due +ℤ pos (lead top due) ≡ top
  due-lead due h = let g = le-gap due top h in ap (λ (n : ℕ). due +ℤ pos n) (lead_is due g.0 g.1) ∙ g.1

  -- nothing is cut off of it
  pub lead-whole : (due : ℤ) → due ≤ℤ top → top -ℤ due ≡ pos (lead top due)
  lead-whole due h =
      let g = le-gap due top h in
      ap (λ (z : ℤ). z -ℤ due) (sym g.1) ∙ (rest_of due g.0 ∙ ap pos (sym (lead_is due g.0 g.1)))

  -- a lead comes back from its due time, and a due time from its lead
  pub lead-due : (g : ℕ) → lead top (due_at top g) ≡ g
  lead-due g = lead_is (due_at top g) g (-ℤ-+ℤ_cancel top (pos g))

  pub due-back : (due : ℤ) → due ≤ℤ top → due_at top (lead top due) ≡ due
  due-back due h =
      add-cancel (due_at top (lead top due)) due (pos (lead top due))
      (-ℤ-+ℤ_cancel top (pos (lead top due)) ∙ sym (due-lead due h))

  pub due-by-top : (g : ℕ) → due_at top g ≤ℤ top
  due-by-top g = subst (λ (z : ℤ). due_at top g ≤ℤ z) (-ℤ-+ℤ_cancel top (pos g)) (le-add (due_at top g) g)

  -- the smaller lead has the later due time
  pub due-falls : (a b : ℕ) → a < b → lt_z (due_at top b) (due_at top a) ≡ true
  due-falls a b h =
      true-lt_z (due_at top b) (due_at top a) (elim (le-or-lt (due_at top a) (due_at top b)) [
        | inr l ↦ l
        | inl l ↦ absurd (omega (arith, clash (le-gap (due_at top a) (due_at top b) l).0 (le-gap (due_at top a) (due_at top b) l).1))
      ])
    where
      clash : (n : ℕ) → due_at top a +ℤ pos n ≡ due_at top b → a ≡ n + b
      clash n e =
          sym (lead-due a)
          ∙ lead_is (due_at top a) (n + b)
          (sym (+ℤ_assoc (due_at top a) (pos n) (pos b)) ∙ (ap (λ (z : ℤ). z +ℤ pos b) e ∙ -ℤ-+ℤ_cancel top (pos b)))

  module _ (bound due : ℤ) (h : due ≤ℤ top) where
    -- an end and its lead come to the end at `top`
    pub end-lead : end_at bound due +ℤ pos (lead top due) ≡ end_at bound top
    end-lead = sym (end_later bound due (pos (lead top due))) ∙ ap (end_at bound) (due-lead due h)

    -- an end cut off at 0 is the reach less the lead
    pub deadline-lead : cut (end_at bound due) ≡ reach_at top bound - lead top due
    deadline-lead =
        cut-less (end_at bound due) (lead top due) ∙ ap (λ (z : ℤ). cut z - lead top due) end-lead

    -- where the reach is not below the lead, nothing is cut off
    pub end-reach : (reach : ℕ) → end_at bound top ≡ pos reach → lead top due ≤ reach → end_at bound due ≡ pos (reach - lead top due)
    end-reach reach e l =
        add-cancel (end_at bound due) (pos (reach - lead top due)) (pos (lead top due))
        (end-lead ∙ (e ∙ ap pos (omega arith)))

    -- a time is at most the end exactly if time and lead are at most the reach, and exceeds it exactly if they do
    pub in-time-reach : (time : ℕ) → 1 ≤ time → (pos time ≤ℤ end_at bound due) ↔ (time + lead top due ≤ reach_at top bound)
    in-time-reach time t =
        let c = le-cut (end_at bound top) (time + lead top due) (omega arith) in (
          λ l. c.0 (subst (λ (z : ℤ). pos (time + lead top due) ≤ℤ z) end-lead
              (add-le (pos time) (end_at bound due) (pos (lead top due)) l)),
          λ l. add-le-of (pos time) (end_at bound due) (pos (lead top due))
              (subst (λ (z : ℤ). pos (time + lead top due) ≤ℤ z) (sym end-lead) (c.1 l)),
        )

    pub late-reach : (time : ℕ) → 1 ≤ time → lt_z (end_at bound due) (pos time) ≡ ltb (reach_at top bound) (time + lead top due)
    late-reach time t =
        lt_z-is-ltb (end_at bound due) (pos time) (reach_at top bound) (time + lead top due)
        (let c = lt-cut (end_at bound top) (time + lead top due) (omega arith) in (
          λ l. c.0 (subst (λ (z : ℤ). z <ℤ pos (time + lead top due)) end-lead
              (add-lt (end_at bound due) (pos time) (pos (lead top due)) l)),
          λ l. add-lt-of (end_at bound due) (pos time) (pos (lead top due))
              (subst (λ (z : ℤ). z <ℤ pos (time + lead top due)) (sym end-lead) (c.1 l)),
        ))

  -- the end, cut off at 0, of the due time of a lead
  pub deadline-of-lead : (bound : ℤ) (g : ℕ) → cut (end_at bound (due_at top g)) ≡ reach_at top bound - g
  deadline-of-lead bound g =
      deadline-lead bound (due_at top g) (due-by-top g) ∙ ap (λ (x : ℕ). reach_at top bound - x) (lead-due g)

  -- a bound is below that of a reach exactly if its own reach is below it
  pub below-reach : (bound : ℤ) (reach : ℕ) → 1 ≤ reach → (bound <ℤ bound_at top reach) ↔ (reach_at top bound < reach)
  below-reach bound reach some =
      let c = lt-cut (end_at bound top) reach some in
      let e = -ℤ-+ℤ_cancel (pos reach) (end_at (pos 0) top) in (
        λ l. c.0 (subst (λ (z : ℤ). z <ℤ pos reach) (sym (end-from bound top))
            (subst (λ (z : ℤ). (bound +ℤ end_at (pos 0) top) <ℤ z) e
            (add-lt bound (bound_at top reach) (end_at (pos 0) top) l))),
        λ l. add-lt-of bound (bound_at top reach) (end_at (pos 0) top)
            (subst (λ (z : ℤ). (bound +ℤ end_at (pos 0) top) <ℤ z) (sym e)
            (subst (λ (z : ℤ). z <ℤ pos reach) (end-from bound top) (c.1 l))),
      )

  -- bounds are ordered as their reaches are, and a larger reach has the bound so much larger
  pub bound-le : (a b : ℕ) → (bound_at top a ≤ℤ bound_at top b) ↔ (a ≤ b)
  bound-le a b =
      let out = neg_ℤ (end_at (pos 0) top) in (
        λ l. (pos-le a b).0 (add-le-of (pos a) (pos b) out l),
        λ l. add-le (pos a) (pos b) out ((pos-le a b).1 l),
      )

  pub bound-lt : (a b : ℕ) → (bound_at top a <ℤ bound_at top b) ↔ (a < b)
  bound-lt a b =
      let out = neg_ℤ (end_at (pos 0) top) in (
        λ l. (pos-lt a b).0 (add-lt-of (pos a) (pos b) out l),
        λ l. add-lt (pos a) (pos b) out ((pos-lt a b).1 l),
      )

  pub bound-more : (a n : ℕ) → bound_at top a +ℤ pos n ≡ bound_at top (a + n)
  bound-more a n = add-swap (pos a) (neg_ℤ (end_at (pos 0) top)) (pos n)

-- Numbers in range ---------------------------------------------------------------------------------------------------------

pub due-by-last : (due : ℤ) → due_in_range due ≡ true → due ≤ℤ last_due
due-by-last due h = le_z-true due last_due (both_true (le_z (negsuc 999999) due) (le_z due last_due) h).1

pub lead-most : (due : ℤ) → due_in_range due ≡ true → lead last_due due ≤ 2000000
lead-most (pos n) h = omega (arith, cut-minus 1000000 n)
lead-most (negsuc n) h = omega (arith, leb-true n 999999 (both_true (leb n 999999) true h).0)

-- the due time of a small lead, and the bound of a small reach, fit a machine number
pub due-small : (g : ℕ) → g ≤ 2000000 → mag (due_at last_due g) < 2147483648
due-small g h = mag_less 1000000 g 2147483648 (omega arith)

pub bound-small : (n : ℕ) → n ≤ 640000000 → mag (bound_at last_due n) < 2147483648
unfolding end_at
bound-small n h = mag_less n 1000001 2147483648 (omega arith)

pub reach-most : (bound : ℤ) → bound_in_range bound ≡ true → reach_at last_due bound ≤ most_reach
unfolding end_at
reach-most (pos n) h = omega (arith, leb-true n 10000000 (both_true true (leb n 10000000) h).1)
reach-most (negsuc n) h = rw (end-from (negsuc n) last_due) (omega (arith, cut-minus 1000001 (suc n)))

-- an accepted order is one that the mathematics takes
pub workable : (o : Order) → Acceptable o → Workable last_due o
workable o a =
    record {
      some-job = a.some-job;
      times = All-map _ _ o.jobs (λ (job : Job) h. h.0) a.times;
      dues = All-map _ _ o.jobs (λ (job : Job) h. h.1) a.dues;
      fit = a.fit;
    }
