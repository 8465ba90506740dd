-- A 10 comes from row 10: the order is accepted and the bound in range.
use Rattle.std.specs.Prelude.{ℕ, ◌≡◌, true, false, eqb, ℤ}
use Rattle.std.proofs.Math.Path.{refl, sym}
use Rattle.std.proofs.Common.{◌∙◌, arith}
use mathlib.Core.List.{List, [], ◌∷◌}
use borrow.Author.Tests.{not-false, eqb-false}
use Rattle.sums.specs.Lists.{All}
use Rattle.order.specs.Order.{Order}
use Rattle.order.specs.Refusals.{
  limits,
  Finding,
  clear,
  holds,
  TableRow,
  Verdict,
  accepted,
  refused,
  verdict_of,
  judge,
  order_rows,
  bound_row,
  tight_row,
  Accepted,
  bound_in_range,
}
use Rattle.order.proofs.RefusalLaws.{
  judge-accepted,
  judge-accepted-append,
  judge-refused-append,
  accepted≢refused,
  accepted-first,
  whole-clear,
}
use Rattle.profile.specs.Search.{reason_of}
use Rattle.planner.specs.Rows.{buffer_row, is_found, earlier_rows, plan_rows}

-- a number that no row has is not returned
pub never : (k c : ℕ) (rows : List TableRow) → All (λ (r : TableRow). eqb r.number k ≡ false) rows → judge rows ≡ refused k c → ⊥
unfolding judge
never k c [] h e = accepted≢refused e
never k c (r ∷ rs) h e = go r.finding e (never k c rs h.1)
  where
    go : (f : Finding) → verdict_of r.number f (judge rs) ≡ refused k c → (judge rs ≡ refused k c → ⊥) → ⊥
    go clear e later = later e
    go (holds x) e later = let same : r.number ≡ k = cc in omega (arith, same, eqb-false r.number k h.0)

module _ (o : Order) (bound : ℤ) (numbers : ℕ) (ten : judge (plan_rows o bound numbers) ≡ refused 10 0) where
  -- a 10 comes from row 10
  earlier-accepted : judge (earlier_rows o bound numbers) ≡ accepted
  unfolding plan_rows earlier_rows
  earlier-accepted = decided (judge (earlier_rows o bound numbers)) refl
    where
      decided : (v : Verdict) → judge (earlier_rows o bound numbers) ≡ v → judge (earlier_rows o bound numbers) ≡ accepted
      decided accepted h = h
      decided (refused n c) h =
          let whole = judge-refused-append (earlier_rows o bound numbers) (tight_row (is_found (reason_of o bound)) ∷ []) n c h in
          absurd (never 10 0 (earlier_rows o bound numbers)
          (refl, (refl, (refl, (refl, (refl, (refl, (refl, (refl, (refl, (refl, tt)))))))))) (h ∙ (sym whole ∙ ten)))

  pub ten-accepted : Accepted o
  unfolding earlier_rows
  ten-accepted = accepted-first (order_rows limits o) (bound_row bound ∷ buffer_row o numbers ∷ []) earlier-accepted

  pub ten-in-range : bound_in_range bound ≡ true
  unfolding earlier_rows
  ten-in-range =
      let later : List TableRow = bound_row bound ∷ buffer_row o numbers ∷ [] in
      let passed : judge later ≡ accepted
      = sym (judge-accepted-append (order_rows limits o) later ten-accepted) ∙ earlier-accepted in
      not-false (bound_in_range bound) (whole-clear _ ((judge-accepted later).0 passed).0)
