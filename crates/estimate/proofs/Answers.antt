-- How both entry points put their answers together: the verdict, the least lateness after k minutes as the machine reads it back, the
-- order met.
use Prim.Native.Nat.{ℕ, ◌≤◌, ◌<◌}
use mathlib.Core.Path.{◌≡◌, refl, sym, ap, ◌∙◌, subst, subst₂}
use mathlib.Core.Bool.{true, false}
use lib.IntN.{ℤ}
use lib.Signed.{lt_z, ◌≤ℤ◌, ◌<ℤ◌}
use mir.Val.{to_z, of_z}
use mir.Syntax.{w32}
use Rattle.order.specs.Refusals.{limits, accepted, judge, answer, answer_by}
use Rattle.order.specs.Table.{order_of, refusal_told, Acceptance, acceptance_told}
use Rattle.order.proofs.TableLaws.{same-refusal}
use Rattle.order.specs.Whole.{lt_z-true, lt_z-false}
use Rattle.order.specs.declared.Refusal.{Refusal}
use Rattle.profile.proofs.LeastRange.{least-in-range}
use Rattle.profile.specs.LeastRead.{read-least}
use Rattle.profile.specs.Search.{nothing, found}
use Rattle.estimate.specs.AcceptLaws.{uncrossed, between-accepted}
use Rattle.estimate.specs.Estimate.{
  Estimate,
  order_with,
  least_at_lows,
  least_at_highs,
  path_at,
  path_length,
  first_met,
  order_met,
  estimate_rows,
}
use Rattle.estimate.specs.PathLaws.{path-between}
use Rattle.estimate.specs.Request.{least_along, along-first, along-last, below_none, above-none, met-where-reached}
use Rattle.estimate.specs.StructLaws.{order_is}
use Rattle.estimate.specs.Told.{estimate_of, leasts_told, met_told, with_times, handed_out}
use Rattle.estimate.specs.declared.Estimate.{Estimate as EstimateTable}
use Rattle.std.specs.Prelude.{Option, Some, None, Result, Ok, Err, IfOk}
use Rattle.order.specs.declared.Order.{Order as OrderTable}

-- the least lateness after k minutes, read back
module _ (e : Estimate) (ok : judge (estimate_rows limits e) ≡ accepted) where
  pub along-read : (k : ℕ) (z : ℤ) → z ≡ least_along e k → to_z w32 (of_z w32 z) ≡ least_along e k
  along-read k z is =
      read-least z (least_along e k) is
      (least-in-range (order_with e (path_at e k)) (between-accepted e ok (path_at e k) (path-between e (uncrossed e ok) k)))

  -- compared with a number, from either side
  module _ (number : ℤ) (k : ℕ) (z : ℤ) (is : z ≡ least_along e k) where
    pub along-below : lt_z (to_z w32 (of_z w32 z)) number ≡ true → least_along e k <ℤ number
    along-below h = subst (λ (a : ℤ). a <ℤ number) (along-read k z is) (lt_z-true _ _ h)

    pub along-reached : lt_z (to_z w32 (of_z w32 z)) number ≡ false → number ≤ℤ least_along e k
    along-reached h = subst (λ (a : ℤ). number ≤ℤ a) (along-read k z is) (lt_z-false _ _ h)

    pub below-along : lt_z number (to_z w32 (of_z w32 z)) ≡ true → number <ℤ least_along e k
    below-along h = subst (λ (a : ℤ). number <ℤ a) (along-read k z is) (lt_z-true _ _ h)

    pub from-along : lt_z number (to_z w32 (of_z w32 z)) ≡ false → least_along e k ≤ℤ number
    from-along h = subst (λ (a : ℤ). a ≤ℤ number) (along-read k z is) (lt_z-false _ _ h)

module _ (t : EstimateTable) (a : Acceptance) (e : acceptance_told a ≡ judge (estimate_rows limits (estimate_of t))) where
  pub estimate-good : a ≡ Ok tt → judge (estimate_rows limits (estimate_of t)) ≡ accepted
  estimate-good is = sym e ∙ ap acceptance_told is

  refused_as : (why : Refusal) → a ≡ Err why → judge (estimate_rows limits (estimate_of t)) ≡ refusal_told why
  refused_as why is = sym e ∙ ap acceptance_told is

  pub leasts-refused : (why : Refusal) → a ≡ Err why → leasts_told (Err why)
      ≡ answer_by (judge (estimate_rows limits (estimate_of t))) (least_at_lows (estimate_of t), least_at_highs (estimate_of t))
  leasts-refused why is = same-refusal _ why _ _ (refused_as why is)

  pub leasts-told : a ≡ Ok tt → (low high : ℤ) (n : ℕ) → low ≡ least_along (estimate_of t) 0 → n ≡ path_length (estimate_of t) →
      high ≡ least_along (estimate_of t) n → leasts_told (Ok (record { low = to_z w32 (of_z w32 low); high = to_z w32 (of_z w32 high) }))
      ≡ answer_by (judge (estimate_rows limits (estimate_of t))) (least_at_lows (estimate_of t), least_at_highs (estimate_of t))
  leasts-told is low high n el en eh =
      let ok = estimate-good is in
      let l = along-read (estimate_of t) ok 0 low el ∙ along-first (estimate_of t) ok in
      let h = along-read (estimate_of t) ok n high eh
      ∙ (ap (least_along (estimate_of t)) en ∙ along-last (estimate_of t) ok) in
      rw (ok, l, h)

  -- what is handed out, by the verdict and what is met, where the number is compared as the machine reads it
  module _ (number read : ℤ) (back : read ≡ number) where
    abbrev pub Handed : Result (Option OrderTable) Refusal → Type 0
    Handed r =
        (met_told r ≡ answer_by (judge (estimate_rows limits (estimate_of t))) (order_met (estimate_of t) number))
        × IfOk r (λ met. met ≡ handed_out t.order (first_met (estimate_of t) number))

    pub met-refused : (why : Refusal) → a ≡ Err why → Handed (Err why)
    met-refused why is = (same-refusal _ why _ _ (refused_as why is), tt)

    module _ (is : a ≡ Ok tt) where
      met-nowhere : first_met (estimate_of t) number ≡ nothing → Handed (Ok None)
      met-nowhere none = rw (estimate-good is, none) (refl, refl)

      pub met-below : read <ℤ least_along (estimate_of t) 0 → Handed (Ok None)
      met-below h =
          let ok = estimate-good is in
          met-nowhere (below_none (estimate_of t) ok number
          (subst₂ (λ (x z : ℤ). x <ℤ z) back (along-first (estimate_of t) ok) h))

      pub met-above : (n : ℕ) → n ≡ path_length (estimate_of t) → least_along (estimate_of t) n <ℤ read → Handed (Ok None)
      met-above n en h =
          let ok = estimate-good is in
          met-nowhere (above-none (estimate_of t) ok number
          (subst₂ (λ (z x : ℤ). z <ℤ x) (ap (least_along (estimate_of t)) en ∙ along-last (estimate_of t) ok) back h))

      pub met_at : (n k : ℕ) → n ≡ path_length (estimate_of t) → k ≤ n → least_along (estimate_of t) 0 ≤ℤ read →
          read ≤ℤ least_along (estimate_of t) k → ((i : ℕ) → i < k → least_along (estimate_of t) i <ℤ read) →
          (order : OrderTable) → order ≡ with_times t.order (path_at (estimate_of t) k) → Handed (Ok (Some order))
      met_at n k en l low high before order eo =
          let ok = estimate-good is in
          let f = met-where-reached (estimate_of t) ok number k (subst (λ (x : ℕ). k ≤ x) en l)
          (subst₂ (λ (z x : ℤ). z ≤ℤ x) (along-first (estimate_of t) ok) back low)
          (subst (λ (x : ℤ). x ≤ℤ least_along (estimate_of t) k) back high)
          (λ i b. subst (λ (x : ℤ). least_along (estimate_of t) i <ℤ x) back (before i b)) in
          rw (ok, f) (ap (λ o. answer (found o)) (ap order_of eo ∙ order_is t ok k), ap Some eo)
