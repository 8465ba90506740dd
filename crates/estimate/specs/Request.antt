-- Document 02, §9, sentence by sentence, of every estimate that is not refused: any order with times between has its least lateness
-- between the two, each whole number between is reached, what is produced is the first met on the path, and outside the two there is none.
use Rattle.std.specs.Prelude.{ℕ, suc, ◌+◌, ◌≤◌, ◌<◌, Bool, false, ◌↔◌, ◌⊎◌, ℤ, ◌≤ℤ◌, ◌<ℤ◌}
use Rattle.std.proofs.Math.Path.{◌≡◌, refl, sym, ap}
use Rattle.std.proofs.Common.{◌∙◌, subst, subst₂, inl, inr}
use Rattle.std.proofs.Math.Bool.{true}
use mathlib.Core.List.{List}
use native.Mathlib.Omega.{arith}
use Rattle.std.proofs.Math.Decide.{dec_lt}
use Rattle.std.specs.Int.Signed.{clash_ℤ, <ℤ_irrefl}
use Rattle.order.specs.Lead.{bound_at, last_due}
use Rattle.order.proofs.LeadLaws.{bound-le, bound-lt, bound-more}
use Rattle.order.specs.Refusals.{limits, accepted, judge}
use Rattle.order.specs.Whole.{le-or-lt, le-gap, ≤ℤ-trans}
use Rattle.plan.specs.IsLeast.{IsLeast}
use Rattle.feasible.specs.Least.{is-least}
use Rattle.profile.specs.Least.{least_reach, least_lateness}
use Rattle.profile.proofs.RiseLaws.{reach-rises, reach-rises-by}
use Rattle.profile.specs.Search.{nothing, found}
use Rattle.profile.proofs.SearchLaws.{Searched, stops_at, stops_nowhere, searched}
use Rattle.profile.specs.Standing.{same_z}
use Rattle.profile.proofs.StandingLaws.{z-tells}
use Rattle.estimate.specs.Estimate.{
  Estimate,
  jobs_with,
  order_with,
  Between,
  lows,
  highs,
  least_at_lows,
  least_at_highs,
  next_times,
  path_at,
  path_length,
  first_met,
  estimate_rows,
}
use Rattle.estimate.specs.AcceptLaws.{uncrossed, between-accepted}
use Rattle.estimate.specs.PathLaws.{path-ends, path-between, lows-shortest, highs-longest, next-longer, next-minutes}
use Rattle.estimate.specs.Steps.{Steps, steps-rise, reached-met, each-met}

-- the least lateness after k minutes of the path
abbrev pub least_along : Estimate → ℕ → ℤ
least_along e k = least_lateness (order_with e (path_at e k))

-- "the first met": on the path, with this least lateness, and none before it has it
pub record FirstOnPath (e : Estimate) (number : ℤ) (times : List ℕ) : Type 0 where
  pub minutes : ℕ
  pub on-path : minutes ≤ path_length e
  pub times-are : times ≡ path_at e minutes
  pub least-is : least_lateness (order_with e times) ≡ number
  pub none_before : (i : ℕ) → i < minutes → ¬ (least_along e i ≡ number)

-- a test as a fact
apart : (a b : ℤ) → same_z a b ≡ false → ¬ (a ≡ b)
apart a b f e = let z : ◌≡◌ {A = ℕ} 0 1 = cc (f, (z-tells a b).1 e) in omega arith

-- what is found is exactly the first met, whatever the estimate
module _ (e : Estimate) (number : ℤ) where
  abbrev test : List ℕ → Bool
  test times = same_z (least_lateness (order_with e times)) number

  found-is-first : (times : List ℕ) → first_met e number ≡ found times → FirstOnPath e number times
  unfolding first_met
  found-is-first times f = go (searched test (suc (path_length e)) (path_at e))
    where
      go : Searched test (suc (path_length e)) (path_at e) → FirstOnPath e number times
      go (stops_at k l s t before) =
          let same : times ≡ path_at e k = cc (f, s) in
          record {
            minutes = k;
            on-path = omega arith;
            times-are = same;
            least-is = ap (λ (ts : List ℕ). least_lateness (order_with e ts)) same ∙ (z-tells _ number).0 t;
            none_before = λ i b. apart _ number (before i b);
          }
      go (stops_nowhere s none) = let z : ◌≡◌ {A = ℕ} 0 1 = cc (f, s) in absurd (omega arith)

  first-is-found : (times : List ℕ) → FirstOnPath e number times → first_met e number ≡ found times
  unfolding first_met
  first-is-found times h = go (searched test (suc (path_length e)) (path_at e))
    where
      passes : test (path_at e h.minutes) ≡ true
      passes =
          (z-tells _ number).1 (ap (λ (ts : List ℕ). least_lateness (order_with e ts)) (sym h.times-are) ∙ h.least-is)

      clash : (k : ℕ) → k < suc (path_length e) → test (path_at e k) ≡ true → ((i : ℕ) → i < k → test (path_at e i) ≡ false) → k ≡ h.minutes
      clash k l t before =
          elim (dec_lt k h.minutes) [
            | yes b ↦ absurd (h.none_before k b ((z-tells _ number).0 t))
            | no b ↦ elim (dec_lt h.minutes k) [
              | yes c ↦ let z : ◌≡◌ {A = ℕ} 0 1 = cc (before h.minutes c, passes) in absurd (omega arith)
              | no c ↦ omega arith
            ]
          ]

      go : Searched test (suc (path_length e)) (path_at e) → first_met e number ≡ found times
      go (stops_at k l s t before) = s ∙ ap found (ap (path_at e) (clash k l t before) ∙ sym h.times-are)
      go (stops_nowhere s none) =
          let z : ◌≡◌ {A = ℕ} 0 1 = cc (none h.minutes (omega (arith, h.on-path)), passes) in absurd (omega arith)

  pub first-met : (times : List ℕ) → (first_met e number ≡ found times) ↔ FirstOnPath e number times
  first-met times = (found-is-first times, first-is-found times)

  none-along : ((k : ℕ) → k ≤ path_length e → ¬ (least_along e k ≡ number)) → first_met e number ≡ nothing
  unfolding first_met
  none-along h = go (searched test (suc (path_length e)) (path_at e))
    where
      go : Searched test (suc (path_length e)) (path_at e) → first_met e number ≡ nothing
      go (stops_at k l s t before) = absurd (h k (omega arith) ((z-tells _ number).0 t))
      go (stops_nowhere s none) = s

module _ (e : Estimate) (ok : judge (estimate_rows limits e) ≡ accepted) where
  -- the least reach after k minutes goes up by one or stays with each
  abbrev reach_along : ℕ → ℕ
  reach_along k = least_reach last_due (order_with e (path_at e k))

  along-steps : Steps reach_along
  unfolding path_at
  along-steps k =
      let b = path-between e (uncrossed e ok) k in
      let l = next-longer e.jobs (path_at e k) b in
      let d = next-minutes e.jobs (path_at e k) b in (
        reach-rises last_due e.memories (jobs_with e.jobs (path_at e k)) (jobs_with e.jobs (next_times e.jobs (path_at e k))) l,
        omega (
          arith,
          d.1,
          reach-rises-by last_due e.memories (jobs_with e.jobs (path_at e k))
              (jobs_with e.jobs (next_times e.jobs (path_at e k))) l d.0 d.2,
        ),
      )

  along-is : (k : ℕ) → least_along e k ≡ bound_at last_due (reach_along k)
  unfolding least_lateness
  along-is k = refl

  -- the path goes from all lows to all highs
  pub along-first : least_along e 0 ≡ least_at_lows e
  unfolding path_at
  along-first = refl

  pub along-last : least_along e (path_length e) ≡ least_at_highs e
  along-last = ap (λ (ts : List ℕ). least_lateness (order_with e ts)) (path-ends e (uncrossed e ok))

  -- it never falls on the way
  pub along-rises : (i k : ℕ) → i ≤ k → least_along e i ≤ℤ least_along e k
  along-rises i k l =
      subst₂ (λ (x y : ℤ). x ≤ℤ y) (sym (along-is i)) (sym (along-is k))
      ((bound-le last_due (reach_along i) (reach_along k)).1 (steps-rise reach_along along-steps i k l))

  -- "any order with times between has its least lateness between these two"
  pub least-between : (times : List ℕ) → Between e.jobs times →
      (least_at_lows e ≤ℤ least_lateness (order_with e times)) × (least_lateness (order_with e times) ≤ℤ least_at_highs e)
  unfolding least_lateness
  least-between times b = (
    (bound-le last_due _ _).1 (reach-rises last_due e.memories (jobs_with e.jobs (lows e)) (jobs_with e.jobs times)
        (lows-shortest e.jobs times b)),
    (bound-le last_due _ _).1 (reach-rises last_due e.memories (jobs_with e.jobs times) (jobs_with e.jobs (highs e))
        (highs-longest e.jobs times b)),
  )

  -- the same in demand 3's words: whatever number is the least that some right plan meets lies between the two
  pub is-least-between : (times : List ℕ) → Between e.jobs times → (least : ℤ) → IsLeast (order_with e times) least →
      (least_at_lows e ≤ℤ least) × (least ≤ℤ least_at_highs e)
  is-least-between times b least h =
      let own = is-least (order_with e times) (between-accepted e ok times b) in
      let t = least-between times b in (
        ≤ℤ-trans _ _ _ t.0 (own.no_other least h.some-plan.0 h.some-plan.1),
        ≤ℤ-trans _ _ _ (h.no_other _ own.some-plan.0 own.some-plan.1) t.1,
      )

  -- a number that is not below the two is the bound of a reach
  reach-for : (number : ℤ) → least_at_lows e ≤ℤ number → (y : ℕ) × (reach_along 0 ≤ y) × (number ≡ bound_at last_due y)
  unfolding least_lateness path_at
  reach-for number low =
      let g = le-gap (least_at_lows e) number low in
      (reach_along 0 + g.0, omega arith, sym g.1 ∙ bound-more last_due (reach_along 0) g.0)

  -- where a number is first reached on the path, it is first met
  pub met-where-reached : (number : ℤ) (k : ℕ) → k ≤ path_length e → least_at_lows e ≤ℤ number → number ≤ℤ least_along e k →
      ((i : ℕ) → i < k → least_along e i <ℤ number) → first_met e number ≡ found (path_at e k)
  met-where-reached number k l low at before =
      let y = reach-for number low in
      let same : reach_along k ≡ y.0
      = reached-met reach_along along-steps y.0 k y.1
      ((bound-le last_due y.0 (reach_along k)).0 (subst₂ (λ (a b : ℤ). a ≤ℤ b) y.2 (along-is k) at))
      (λ i b. (bound-lt last_due (reach_along i) y.0).0 (subst₂ (λ (a b : ℤ). a <ℤ b) (along-is i) y.2 (before i b))) in
      first-is-found e number (path_at e k) (record {
        minutes = k;
        on-path = l;
        times-are = refl;
        least-is = along-is k ∙ (ap (bound_at last_due) same ∙ sym y.2);
        none_before = λ i b eq. <ℤ_irrefl (subst (λ (z : ℤ). z <ℤ number) eq (before i b));
      })

  -- what is met lies between
  pub met-between : (number : ℤ) (times : List ℕ) → first_met e number ≡ found times → Between e.jobs times
  met-between number times h =
      let f = found-is-first e number times h in
      subst (Between e.jobs) (sym f.times-are) (path-between e (uncrossed e ok) f.minutes)

  -- "each whole number between them is reached by some such order": by the one that is produced
  pub every-number : (number : ℤ) → least_at_lows e ≤ℤ number → number ≤ℤ least_at_highs e →
      (times : List ℕ) × (first_met e number ≡ found times) × Between e.jobs times × (least_lateness (order_with e times) ≡ number)
  every-number number low high =
      let y = reach-for number low in
      let n = path_length e in
      let top : y.0 ≤ reach_along n
      = (bound-le last_due y.0 (reach_along n)).0 (subst₂ (λ (a b : ℤ). a ≤ℤ b) y.2 (sym along-last ∙ along-is n) high) in
      let r = each-met reach_along along-steps y.0 n y.1 top in
      let k = r.0 in
      let at : least_along e k ≡ number = along-is k ∙ (ap (bound_at last_due) r.2 ∙ sym y.2) in (
        path_at e k,
        first-is-found e number (path_at e k) (record {
          minutes = k;
          on-path = r.1;
          times-are = refl;
          least-is = at;
          none_before = λ i b eq. omega (arith, r.3 i b, bound-same (reach_along i) y.0 (sym (along-is i) ∙ (eq ∙ y.2)));
        }),
        path-between e (uncrossed e ok) k,
        at,
      )
    where
      bound-same : (a b : ℕ) → bound_at last_due a ≡ bound_at last_due b → b ≤ a
      bound-same a b e = (bound-le last_due b a).0 (subst (λ (z : ℤ). bound_at last_due b ≤ℤ z) (sym e) ((bound-le last_due b b).1 (omega arith)))

  -- "A number outside the two yields no order"
  pub below_none : (number : ℤ) → number <ℤ least_at_lows e → first_met e number ≡ nothing
  below_none number h =
      none-along e number (λ k l eq. clash_ℤ h (subst (λ (z : ℤ). least_at_lows e ≤ℤ z) eq
      (least-between (path_at e k) (path-between e (uncrossed e ok) k)).0))

  pub above-none : (number : ℤ) → least_at_highs e <ℤ number → first_met e number ≡ nothing
  above-none number h =
      none-along e number (λ k l eq. clash_ℤ h (subst (λ (z : ℤ). z ≤ℤ least_at_highs e) eq
      (least-between (path_at e k) (path-between e (uncrossed e ok) k)).1))

  pub met-none : (number : ℤ) → (first_met e number ≡ nothing) ↔ ((number <ℤ least_at_lows e) ⊎ (least_at_highs e <ℤ number))
  met-none number = (
    λ n. go n (le-or-lt (least_at_lows e) number) (le-or-lt number (least_at_highs e)),
    λ h. elim h [ inl l ↦ below_none number l | inr l ↦ above-none number l ],
  )
    where
      go : first_met e number ≡ nothing → (least_at_lows e ≤ℤ number) ⊎ (number <ℤ least_at_lows e) →
          (number ≤ℤ least_at_highs e) ⊎ (least_at_highs e <ℤ number) → (number <ℤ least_at_lows e) ⊎ (least_at_highs e <ℤ number)
      go n (inr l) h = inl l
      go n (inl l) (inr h) = inr h
      go n (inl l) (inl h) = let z : ◌≡◌ {A = ℕ} 0 1 = cc (n, (every-number number l h).1) in absurd (omega arith)

  -- and then no order with times between has it, whether on the path or not
  pub none_at_all : (number : ℤ) → first_met e number ≡ nothing → (times : List ℕ) → Between e.jobs times →
      (least : ℤ) → IsLeast (order_with e times) least → ¬ (least ≡ number)
  none_at_all number n times b least h eq =
      let t = is-least-between times b least h in
      outside ((met-none number).0 n) (subst (λ (z : ℤ). least_at_lows e ≤ℤ z) eq t.0) (subst (λ (z : ℤ). z ≤ℤ least_at_highs e) eq t.1)
    where
      outside : (number <ℤ least_at_lows e) ⊎ (least_at_highs e <ℤ number) → least_at_lows e ≤ℤ number → number ≤ℤ least_at_highs e → ⊥
      outside (inl l) low high = clash_ℤ l low
      outside (inr l) low high = clash_ℤ l high
