-- The late job with the smallest number, wherever it lies, is the first late one in input order.
use Prim.Native.Nat.{ℕ, suc, pred, ◌≤◌, ◌<◌}
use mathlib.Core.Path.{◌≡◌, refl, ap, ◌∙◌}
use mathlib.Core.Bool.{Bool, true, false}
use native.Mathlib.Omega.{arith}
use Rattle.std.specs.Prelude.{Option, Some, None}
use Rattle.std.specs.Option.{IfNone, IfSome, option_map}
use Rattle.std.specs.Iterator.Runs.{Run, AllItems}
use Rattle.sums.specs.Lists.{tabulate}
use Rattle.order.specs.Refusals.{clear, holds, first}
use Rattle.order.proofs.RefusalLaws.{first-tabulate, none-tabulate}
use Rattle.table.specs.Held.{beside, by_number}
use Rattle.table.specs.HeldLaws.{value-at}
use Rattle.table.specs.Tabled.{Fine}
use Rattle.table.specs.declared.Table.{Table}
use Rattle.reason.specs.Asked.{late, late_at, FirstLate}

module _ (t : Table) (reach : ℕ) where
  abbrev number : ℕ → ℕ
  number = beside t.by_need

  -- found among the items that a run of calls gives, of which each late job is one
  pub first-late : {S : Type 0} {steps : S → Option ℕ → S → Type 0} (p : Run steps) (place : Option ℕ) → IfNone place (p.len ≡ 0) →
      IfSome place (λ k. (k < t.n) × (late_at t reach k ≡ true)) → IfSome place (λ k. AllItems p (λ j. number k ≤ number j)) →
      ((j : ℕ) → j < t.n → late_at t reach j ≡ true → (i : ℕ) × (i < p.len) × (option_map (λ y. y) (p.at i) ≡ Some j)) →
      FirstLate t reach place
  first-late p None empty is least among = λ j l h. omega (arith, empty, (among j l h).1)
  first-late p (Some k) empty is least among = (is.0, is.1, λ j l h. let a = among j l h in at j (p.at a.0) a.2 (least a.0))
    where
      at : (j : ℕ) (item : Option ℕ) → option_map (λ y. y) item ≡ Some j → IfSome item (λ j. number k ≤ number j) →
          number k ≤ number j
      at j None e h = let z : ◌≡◌ {A = ℕ} 0 1 = cc in absurd (omega arith)
      at j (Some x) e h = let same : x ≡ j = cc in rw (← same) h

  module _ (F : Fine t) where
    late_is : (k : ℕ) → k < t.n → late (by_number t) reach (pred (number k)) ≡ late_at t reach k
    late_is k l =
        let e : suc (pred (number k)) ≡ number k = omega (arith, F.numbers.are k l) in
        rw (e, value-at t.by_need t.n F.numbers t.times k l, value-at t.by_need t.n F.numbers t.leads k l)
        refl

    not-true : (b : Bool) → ¬ (b ≡ true) → b ≡ false
    not-true true h = absurd (h refl)
    not-true false h = refl

    -- the job with a number is not late, where no place has a late job with that number
    not-late : (j : ℕ) → j < t.n → ((i : ℕ) → i < t.n → number i ≡ suc j → ¬ (late_at t reach i ≡ true)) →
        late (by_number t) reach j ≡ false
    not-late j l h =
        let r = F.numbers.place (suc j) (omega arith, l) in
        let e : j ≡ pred (number r.0) = omega (arith, r.2) in
        ap (late (by_number t) reach) e ∙ late_is r.0 r.1 ∙ not-true (late_at t reach r.0) (h r.0 r.1 r.2)

    -- where no place is told, no job is late in input order
    pub none-late : FirstLate t reach None → first (late (by_number t) reach) (tabulate t.n (λ j. j)) ≡ clear
    none-late none = none-tabulate (late (by_number t) reach) t.n (λ j. j) (λ j l. not-late j l (λ i b n. none i b))

    -- the job at the place that is told is the first late one in input order
    pub one-late : (k : ℕ) → FirstLate t reach (Some k) →
        first (late (by_number t) reach) (tabulate t.n (λ j. j)) ≡ holds (number k)
    one-late k h =
        let b = F.numbers.are k h.0 in
        let e : suc (pred (number k)) ≡ number k = omega (arith, b) in
        first-tabulate (late (by_number t) reach) t.n (λ j. j) (pred (number k)) (omega (arith, b))
        (λ i l. not-late i (omega (arith, b)) (λ x y n z. omega (arith, h.2 x y z, n)))
        (late_is k h.0 ∙ h.1)
        ∙ ap holds e
