-- The lengths of a job's rows, added up row by row, and whether they are the job's time.
use Prim.Native.Nat.{ℕ, suc, ◌+◌, ◌-◌, ◌*◌, ◌/◌, ◌≤◌, ◌<◌}
use mathlib.Core.Path.{◌≡◌, refl, sym, ap, ◌∙◌, subst}
use mathlib.Core.Bool.{Bool, true, false}
use mathlib.Core.List.{List}
use native.Mathlib.Omega.{arith}
use native.Mathlib.Decide.{ℕ_discrete}
use native.Mathlib.Numerals.{add-one}
use borrow.Author.Tests.{eq-eqb, ne_eqb}
use lib.Dec.{eqb}
use lib.ListN.{length, get_or, set, replicate, get_or-replicate}
use lib.Seq.{get_or-set_same, get_or-set_other}
use Rattle.sums.specs.Sum.{sum}
use Rattle.sums.specs.Lists.{only}
use Rattle.sums.specs.Places.{get_d_tabulate}
use Rattle.sums.specs.Totals.{total-tabulate}
use Rattle.order.specs.Order.{no_job}
use Rattle.order.specs.Table.{job_at, order_of}
use Rattle.order.specs.declared.Order.{Order as OrderTable}
use Rattle.plan.specs.Plan.{Row, lengths_of}
use Rattle.plan.specs.Check.{row_at, rows_of, whole_job}
use Rattle.plan.specs.Inside.{piece_at, InRange, EachLength}
use Rattle.plan.specs.declared.Piece.{Piece}

-- the length of a row where it is of this job
abbrev length_for : ℕ → Row → ℕ
length_for job r = only (eqb r.job job) (r.to - r.from)

module _ (numbers : List ℕ) (job : ℕ) where
  -- of the first n rows
  abbrev pub lengths_below : ℕ → ℕ
  lengths_below n = sum n (λ i. length_for job (row_at numbers i))

  pub none_yet : 0 ≡ lengths_below 0
  unfolding sum
  none_yet = refl

  pub one_more : (i sofar l : ℕ) (p : Piece) → sofar ≡ lengths_below i → p ≡ piece_at numbers i →
      l ≡ only (eqb p.job job) (p.to - p.from) → sofar + l ≡ lengths_below (i + 1)
  unfolding sum
  one_more i sofar l p h e is =
      rw add-one (omega (arith, h, is ∙ ap (λ (p : Piece). only (eqb p.job job) (p.to - p.from)) e))

  pub all-added : (n sofar : ℕ) → n ≡ length numbers / 4 → sofar ≡ lengths_below n → sofar ≡ lengths_of job (rows_of numbers)
  all-added n sofar e h =
      h ∙ ap lengths_below e ∙ sym (total-tabulate (length numbers / 4) (row_at numbers) (length_for job))

-- of each job, job 1 first
module _ (numbers : List ℕ) where
  abbrev pub Totals : List ℕ → ℕ → Type 0
  Totals xs i = (j : ℕ) → j < 48 → (get_or xs j 0 ≡ lengths_below numbers (suc j) i) × (get_or xs j 0 ≤ i * 4294967296)

  -- the row at i as the code reads it
  pub piece-range : (i : ℕ) (p : Piece) → p ≡ piece_at numbers i → InRange (row_at numbers i) →
      (p.from < p.to) × (1 ≤ p.job) × (p.job ≤ 48)
  piece-range i p e h =
      subst (λ (p : Piece). (p.from < p.to) × (1 ≤ p.job) × (p.job ≤ 48)) (sym e) (h.forward, h.a-job.0, h.a-job.1)

  pub totals-none : Totals (replicate 48 0) 0
  totals-none j l =
      let e = get_or-replicate {A = ℕ} 48 j 0 0 l in
      (e ∙ none_yet numbers (suc j), omega (arith, e))

  pub totals-more : (xs : List ℕ) (i q l : ℕ) (p : Piece) → length xs ≡ 48 → Totals xs i → p ≡ piece_at numbers i →
      l ≡ p.to - p.from → l < 4294967296 → p.job ≡ suc q → q < 48 → Totals (set xs q (get_or xs q 0 + l)) (i + 1)
  totals-more xs i q l p long h e is few job inside j b =
      elim (ℕ_discrete j q) [
        | yes f ↦
            let here : get_or (set xs q (get_or xs q 0 + l)) j 0 ≡ get_or xs q 0 + l
            = ap (λ (k : ℕ). get_or (set xs q (get_or xs q 0 + l)) k 0) f ∙ get_or-set_same xs q (get_or xs q 0 + l) 0 (omega arith) in
            let own : l ≡ only (eqb p.job (suc q)) (p.to - p.from)
            = is ∙ sym (ap (λ (t : Bool). only t (p.to - p.from)) (eq-eqb p.job (suc q) job)) in (
              here ∙ one_more numbers (suc q) i (get_or xs q 0) l p (h q inside).0 e own
                  ∙ ap (λ (k : ℕ). lengths_below numbers (suc k) (i + 1)) (sym f),
              omega (arith, here, (h q inside).1),
            )
        | no f ↦
            let here : get_or (set xs q (get_or xs q 0 + l)) j 0 ≡ get_or xs j 0 = get_or-set_other xs q j (get_or xs q 0 + l) 0 f in
            let other : 0 ≡ only (eqb p.job (suc j)) (p.to - p.from)
            = sym (ap (λ (t : Bool). only t (p.to - p.from)) (ne_eqb p.job (suc j) (λ z. omega arith))) in
            let none : get_or xs j 0 ≡ get_or xs j 0 + 0 = omega arith in (
              here ∙ none ∙ one_more numbers (suc j) i (get_or xs j 0) 0 p (h j b).0 e other,
              omega (arith, here, (h j b).1),
            )
      ]

  pub totals-all : (xs : List ℕ) (n : ℕ) → n ≡ length numbers / 4 → Totals xs n → EachLength xs numbers
  totals-all xs n e h j l = all-added numbers (suc j) n (get_or xs j 0) e (h j l).0

-- the job at the place j of a struct
module _ (t : OrderTable) (rows : List Row) (j l : ℕ) (b : j < t.jobs) (e : l ≡ lengths_of (suc j) rows) where
  test : whole_job (order_of t) rows (suc j) ≡ eqb l (get_or t.times j 0)
  test = rw (get_d_tabulate t.jobs (job_at t) no_job j b) (ap (λ (x : ℕ). eqb x (get_or t.times j 0)) (sym e))

  pub whole-job : l ≡ get_or t.times j 0 → whole_job (order_of t) rows (suc j) ≡ true
  whole-job h = test ∙ eq-eqb _ _ h

  pub wrong-sum : (l ≡ get_or t.times j 0 → ⊥) → whole_job (order_of t) rows (suc j) ≡ false
  wrong-sum h = test ∙ ne_eqb _ _ h
