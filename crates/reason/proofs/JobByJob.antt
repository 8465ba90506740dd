-- The table of minutes owed, filled job by job: each job is put into the row of its class.
use Prim.Native.Nat.{ℕ, suc, ◌+◌, ◌-◌, ◌<◌, ◌≤◌}
use mathlib.Core.Path.{◌≡◌, sym, ap, ◌∙◌}
use mathlib.Core.Logic.{◌≢◌}
use mathlib.Core.List.{List, []}
use native.Mathlib.Omega.{arith}
use native.Mathlib.Decide.{ℕ_discrete}
use borrow.Author.Tests.{eq-eqb, ne_eqb}
use lib.ListN.{length, get_or, set, replicate, get_or-replicate}
use lib.Seq.{get_or-set_same, get_or-set_other}
use Rattle.sums.specs.Sum.{sum, sum-none, sum_more, sum-most}
use Rattle.sums.specs.Arrays.{RowOf}
use Rattle.table.specs.Tabled.{Fine}
use Rattle.table.specs.declared.Table.{Table}
use Rattle.reason.specs.Asked.{owed_by, owes, minutes_at}
use Rattle.reason.specs.WeightLaws.{owes-le}

module _ (t : Table) where
  abbrev class_at : ℕ → ℕ
  class_at k = get_or t.classes k 0

  -- what the jobs at the first k places owe of a class
  abbrev OwedTo : ℕ → ℕ → List ℕ → Type 0
  OwedTo k class row = RowOf (λ d. sum k (owes t class d)) 48 row

  -- the jobs at the first k places are in
  abbrev pub Filled : ℕ → List (List ℕ) → Type 0
  Filled k rows = (i : ℕ) → i < 16 → OwedTo k (suc i) (get_or rows i [])

  pub filled-none : Filled 0 (replicate 16 (replicate 48 0))
  filled-none i l =
      record {
        at = λ d h.
            ap (λ (row : List ℕ). get_or row d 0) (get_or-replicate 16 i (replicate 48 0) [] l)
            ∙ (get_or-replicate 48 d 0 0 h ∙ sym (sum-none (owes t (suc i) d)));
      }

  -- a job of another class adds nothing
  other-class : (k class d : ℕ) → class_at k ≢ class → sum (k + 1) (owes t class d) ≡ sum k (owes t class d)
  other-class k class d n = sum_more k (owes t class d) ∙ (rw (ne_eqb (class_at k) class n) (omega arith))

  own-class : (k class d : ℕ) → class_at k ≡ class →
      sum (k + 1) (owes t class d)
      ≡ sum k (owes t class d) + owed_by (get_or t.times k 0) (get_or t.leads k 0) (get_or t.grid d 0)
  own-class k class d e = sum_more k (owes t class d) ∙ rw (eq-eqb (class_at k) class e)

  module _ (fine : Fine t) (k : ℕ) (rows : List (List ℕ)) (F : Filled k rows) (l : k < t.n) where
    -- no sum is so large that a job more does not fit
    pub filled-small : (d : ℕ) → d < 48 → get_or (get_or rows (class_at k - 1) []) d 0 ≤ 4700000
    filled-small d h =
        let c = fine.classes k l in
        let e : suc (class_at k - 1) ≡ class_at k = omega (arith, c.0) in
        omega (
          arith,
          (F (class_at k - 1) (omega (arith, c.0, c.1))).at d h,
          sum-most k 100000 (owes t (suc (class_at k - 1)) d) (λ i b. owes-le t fine (suc (class_at k - 1)) d i (omega arith)),
          fine.jobs,
        )

    -- one job more
    pub filled-more : length rows ≡ 16 → (row : List ℕ) →
        RowOf (λ d. get_or (get_or rows (class_at k - 1) []) d 0 + owed_by (get_or t.times k 0) (get_or t.leads k 0) (get_or t.grid d 0)) 48 row →
        Filled (k + 1) (set rows (class_at k - 1) row)
    filled-more size row new i b =
        let c = fine.classes k l in
        elim (ℕ_discrete i (class_at k - 1)) [
          | yes z ↦
              let own : class_at k ≡ suc i = omega (arith, z, c.0) in
              rw (← z, get_or-set_same rows i row [] (omega (arith, size)))
              (record {
                at = λ d h.
                    omega (arith, new.at d h, ap (λ (x : ℕ). get_or (get_or rows x []) d 0) z, (F i b).at d h, own-class k (suc i) d own);
              })
          | no n ↦
              rw (get_or-set_other rows (class_at k - 1) i row [] n)
              (record { at = λ d h. (F i b).at d h ∙ sym (other-class k (suc i) d (λ z. n (omega (arith, z)))) })
        ]

  -- all jobs are in
  pub filled-all : (k : ℕ) (rows : List (List ℕ)) → Filled k rows → k ≡ t.n → (i : ℕ) → i < 16 →
      RowOf (minutes_at t (suc i)) 48 (get_or rows i [])
  unfolding minutes_at
  filled-all k rows F e i l = record { at = λ d h. (F i l).at d h ∙ ap (λ (x : ℕ). sum x (owes t (suc i) d)) e }
