-- A table whose numbers are in range: what weighs and owes at most how much, as the loops need it.
use Rattle.std.specs.Prelude.{ℕ, suc, ◌+◌, ◌*◌, ◌<◌, ◌≤◌, ◌≡◌, refl, List, [], eqb, get_or}
use Rattle.std.proofs.Common.{arith, mul-le-mul}
use Rattle.sums.specs.Sum.{sum, sum-most}
use Rattle.sums.specs.Totals.{only-le}
use Rattle.sums.specs.Most.{most, most-le, ceiling-le}
use Rattle.sums.specs.Arrays.{RowOf}
use Rattle.table.specs.Tabled.{Fine}
use Rattle.table.specs.declared.Table.{Table}
use Rattle.stairs.specs.Places.{best}
use Rattle.stairs.specs.Tables.{Small}
use Rattle.stairs.specs.CompletionLaws.{best-comp, comp-le}
use Rattle.reason.specs.Asked.{owed_by, owes, minutes_at, weight, procs_to, latest_of, least_for, least_reach_of}

pub owes-le : (o : Table) → Fine o → (i d j : ℕ) → j < o.n → owes o i d j ≤ 100000
owes-le o f i d j h = omega (
  arith,
  only-le (eqb (get_or o.classes j 0) i)
      (owed_by (get_or o.times j 0) (get_or o.leads j 0) (get_or o.grid d 0)),
  f.times j h,
)

hand-le : (o : Table) → Fine o → (i d : ℕ) → i < 16 → d < 48 → get_or o.procs i 0 * get_or o.grid d 0 ≤ 32000000
hand-le o f i d h k = omega (arith, mul-le-mul (f.procs i h) (f.grid d))

pub weight-le : (o : Table) → Fine o → (i d : ℕ) → i < 16 → d < 48 → weight o i d ≤ 40000000
unfolding weight minutes_at
weight-le o f i d h k = omega (
  arith,
  hand-le o f i d h k,
  sum-most o.n 100000 (owes o (suc i) d)
      (λ j l. owes-le o f (suc i) d j l),
  f.jobs,
)

pub procs-none : (o : Table) → procs_to o 0 ≡ 0
unfolding procs_to sum
procs-none o = refl

pub procs-suc : (o : Table) (k : ℕ) → procs_to o (suc k) ≡ procs_to o k + get_or o.procs k 0
unfolding procs_to sum
procs-suc o k = refl

pub procs-le : (o : Table) → Fine o → (k : ℕ) → k ≤ 16 → procs_to o k ≤ 16 * k
unfolding procs_to
procs-le o f k l = sum-most k 16 _ (λ i h. f.procs i (omega arith))

pub procs-pos : (o : Table) → Fine o → (k : ℕ) → k < o.s → 0 < procs_to o (suc k)
procs-pos o f k l = omega (arith, procs-suc o k, f.some-proc k l)

pub small-table : (o : Table) (t : List (List ℕ)) → Fine o → ((i : ℕ) → i < 16 → RowOf (weight o i) 48 (get_or t i [])) →
    Small t
small-table o t f h = record { at = λ i d p q. omega (arith, (h i p).at d q, weight-le o f i d p q) }

pub minutes-le : (o : Table) → Fine o → (i d : ℕ) → minutes_at o i d ≤ 4800000
unfolding minutes_at
minutes-le o f i d = omega (arith, sum-most o.n 100000 (owes o i d) (λ j l. owes-le o f i d j l), f.jobs)

pub weight_is : (o : Table) (i d : ℕ) → weight o i d ≡ minutes_at o (suc i) d + get_or o.procs i 0 * get_or o.grid d 0
unfolding weight
weight_is o i d = refl

-- the least reach fits a machine number
pub reach-most : (o : Table) → Fine o → least_reach_of o ≤ 640000000
unfolding least_reach_of
reach-most o f =
    let a : latest_of o ≤ 640000000 = most-le o.n 640000000 _ (λ j l. omega (arith, f.times j l, f.leads j l)) in
    let b : most o.s (λ k. least_for o (suc k)) ≤ 640000000
    = most-le o.s 640000000 _ (λ k l.
    let n : suc k ≤ 16 = omega (arith, f.classed) in
    let p = procs-pos o f k l in
    ceiling-le (best (weight o) (suc k) o.q) (procs_to o (suc k)) 640000000 p
    (omega (
      arith,
      best-comp (weight o) (suc k) o.q,
      comp-le (weight o) (weight-le o f) 0 (suc k) o.q (omega arith) f.dues,
    ))) in
    omega arith
