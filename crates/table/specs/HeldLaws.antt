-- Jobs by place and by input number: each stands at one place, and both readings of a table are the order's.
use Prim.Native.Nat.{ℕ, zero, suc, ◌≤◌, ◌<◌}
use Rattle.std.specs.Prelude.{◌≡◌, refl, Bool, List, eqb, ℤ, get_or}
use Rattle.std.proofs.Common.{sym, ◌∙◌, subst, eqb-true, eq-eqb}
use Rattle.std.proofs.Math.Path.{ap}
use Rattle.std.proofs.Math.Decide.{dec_lt}
use native.Mathlib.Omega.{arith}
use Rattle.sums.specs.Sum.{sum, sum-cong, sum-const, sum-at-below}
use Rattle.sums.specs.Lists.{only}
use Rattle.sums.specs.Members.{All-at, in-at}
use Rattle.sums.specs.Most.{most, most-le, most-ge}
use Rattle.sums.specs.Pairs.{Pairwise-at}
use Rattle.sums.specs.Places.{get_d_tabulate}
use Rattle.sums.specs.Totals.{only_none, total-tabulate, total-places}
use Rattle.order.specs.Order.{Order, job_count, job_of, Numbers}
use Rattle.order.specs.Sorted.{job_order}
use Rattle.order.specs.OrderingLaws.{Ordered, jobs-ordered}
use Rattle.order.specs.Class.{class_of}
use Rattle.order.specs.Lead.{lead}
use Rattle.order.specs.Table.{padded}
use Rattle.table.specs.Held.{number_at, EachOnce, beside, value_of, by_number, by_place, ReadingOf}
use Rattle.table.specs.Tabled.{TabledBy, Tabled, InInputOrder}
use Rattle.table.specs.declared.Table.{Table}

-- numbers in order are each once
pub ordered-once : (key : ℕ → ℕ) (n : ℕ) (order : List ℕ) → Ordered key n order → EachOnce n (beside order)
ordered-once key n order o =
    record {
      are = λ k l. All-at (Numbers n) order 0 o.no_other k (omega (arith, o.count));
      place = λ j b.
          let r = in-at order 0 j (o.each j b) in
          (r.0, omega (arith, r.1, o.count), r.2);
      once = λ i k a b e.
          elim (dec_lt i k) [
            | yes l ↦ absurd (Pairwise-at _ order 0 o.once i k l (omega (arith, o.count)) e)
            | no l ↦
                elim (dec_lt k i) [
                  | yes h ↦ absurd (Pairwise-at _ order 0 o.once k i h (omega (arith, o.count)) (sym e))
                  | no h ↦ omega arith
                ]
          ];
      sums = λ f.
          ap (λ (m : ℕ). sum m (λ k. f (get_or order k 0))) (sym o.count)
          ∙ sym (total-places order 0 f) ∙ o.sums f ∙ total-tabulate n suc f;
    }

pub held-once : (o : Order) → EachOnce (job_count o) (number_at o)
held-once o = ordered-once _ (job_count o) (job_order o) (jobs-ordered o)

-- and so are they in input order
pub input-once : (n : ℕ) → EachOnce n suc
input-once n =
    record {
      are = λ k l. (omega arith, l);
      place = place;
      once = λ i k a b e. omega (arith, e);
      sums = λ f. refl;
    }
  where
    place : (j : ℕ) → Numbers n j → (k : ℕ) × (k < n) × (suc k ≡ j)
    place zero b = absurd (omega arith)
    place (suc j) b = (j, b.1, refl)

-- only the numbers beside the n places count
pub once-same : (n m : ℕ) (number number' : ℕ → ℕ) → m ≡ n → ((k : ℕ) → k < n → number' k ≡ number k) → EachOnce n number →
    EachOnce m number'
once-same n m number number' e h E =
    rw e (record {
      are = λ k l. subst (Numbers n) (sym (h k l)) (E.are k l);
      place = λ j b. let r = E.place j b in (r.0, r.1, h r.0 r.1 ∙ r.2);
      once = λ i k a b q. E.once i k a b (sym (h i a) ∙ q ∙ h k b);
      sums = λ f. sum-cong n _ _ (λ k l. ap f (h k l)) ∙ E.sums f;
    })

-- the largest over the places is that over the jobs
pub most-once : (n : ℕ) (number : ℕ → ℕ) → EachOnce n number → (f : ℕ → ℕ) → most n (λ k. f (number k)) ≡ most n (λ j. f (suc j))
most-once n number E f =
    let a = most-le n (most n (λ j. f (suc j))) (λ k. f (number k)) (λ k l. up (number k) (E.are k l)) in
    let b = most-le n (most n (λ k. f (number k))) (λ j. f (suc j)) (λ j l.
    let r = E.place (suc j) (omega arith, l) in
    omega (arith, most-ge n r.0 (λ k. f (number k)) r.1, ap f r.2)) in
    omega (arith, a, b)
  where
    up : (j : ℕ) → Numbers n j → f j ≤ most n (λ j. f (suc j))
    up zero b = absurd (omega arith)
    up (suc j) b = most-ge n j (λ j. f (suc j)) b.1

-- the value of the number beside place k is the one at place k
module _ (numbers : List ℕ) (n : ℕ) (E : EachOnce n (beside numbers)) (values : List ℕ) where
  pub value-at : (k : ℕ) → k < n → value_of numbers n values (beside numbers k) ≡ get_or values k 0
  unfolding value_of
  value-at k l =
      let f : ℕ → ℕ = λ i. only (eqb (beside numbers i) (beside numbers k)) (get_or values i 0) in
      omega (
        arith,
        sum-at-below n k f (λ i. 0) l (λ i b ne. only_none (eqb (beside numbers i) (beside numbers k)) (get_or values i 0)
            (λ e. absurd (ne (E.once i k b l (eqb-true (beside numbers i) (beside numbers k) e))))),
        sum-const n 0,
        ap (λ (b : Bool). only b (get_or values k 0)) (eq-eqb (beside numbers k) (beside numbers k) refl),
      )

-- the number beside a place, where an array has the jobs' numbers by falling need
pub padded-beside : (o : Order) → job_count o ≤ 48 → (at : List ℕ) → at ≡ padded 48 (job_order o) → (k : ℕ) → k < job_count o →
    beside at k ≡ number_at o k
padded-beside o few at e k l = rw e (get_d_tabulate 48 (λ i. get_or (job_order o) i 0) 0 k (omega arith))

module _ {top : ℤ} {number : ℕ → ℕ} (o : Order) (t : Table) (m : TabledBy number top o t) where
  pub beside-is : (k : ℕ) → k < job_count o → beside t.by_need k ≡ number_at o k
  beside-is = padded-beside o (omega (arith, m.jobs, m.few-jobs)) t.by_need m.by-need

  pub beside-once : EachOnce t.n (beside t.by_need)
  beside-once = once-same (job_count o) t.n (number_at o) (beside t.by_need) m.jobs beside-is (held-once o)

-- read by the numbers beside its places, §8's table is the order's
module _ {top : ℤ} (o : Order) (t : Table) (m : Tabled top o t) where
  job_read : (values : List ℕ) (value : ℕ → ℕ) → ((k : ℕ) → k < job_count o → get_or values k 0 ≡ value (number_at o k)) →
      (j : ℕ) → j < job_count o → value_of t.by_need t.n values (suc j) ≡ value (suc j)
  job_read values value h j l =
      let r = (held-once o).place (suc j) (omega arith, l) in
      let e : beside t.by_need r.0 ≡ suc j = beside-is o t m r.0 r.1 ∙ r.2 in
      ap (value_of t.by_need t.n values) (sym e)
      ∙ value-at t.by_need t.n (beside-once o t m) values r.0 (omega (arith, r.1, m.jobs))
      ∙ h r.0 r.1 ∙ ap value r.2

  pub held-read : ReadingOf top o (by_number t)
  held-read =
      record {
        times = job_read t.times (λ j. (job_of o j).time) m.times;
        classes = job_read t.classes (λ j. class_of o (job_of o j)) m.classes-of;
        leads = job_read t.leads (λ j. lead top (job_of o j).due) m.leads;
      }

-- and so is the input-order table, read place by place
pub input-read : {top : ℤ} (o : Order) (t : Table) → InInputOrder top o t → ReadingOf top o (by_place t)
input-read o t m = record { times = m.times; classes = m.classes-of; leads = m.leads }
