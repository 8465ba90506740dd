-- The needs of the jobs at the places, where an array has their numbers by falling need, and their classes.
use Prim.Native.Nat.{ℕ, zero, suc, ◌-◌, ◌≤◌, ◌<◌}
use mathlib.Core.Path.{◌≡◌, sym, ap, ◌∙◌}
use mathlib.Core.List.{List}
use native.Mathlib.Decide.{dec_lt}
use native.Mathlib.Omega.{arith}
use lib.ListN.{get_or}
use Rattle.sums.specs.Pairs.{Pairwise-at}
use Rattle.sums.specs.Places.{get_d_tabulate}
use Rattle.order.specs.Order.{Job, Numbers, processor_count, job_of, no_job}
use Rattle.order.specs.Class.{class_of}
use Rattle.order.proofs.ClassLaws.{class-at-most}
use Rattle.order.specs.OrderingLaws.{jobs-ordered}
use Rattle.order.specs.Sorted.{job_order}
use Rattle.order.proofs.StructLaws.{job-count}
use Rattle.order.specs.Table.{order_of, job_at, padded}
use Rattle.order.specs.declared.Order.{Order as OrderTable}
use Rattle.table.specs.ClassRows.{listed-suffices}
use Rattle.table.specs.Held.{number_at, EachOnce, beside}
use Rattle.table.specs.HeldLaws.{held-once, once-same, padded-beside}
use Rattle.table.specs.Passed.{listing}
use Rattle.table.specs.declared.Listing.{Listing}

module _ (t : OrderTable) where
  abbrev pub need_at : ℕ → ℕ
  need_at k = (job_of (order_of t) (number_at (order_of t) k)).need

  -- none exceeds one before it
  pub needs-fall : (i k : ℕ) → i ≤ k → k < t.jobs → need_at k ≤ need_at i
  needs-fall i k l b =
      elim (dec_lt i k) [
        | yes h ↦ Pairwise-at _ (job_order (order_of t)) 0 (jobs-ordered (order_of t)).falls i k h
            (omega (arith, job-count t, (jobs-ordered (order_of t)).count))
        | no h ↦ let e : k ≡ i = omega arith in omega (arith, ap need_at e)
      ]

  module _ (few : t.jobs ≤ 48) (at : List ℕ) (e : at ≡ padded 48 (job_order (order_of t))) where
    number_is : (k : ℕ) → k < t.jobs → get_or at k 0 ≡ number_at (order_of t) k
    number_is k l = padded-beside (order_of t) (omega (arith, job-count t)) at e k (omega (arith, job-count t))

    pub numbers-once : EachOnce t.jobs (beside at)
    numbers-once =
        once-same _ t.jobs (number_at (order_of t)) (beside at) (sym (job-count t))
        (λ k l. number_is k (omega (arith, job-count t))) (held-once (order_of t))

    pub job-number : (k : ℕ) → k < t.jobs → Numbers t.jobs (get_or at k 0)
    job-number k l =
        let b = (held-once (order_of t)).are k (omega (arith, job-count t)) in
        (omega (arith, number_is k l, b.0), omega (arith, number_is k l, b.1, job-count t))

    pub job-need : (k : ℕ) → k < t.jobs → get_or t.needs (get_or at k 0 - 1) 0 ≡ need_at k
    job-need k l = go (get_or at k 0) (job-number k l) ∙ ap (λ (x : ℕ). (job_of (order_of t) x).need) (number_is k l)
      where
        go : (x : ℕ) → Numbers t.jobs x → get_or t.needs (x - 1) 0 ≡ (job_of (order_of t) x).need
        go zero b = absurd (omega arith)
        go (suc x) b =
            ap (λ (i : ℕ). get_or t.needs i 0) (omega arith)
            ∙ ap (λ (job : Job). job.need) (sym (get_d_tabulate t.jobs (job_at t) no_job x b.1))

  -- the class of the job at a place: it is listed, and those up to it suffice for every job from there on
  module _ (few : processor_count (order_of t) ≤ 16) (l : Listing) (e : l ≡ listing (order_of t)) (k class : ℕ)
      (is : class ≡ class_of (order_of t) (job_of (order_of t) (number_at (order_of t) k))) where
    pub class-listed : class ≤ l.count
    unfolding class_of
    class-listed = omega (arith, is, class-at-most (order_of t) (need_at k), ap (λ (l : Listing). l.count) e)

    pub class-fits : (i j : ℕ) → i < class → k ≤ j → j < t.jobs → need_at j ≤ get_or l.memories i 0
    unfolding class_of
    class-fits i j h q b =
        omega (arith, needs-fall k j q b, listed-suffices (order_of t) few l e (need_at k) i (omega (arith, is)))
