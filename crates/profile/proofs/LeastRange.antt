-- The least lateness of an accepted order lies well inside the range of a bound, document 01's "-10,000,000 to 10,000,000".
use Prim.Native.Nat.{ℕ, zero, suc, ◌+◌, ◌-◌, ◌*◌, ◌≤◌, ◌<◌}
use Rattle.std.specs.Prelude.{◌≡◌, true, eqb, ℤ}
use Rattle.std.proofs.Math.Path.{ap}
use mathlib.Core.List.{List, [], ◌∷◌}
use native.Mathlib.Omega.{arith}
use Rattle.std.proofs.Math.Decide.{dec_lt}
use Rattle.std.proofs.Math.Nat.{mul-le-mul_left}
use Rattle.std.proofs.Common.{le-leb}
use Rattle.std.proofs.Math.ListN.{length}
use Rattle.sums.specs.Sum.{sum}
use Rattle.sums.specs.Lists.{All, In, only}
use Rattle.sums.specs.Members.{All-map, All-both, All-at}
use Rattle.sums.specs.Totals.{only-le, total-most}
use Rattle.order.specs.Order.{Job, Order, job_count, Numbers, no_job, job_of, end_at}
use Rattle.order.specs.Sorted.{due_times}
use Rattle.order.specs.Class.{classes, class_of, processors_in, processors_to}
use Rattle.order.specs.Lead.{lead, bound_at, last_due, most_reach}
use Rattle.order.proofs.LeadLaws.{lead-most}
use Rattle.order.specs.Refusals.{Accepted, bound_in_range}
use Rattle.order.proofs.RefusalLaws.{Acceptable, accepted-iff, dues-in-range}
use Rattle.order.specs.Whole.{subℕ-pos, subℕ-neg}
use Rattle.profile.specs.Search.{choices}
use Rattle.profile.specs.Least.{owed_at, weight_at, weight_from, least_reach, least_lateness}
use Rattle.profile.proofs.Ranking.{choices-in}
use Rattle.profile.proofs.SearchLaws.{due_times-fall, in-due}
use Rattle.order.proofs.ClassLaws.{processors_in-some}
use Rattle.profile.specs.LeastLaws.{reach-le}

module _ (o : Order) (a : Acceptable o) where
  due-lead-most : (d : ℤ) → In d (due_times o) → lead last_due d ≤ 2000000
  due-lead-most d i = let j = in-due o d i in rw j.2 (by_number j.0 j.1)
    where
      by_number : (j : ℕ) → Numbers (job_count o) j → lead last_due (job_of o j).due ≤ 2000000
      by_number zero b = absurd (omega (arith, b.0))
      by_number (suc j) b = lead-most (job_of o (suc j)).due (All-at _ o.jobs no_job (dues-in-range o a) j b.1)

  -- the jobs owe at most 48 times 100,000 minutes, and a class has a processor: at most 6,800,000 for each of them
  class-most : (k g : ℕ) → k < length (classes o) → g ≤ 2000000 → weight_at last_due o (suc k) g ≤ processors_in o (suc k) * 6800000
  unfolding weight_at
  class-most k g l h =
      omega (
        arith,
        mul-le-mul_left (processors_in o (suc k)) h,
        processors_in-some o k l,
        a.few-jobs,
        total-most o.jobs (λ (job : Job). only (eqb (class_of o job) (suc k)) (owed_at last_due g job)) 100000
            (All-map _ _ o.jobs (λ (job : Job) t. owes-most job t.1) a.times),
      )
    where
      owes-most : (job : Job) → job.time ≤ 100000 → only (eqb (class_of o job) (suc k)) (owed_at last_due g job) ≤ 100000
      owes-most job t = omega (arith, only-le (eqb (class_of o job) (suc k)) (owed_at last_due g job))

  -- a profile weighs at most 6,800,000 for each processor of its classes
  weight-most : (i : ℕ) (es : List ℤ) → i + length es ≤ length (classes o) → All (λ (d : ℤ). In d (due_times o)) es →
      weight_from last_due o (suc i) es + processors_to o i * 6800000 ≤ processors_to o (i + length es) * 6800000
  unfolding weight_from processors_to sum
  weight-most i [] l h = let z : i + 0 ≡ i = omega arith in rw z (omega arith)
  weight-most i (d ∷ es) l h =
      let z : i + suc (length es) ≡ suc i + length es = omega arith in
      omega (
        arith,
        ap (processors_to o) z,
        class-most i (lead last_due d) (omega arith) (due-lead-most d h.0),
        weight-most (suc i) es (omega arith) h.1,
      )

  least_reach-most : least_reach last_due o ≤ 6800000
  least_reach-most =
      reach-le o last_due 6800000
      (All-map _ _ o.jobs (λ (job : Job) x. omega (arith, x.0.1, lead-most job.due x.1))
      (All-both _ _ o.jobs a.times (dues-in-range o a))) each
    where
      each : (k : ℕ) → k < length (classes o) → (es : List ℤ) → In es (choices (suc k) (due_times o)) →
          weight_from last_due o 1 es ≤ processors_to o (suc k) * 6800000
      each k l es i =
          let c = (choices-in (suc k) (due_times o) (due_times-fall o) es).0 i in
          let z : 0 + length es ≡ suc k = omega (arith, c.0) in
          omega (arith, weight-most 0 es (omega arith) c.1.members, ap (processors_to o) z)

-- the bound of a reach is in a bound's range
reach-in-range : (n : ℕ) → n ≤ most_reach → bound_in_range (bound_at last_due n) ≡ true
unfolding end_at
reach-in-range n h =
    elim (dec_lt n 1000001) [
      | yes l ↦ rw (subℕ-neg n 1000001 l, le-leb (1000001 - suc n) 9999999 (omega arith))
      | no l ↦ rw (subℕ-pos n 1000001 (omega arith), le-leb (n - 1000001) 10000000 (omega arith))
    ]

-- the least lateness is in a bound's range
pub least-in-range : (o : Order) → Accepted o → bound_in_range (least_lateness o) ≡ true
unfolding least_lateness
least-in-range o accepted =
    reach-in-range (least_reach last_due o) (omega (arith, least_reach-most o ((accepted-iff o).0 accepted)))
