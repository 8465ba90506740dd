-- Bounds on document 01's two sums: a staircase owes at most the times of all jobs, and where one stands its minutes on hand are a
-- natural number below those owed.
use Rattle.std.specs.Prelude.{ℕ, suc, ◌+◌, ◌*◌, ◌≤◌, ◌<◌, ◌≡◌, refl, Bool, true, false, cond, leb, eqb, ℤ, pos, negsuc, ◌-ℤ◌, ◌≤ℤ◌, ◌<ℤ◌}
use Rattle.std.proofs.Common.{sym, ap, ◌∙◌, subst, inl, inr, le-leb, eq-eqb, ne_eqb}
use mathlib.Core.List.{List, [], ◌∷◌}
use native.Mathlib.Omega.{arith}
use Rattle.std.proofs.Math.Decide.{dec_lt, ℕ_discrete}
use Rattle.std.proofs.lemmas.Bool.{lt-leb}
use Rattle.std.proofs.Math.IntN.{+ℤ_comm, +ℤ-neg_ℤ_cancel}
use Rattle.std.specs.Int.Signed.{le_z}
use Rattle.sums.specs.Lists.{All, total, only}
use Rattle.sums.specs.Members.{All-map, All-nth}
use Rattle.sums.specs.Totals.{only-le, total-most}
use Rattle.order.specs.Order.{Job, Order, no_job, end_at, end_of}
use Rattle.order.specs.Class.{class_of, processors_in}
use Rattle.order.specs.Deadline.{cut}
use Rattle.order.specs.Refusals.{due_in_range}
use Rattle.order.proofs.RefusalLaws.{Acceptable, dues-in-range, true-le_z}
use Rattle.order.specs.Whole.{pos-lt, cut-minus, le-or-lt, le-gap, <ℤ-≤ℤ}
use Rattle.profile.specs.Profile.{owed, class_owes, owed_from, on_hand_from, minutes_owed, minutes_on_hand, Profile}
use Rattle.profile.specs.Reason.{stairs, Stands}
use Rattle.profile.proofs.SearchLaws.{in-due, profile-chosen}
use Rattle.profile.proofs.StandingLaws.{stands-exceeds}

-- a time less how much later one end is than another is at most the time
cut_later : (time : ℕ) (a b : ℤ) → a ≤ℤ b → cut (pos time -ℤ (b -ℤ a)) ≤ time
cut_later time a b h =
    let g = le-gap a b h in
    let e : b -ℤ a ≡ pos g.0
    = ap (λ (z : ℤ). z -ℤ a) (sym g.1 ∙ +ℤ_comm a (pos g.0)) ∙ +ℤ-neg_ℤ_cancel (pos g.0) a in
    rw e (omega (arith, cut-minus time g.0))

-- a job owes at most its time
owed-most : (bound T : ℤ) (job : Job) → owed bound T job ≤ job.time
unfolding owed
owed-most bound T job =
    elim (le-or-lt (end_of bound job) T) [
      | inl h ↦ rw (true-le_z _ _ h) (omega arith)
      | inr h ↦ either (le_z (end_of bound job) T) (cut_later job.time T (end_of bound job) (<ℤ-≤ℤ _ _ h))
    ]
  where
    either : (b : Bool) {n : ℕ} → n ≤ job.time → cond b job.time n ≤ job.time
    either true h = omega arith
    either false h = h

-- what is at most another is so behind a test
pub only-most : (b : Bool) {x y : ℕ} → x ≤ y → only b x ≤ only b y
only-most true h = h
only-most false h = omega arith

-- a class, and those behind it, are those from it on
pub only-from : (c k x : ℕ) → only (eqb c k) x + only (leb (suc k) c) x ≡ only (leb k c) x
only-from c k x =
    elim (ℕ_discrete c k) [
      | yes e ↦ rw (eq-eqb c k e, lt-leb (suc k) c (omega arith), le-leb k c (omega arith)) (omega arith)
      | no e ↦ elim (dec_lt k c) [
        | yes l ↦ rw (ne_eqb c k e, le-leb (suc k) c l, le-leb k c (omega arith)) (omega arith)
        | no l ↦ rw (ne_eqb c k e, lt-leb (suc k) c (omega arith), lt-leb k c (omega arith)) (omega arith)
      ]
    ]

module _ (o : Order) (bound : ℤ) where
  -- what a class owes, and the times of the jobs behind it, are at most the times of the jobs from it on
  class-owes-most : (k : ℕ) (T : ℤ) (jobs : List Job) →
      total jobs (λ (job : Job). only (eqb (class_of o job) k) (owed bound T job))
      + total jobs (λ (job : Job). only (leb (suc k) (class_of o job)) job.time)
      ≤ total jobs (λ (job : Job). only (leb k (class_of o job)) job.time)
  class-owes-most k T [] = omega arith
  class-owes-most k T (job ∷ jobs) =
      omega (
        arith,
        class-owes-most k T jobs,
        only-most (eqb (class_of o job) k) (owed-most bound T job),
        only-from (class_of o job) k job.time,
      )

  -- the classes from one on owe at most the times of their jobs
  owed-from-most : (k : ℕ) (dues : List ℤ) →
      owed_from o bound k dues ≤ total o.jobs (λ (job : Job). only (leb k (class_of o job)) job.time)
  unfolding owed_from class_owes
  owed-from-most k [] = omega arith
  owed-from-most k (d ∷ dues) =
      omega (arith, owed-from-most (suc k) dues, class-owes-most k (end_at bound d) o.jobs)

  -- a staircase owes at most the times of all jobs: 48 times 100,000 minutes
  pub minutes-owed-most : Acceptable o → (dues : List ℤ) → minutes_owed o bound dues ≤ 4800000
  minutes-owed-most a dues =
      omega (
        arith,
        a.few-jobs,
        owed-from-most 1 dues,
        total-most o.jobs (λ (job : Job). only (leb 1 (class_of o job)) job.time) 100000
            (All-map _ _ o.jobs (λ (job : Job) t. omega (arith, t.1, only-le (leb 1 (class_of o job)) job.time))
            a.times),
      )

  -- where no end is negative, neither are the minutes on hand
  on-hand-natural : (k : ℕ) (dues : List ℤ) → All (λ (d : ℤ). (n : ℕ) × (end_at bound d ≡ pos n)) dues →
      (n : ℕ) × (on_hand_from o bound k dues ≡ pos n)
  unfolding on_hand_from
  on-hand-natural k [] h = (0, refl)
  on-hand-natural k (d ∷ dues) h =
      let r = on-hand-natural (suc k) dues h.1 in
      (processors_in o k * h.0.0 + r.0, rw (h.0.1, r.1) refl)

-- what is not below a natural number is one
natural-of : (n : ℕ) (z : ℤ) → pos n ≤ℤ z → (m : ℕ) × (z ≡ pos m)
natural-of n (pos m) h = (m, refl)
natural-of n (negsuc m) h = absurd h.le

-- the due times of a staircase are in range
pub dues-range : (o : Order) → Acceptable o → (bound : ℤ) (dues : List ℤ) → Profile o bound dues →
    All (λ (d : ℤ). due_in_range d ≡ true) dues
dues-range o a bound dues p =
    All-map _ _ dues (λ (d : ℤ) i. let j = in-due o d i in
    subst (λ (z : ℤ). due_in_range z ≡ true) (sym j.2)
    (All-nth (λ (job : Job). due_in_range job.due ≡ true) o.jobs no_job (dues-in-range o a) j.0 j.1.0 j.1.1))
    (profile-chosen o bound dues p).members

-- the minutes on hand of a staircase that stands: a natural number below the minutes owed
pub stands-natural : (o : Order) (bound : ℤ) (dues : List ℤ) → Stands o bound (stairs dues) →
    (n : ℕ) × (minutes_on_hand o bound dues ≡ pos n) × (n < minutes_owed o bound dues)
stands-natural o bound dues h =
    let n = on-hand-natural o bound 1 dues (All-map _ _ dues (λ (d : ℤ) j.
    let e = natural-of _ _ (h.0 j.0 j.1) in (e.0, j.2 ∙ e.1)) h.1.profile.of-jobs) in (
      n.0,
      n.1,
      (pos-lt n.0 (minutes_owed o bound dues)).0
          (subst (λ (z : ℤ). z <ℤ pos (minutes_owed o bound dues)) n.1 (stands-exceeds o bound (stairs dues) h)),
    )
