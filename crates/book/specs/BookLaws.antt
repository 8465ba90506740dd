-- Which counts are over; how many minutes a maker's jobs have at most; and that the makers' minutes are those of all jobs.
use Rattle.std.specs.Prelude.{ℕ, zero, suc, ◌+◌, ◌*◌, ◌≤◌, ◌<◌, ◌≡◌, refl, Bool, true, false, ◌||◌, List, ltb, eqb, length}
use Rattle.std.proofs.Common.{sym, ◌∙◌, arith, mul-le-mul_right, lt-ltb, le-ltb, ltb-false}
use Rattle.std.proofs.Math.ListN.{get_or}
use Rattle.sums.specs.Sum.{sum, sum-cong}
use Rattle.sums.specs.Gate.{gate-in}
use Rattle.sums.specs.Lists.{All, total, only, tabulate}
use Rattle.sums.specs.Members.{All-map}
use Rattle.sums.specs.Places.{length-tabulate, get_d_tabulate}
use Rattle.sums.specs.Totals.{only-le, total-cong, total-most, by_number}
use Rattle.order.specs.Order.{Job, Order}
use Rattle.order.specs.Refusals.{most_makers, Accepted}
use Rattle.order.proofs.RefusalLaws.{accepted-iff}
use Rattle.book.specs.Book.{minutes_for, minutes_of, added, most_booked, some_over}

-- of a list given by its places: some one is over, or none is
pub some-over : (n : ℕ) (f : ℕ → ℕ) (i : ℕ) → i < n → most_booked < f i → some_over (tabulate n f) ≡ true
unfolding some_over
some-over zero f i l h = absurd (omega arith)
some-over (suc n) f zero l h = rw (lt-ltb most_booked (f 0) h)
some-over (suc n) f (suc i) l h = rw (some-over n (λ k. f (suc k)) i (omega arith) h) (either (ltb most_booked (f 0)))
  where
    either : (b : Bool) → (b || true) ≡ true
    either true = refl
    either false = refl

pub none_over : (n : ℕ) (f : ℕ → ℕ) → ((i : ℕ) → i < n → f i ≤ most_booked) → some_over (tabulate n f) ≡ false
unfolding some_over
none_over zero f h = refl
none_over (suc n) f h =
    rw (le-ltb most_booked (f 0) (h 0 (omega arith))) (none_over n (λ k. f (suc k)) (λ i l. h (suc i) (omega arith)))

not-over : (n : ℕ) (f : ℕ → ℕ) → some_over (tabulate n f) ≡ false → (i : ℕ) → i < n → f i ≤ most_booked
unfolding some_over
not-over zero f e i l = absurd (omega arith)
not-over (suc n) f e i l = at (ltb most_booked (f 0)) (some_over (tabulate n (λ k. f (suc k)))) refl e i l (not-over n (λ k. f (suc k)))
  where
    at : (b later : Bool) → ltb most_booked (f 0) ≡ b → (b || later) ≡ false → (i : ℕ) → i < suc n →
        (later ≡ false → (k : ℕ) → k < n → f (suc k) ≤ most_booked) → f i ≤ most_booked
    at true later t h i l more = let z : ◌≡◌ {A = ℕ} 0 1 = cc in absurd (omega arith)
    at false later t h zero l more = ltb-false most_booked (f 0) t
    at false later t h (suc i) l more = more h i (omega arith)

-- the sums of counts and minutes: sixteen, each at its place; none over where none is found
module _ (counts minutes : List ℕ) where
  pub added-length : length (added counts minutes) ≡ most_makers
  unfolding added
  added-length = length-tabulate most_makers (λ i. get_or counts i 0 + get_or minutes i 0)

  pub added-at : (i : ℕ) → i < most_makers → get_or (added counts minutes) i 0 ≡ get_or counts i 0 + get_or minutes i 0
  unfolding added
  added-at i l = get_d_tabulate most_makers (λ i. get_or counts i 0 + get_or minutes i 0) 0 i l

  pub added-few : some_over (added counts minutes) ≡ false → (i : ℕ) → i < most_makers → get_or counts i 0 + get_or minutes i 0 ≤ most_booked
  unfolding added
  added-few e i l = not-over most_makers (λ i. get_or counts i 0 + get_or minutes i 0) e i l

-- jobs of at most 100,000 minutes each
pub minutes-most : (jobs : List Job) → All (λ (job : Job). job.time ≤ 100000) jobs → (maker : ℕ) →
    total jobs (λ (job : Job). only (eqb job.maker maker) job.time) ≤ length jobs * 100000
minutes-most jobs h maker =
    total-most jobs _ 100000
    (All-map _ _ jobs (λ (job : Job) t. omega (arith, only-le (eqb job.maker maker) job.time)) h)

-- the makers' minutes together are those of all jobs
module _ (o : Order) (ok : Accepted o) where
  pub minutes-few : (maker : ℕ) → minutes_for o maker ≤ 4800000
  minutes-few maker =
      let a = (accepted-iff o).0 ok in
      omega (
        arith,
        minutes-most o.jobs (All-map _ _ o.jobs (λ (job : Job) h. h.1) a.times) maker,
        mul-le-mul_right 100000 a.few-jobs,
      )

  pub minutes-all : sum most_makers (λ i. minutes_for o (suc i)) ≡ minutes_of o
  minutes-all =
      let makers = ((accepted-iff o).0 ok).makers in
      sum-cong most_makers _ _ (λ i l. sym (gate-in 0 1 (minutes_for o (suc i)) (omega arith)))
      ∙ (by_number most_makers (λ (job : Job). job.maker) (λ _. 0) 1 o.jobs (λ (job : Job). job.time) makers
      ∙ total-cong o.jobs _ _ (All-map _ _ o.jobs (λ (job : Job) h. gate-in 0 1 job.time (omega arith)) makers))
