-- A walk over an order's jobs that puts each job's time to its maker's minutes.
use Prim.Native.Nat.{ℕ, suc, ◌+◌, ◌*◌, ◌≤◌, ◌<◌}
use mathlib.Core.Path.{◌≡◌, sym, ap, ◌∙◌}
use mathlib.Core.List.{List, [], ◌∷◌}
use native.Mathlib.Omega.{arith}
use borrow.Author.Tests.{eq-eqb, ne_eqb}
use lib.Dec.{eqb}
use lib.ListN.{length, get_or, set}
use Rattle.sums.specs.Lists.{All, total, only, tabulate}
use Rattle.sums.specs.Members.{All-from}
use Rattle.sums.specs.Places.{length-tabulate, get_d_tabulate, tabulate-more, set-tabulate}
use Rattle.sums.specs.Totals.{total-append}
use Rattle.order.specs.Order.{Job, no_job}
use Rattle.order.specs.Refusals.{most_makers, Accepted}
use Rattle.order.proofs.StructLaws.{few-jobs, time-in-range-at}
use Rattle.order.specs.Table.{order_of, job_at}
use Rattle.order.specs.declared.Order.{Order as OrderTable}
use Rattle.book.specs.Book.{minutes_by}
use Rattle.book.specs.BookLaws.{minutes-most}

module _ (t : OrderTable) where
  -- the minutes of maker i + 1 in the first j jobs
  abbrev pub minutes_in : ℕ → ℕ → ℕ
  minutes_in j i = total (tabulate j (job_at t)) (λ (job : Job). only (eqb job.maker (suc i)) job.time)

  minutes-more : (j i : ℕ) → minutes_in (j + 1) i ≡ minutes_in j i + only (eqb (job_at t j).maker (suc i)) (job_at t j).time
  minutes-more j i =
      ap (λ (jobs : List Job). total jobs (λ (job : Job). only (eqb job.maker (suc i)) job.time)) (tabulate-more j (job_at t))
      ∙ (total-append (tabulate j (job_at t)) (job_at t j ∷ []) _ ∙ omega arith)

  -- one job more
  pub one-job-more : (j place v : ℕ) (minutes : List ℕ) → minutes ≡ tabulate most_makers (minutes_in j) → place < most_makers →
      (job_at t j).maker ≡ suc place → v ≡ get_or minutes place 0 + (job_at t j).time →
      set minutes place v ≡ tabulate most_makers (minutes_in (j + 1))
  one-job-more j place v minutes e l is sum =
      rw e
      (set-tabulate most_makers (minutes_in j) (minutes_in (j + 1)) place v
      (minutes-more j place
      ∙ rw (eq-eqb (job_at t j).maker (suc place) is)
      (sym (sum ∙ ap (λ (m : ℕ). m + (job_at t j).time) (ap (λ (ms : List ℕ). get_or ms place 0) e
      ∙ get_d_tabulate most_makers (minutes_in j) 0 place l))))
      (λ k b other.
      omega (arith, minutes-more j k, ap (λ b. only b (job_at t j).time) (ne_eqb (job_at t j).maker (suc k) (λ same. omega arith)))))

  -- of an accepted order: at most 100,000 minutes a job, and the minutes of all its jobs
  module _ (a : Accepted (order_of t)) (j : ℕ) where
    minutes-small : j ≤ t.jobs → (i : ℕ) → minutes_in j i ≤ 100000 * j
    minutes-small l i =
        omega (
          arith,
          minutes-most (tabulate j (job_at t))
              (All-from _ (tabulate j (job_at t)) no_job
              (λ k b. let in_place : k < j = rw length-tabulate at b in
              rw (get_d_tabulate j (job_at t) no_job k in_place) (time-in-range-at t a k (omega arith)).1))
              (suc i),
          length-tabulate j (job_at t),
        )

    pub minutes-read : j ≤ t.jobs → (minutes : List ℕ) → minutes ≡ tabulate most_makers (minutes_in j) → (i : ℕ) → i < most_makers →
        get_or minutes i 0 ≤ 4800000
    minutes-read l minutes e i b =
        omega (
          arith,
          ap (λ (ms : List ℕ). get_or ms i 0) e,
          get_d_tabulate most_makers (minutes_in j) 0 i b,
          minutes-small l i,
          few-jobs t a,
        )

    pub all-minutes : (minutes : List ℕ) → t.jobs ≡ j → minutes ≡ tabulate most_makers (minutes_in j) →
        (minutes ≡ minutes_by (order_of t)) × All (λ n. n ≤ 4800000) minutes
    unfolding minutes_by
    all-minutes minutes is e = (
      rw is e,
      All-from _ minutes 0 (λ i b.
          minutes-read (omega arith) minutes e i
          (omega (arith, ap length e, length-tabulate most_makers (minutes_in j)))),
    )
