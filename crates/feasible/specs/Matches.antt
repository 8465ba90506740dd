-- Document 01's order in the words of the amounts: job number j + 1 is the job j there, its deadline is its end cut off at
-- minute 0, class i + 1 has `count i` processors.
use Rattle.std.specs.Prelude.{ℕ, suc, ◌<◌, ◌≡◌, refl, ℤ, length}
use Rattle.order.specs.Order.{Order, job_count, job_of}
use Rattle.order.specs.Class.{classes, class_of, processors_in}
use Rattle.order.specs.Deadline.{deadline_of}
use Rattle.amounts.specs.Profile.{Jobs}
use Rattle.wrap.specs.Flows.{jobs_for}

-- the jobs, times, classes, deadlines and counts are those of the order at a bound; the marks of time are free
pub record Matches (o : Order) (bound : ℤ) (a : Jobs) : Type 0 where
  pub jobs : a.n ≡ job_count o
  pub times : (j : ℕ) → j < job_count o → a.time j ≡ (job_of o (suc j)).time
  pub of-class : (j : ℕ) → j < job_count o → a.class j ≡ class_of o (job_of o (suc j))
  pub deadlines : (j : ℕ) → j < job_count o → a.deadline j ≡ deadline_of bound (job_of o (suc j))
  pub counts : (i : ℕ) → i < length (classes o) → a.count i ≡ processors_in o (suc i)

pub jobs-match : (o : Order) (bound : ℤ) → Matches o bound (jobs_for o bound)
jobs-match o bound =
    record {
      jobs = refl;
      times = λ j l. refl;
      of-class = λ j l. refl;
      deadlines = λ j l. refl;
      counts = λ i l. refl;
    }
