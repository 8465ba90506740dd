-- Document 02, §8: jobs "shall lie in memory by falling need, ties in input order, each job once, with the input number kept beside
-- each". Places are counted from 0, input numbers from 1.
use Rattle.std.specs.Prelude.{ℕ, suc, ◌<◌, ◌≡◌, List, eqb, ℤ, get_or}
use Rattle.sums.specs.Sum.{sum}
use Rattle.sums.specs.Lists.{only}
use Rattle.order.specs.Order.{Order, job_count, Numbers, job_of}
use Rattle.order.specs.Sorted.{job_order}
use Rattle.order.specs.Class.{class_of}
use Rattle.order.specs.Lead.{lead}
use Rattle.table.specs.declared.Table.{Table}

-- the number of the job at place k: "by falling need, ties in input order"
abbrev pub number_at : Order → ℕ → ℕ
number_at o k = get_or (job_order o) k 0

-- "each job once": n places have the numbers 1 to n, each at one place, so that sums over places are sums over jobs
pub record EachOnce (n : ℕ) (number : ℕ → ℕ) : Type 0 where
  pub are : (k : ℕ) → k < n → Numbers n (number k)
  pub place : (j : ℕ) → Numbers n j → (k : ℕ) × (k < n) × (number k ≡ j)
  pub once : (i k : ℕ) → i < n → k < n → number i ≡ number k → i ≡ k
  pub sums : (f : ℕ → ℕ) → sum n (λ k. f (number k)) ≡ sum n (λ j. f (suc j))

-- "with the input number kept beside each": the number beside place k
abbrev pub beside : List ℕ → ℕ → ℕ
beside numbers k = get_or numbers k 0

-- what a list of values by place has of the job with a number: the value at the place beside which the number stands
unfoldable pub value_of : (numbers : List ℕ) (n : ℕ) (values : List ℕ) → ℕ → ℕ
value_of numbers n values number = sum n (λ k. only (eqb (beside numbers k) number) (get_or values k 0))

-- the jobs of a table in input order, job j + 1 at j: the time, the class and the lead of each
pub record Reading : Type 0 where
  pub time : ℕ → ℕ
  pub class : ℕ → ℕ
  pub lead : ℕ → ℕ

-- read by the numbers beside the places; and read place by place, where the jobs lie in input order
abbrev pub by_number : Table → Reading
by_number t =
    record {
      time = λ j. value_of t.by_need t.n t.times (suc j);
      class = λ j. value_of t.by_need t.n t.classes (suc j);
      lead = λ j. value_of t.by_need t.n t.leads (suc j);
    }

abbrev pub by_place : Table → Reading
by_place t =
    record {
      time = λ j. get_or t.times j 0;
      class = λ j. get_or t.classes j 0;
      lead = λ j. get_or t.leads j 0;
    }

-- a reading is that of an order
pub record ReadingOf (top : ℤ) (o : Order) (r : Reading) : Type 0 where
  pub times : (j : ℕ) → j < job_count o → r.time j ≡ (job_of o (suc j)).time
  pub classes : (j : ℕ) → j < job_count o → r.class j ≡ class_of o (job_of o (suc j))
  pub leads : (j : ℕ) → j < job_count o → r.lead j ≡ lead top (job_of o (suc j)).due
