-- Document 01: "Inside a stretch the jobs' amounts are laid out by McNaughton's wrap .. fill a processor to the stretch's
-- end, then go on at the next one's beginning. Rows stand by stretch, then by that processor order, then by `from`."
use Rattle.std.specs.Prelude.{ℕ, zero, suc, ◌+◌, ◌-◌, cond, List, [], ◌∷◌, ◌++◌, ltb, eqb, ℤ}
use Rattle.order.specs.Order.{Order}
use Rattle.order.specs.Sorted.{processor_order, job_order}
use Rattle.plan.specs.Plan.{Row}
use Rattle.wrap.specs.Stretches.{stretch_count, mark}

-- what is still to be laid out of a job in a stretch
pub record Share : Type 0 where
  pub job : ℕ
  pub minutes : ℕ

-- shares on processors, from the minute `at` of the first: a share that ends before the stretch does leaves the processor
-- to the next share; one that does not fills it, and what is left goes on at the next processor's beginning
unfoldable pub fill : (start end : ℕ) → List ℕ → ℕ → List Share → List Row
fill start end [] at shares = []
fill start end (p ∷ ps) at [] = []
fill start end (p ∷ ps) at (x ∷ xs) =
    cond (ltb (at + x.minutes) end)
    (record { job = x.job; processor = p; from = at; to = at + x.minutes } ∷ fill start end (p ∷ ps) (at + x.minutes) xs)
    (record { job = x.job; processor = p; from = at; to = end }
    ∷ cond (eqb (at + x.minutes) end)
    (fill start end ps start xs)
    (fill start end ps start (record { job = x.job; minutes = at + x.minutes - end } ∷ xs)))

-- the jobs with an amount in stretch s, in the given order
unfoldable pub shares_of : (ℕ → ℕ → ℕ) → ℕ → List ℕ → List Share
shares_of a s [] = []
shares_of a s (j ∷ js) = cond (ltb 0 (a j s)) (record { job = j; minutes = a j s } ∷ shares_of a s js) (shares_of a s js)

-- the rows of one stretch, and of the first n stretches
unfoldable pub stretch_rows : Order → ℤ → (ℕ → ℕ → ℕ) → ℕ → List Row
stretch_rows o bound a s =
    fill (mark o bound s) (mark o bound (suc s)) (processor_order o) (mark o bound s) (shares_of a s (job_order o))

unfoldable pub rows_up_to : Order → ℤ → (ℕ → ℕ → ℕ) → ℕ → List Row
rows_up_to o bound a zero = []
rows_up_to o bound a (suc n) = rows_up_to o bound a n ++ stretch_rows o bound a n

-- the plan of amounts
unfoldable pub layout : Order → ℤ → (ℕ → ℕ → ℕ) → List Row
layout o bound a = rows_up_to o bound a (stretch_count o)
