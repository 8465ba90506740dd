-- Document 02, §2: "The layout of a stretch must therefore say which job each processor ends with."
use Rattle.std.specs.Prelude.{ℕ, suc, Bool, cond, ◌&&◌, List, [], ◌∷◌, eqb}
use Rattle.order.specs.Order.{Order}
use Rattle.plan.specs.Plan.{Row}
use Rattle.wrap.specs.Frame.{Frame, stretch_rows_in}

-- the job of the first row that passes a test, 0 where none does
unfoldable pub job_where : (Row → Bool) → List Row → ℕ
job_where test [] = 0
job_where test (r ∷ rows) = cond (test r) r.job (job_where test rows)

-- a row of the processor that ends, or begins, at a minute
abbrev pub ends_at : (minute processor : ℕ) → Row → Bool
ends_at minute processor r = eqb r.processor processor && eqb r.to minute

abbrev pub begins_at : (minute processor : ℕ) → Row → Bool
begins_at minute processor r = eqb r.processor processor && eqb r.from minute

-- of rows, the job that a processor ends with at a minute, 0 where it ends with none
abbrev pub ends_with : List Row → (minute processor : ℕ) → ℕ
ends_with rows minute processor = job_where (ends_at minute processor) rows

-- the job that a processor ends stretch s with, in the layout of amounts, and the job that it opens it with; 0 where there is none
abbrev pub stretch_ends_with : Order → Frame → (ℕ → ℕ → ℕ) → (s processor : ℕ) → ℕ
stretch_ends_with o f a s processor = ends_with (stretch_rows_in o f a s) (f.mark (suc s)) processor

abbrev pub stretch_opens_with : Order → Frame → (ℕ → ℕ → ℕ) → (s processor : ℕ) → ℕ
stretch_opens_with o f a s processor = job_where (begins_at (f.mark s) processor) (stretch_rows_in o f a s)
