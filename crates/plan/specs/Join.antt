-- Document 02, §2, "Fewer hand-overs between stretches": rows are joined where one goes on as another.
use Rattle.std.specs.Prelude.{ℕ, ◌≡◌, Bool, cond, ◌&&◌, List, [], ◌∷◌, eqb}
use Rattle.plan.specs.Plan.{Row}

-- "Where a job ends a stretch on a processor and opens the next stretch on that processor, makers want one row": row r goes on as
-- row x if both are of one job on one processor, and x begins where r ends
abbrev pub GoesOnAs : Row → Row → Type 0
GoesOnAs r x = (r.job ≡ x.job) × (r.processor ≡ x.processor) × (r.to ≡ x.from)

abbrev pub goes_on_as : Row → Row → Bool
goes_on_as r x = eqb r.job x.job && (eqb r.processor x.processor && eqb r.to x.from)

-- a row with another end
abbrev pub lengthened : Row → ℕ → Row
lengthened r to = record { job = r.job; processor = r.processor; from = r.from; to = to }

-- "A joined row stands where its earliest part stood": a row more lengthens the first that goes on as it, and stands behind all others
-- where none does
unfoldable pub join_row : List Row → Row → List Row
join_row [] x = x ∷ []
join_row (r ∷ rows) x = cond (goes_on_as r x) (lengthened r x.to ∷ rows) (r ∷ join_row rows x)

-- rows more, one after the other; so parts over many stretches become one row
unfoldable pub join_rows : List Row → List Row → List Row
join_rows rows [] = rows
join_rows rows (x ∷ xs) = join_rows (join_row rows x) xs

-- the rows of a plan, joined
abbrev pub joined : List Row → List Row
joined rows = join_rows [] rows
