-- What the check's inner functions answer.
use Rattle.std.specs.Prelude.{ℕ, suc, ◌+◌, ◌*◌, ◌/◌, ◌≤◌, ◌<◌, ◌≡◌, ◌&&◌, List, Option, leb, length, get_or}
use Rattle.std.specs.Bool.{then_some}
use Rattle.order.specs.Order.{Order}
use Rattle.plan.specs.Plan.{Row, lengths_of}
use Rattle.plan.specs.Check.{row_at, rows_of, well_formed}
use Rattle.plan.specs.declared.Piece.{Piece}

-- the code's row as a row of a plan
abbrev pub row_of : Piece → Row
row_of p = record { job = p.job; processor = p.processor; from = p.from; to = p.to }

-- and the four numbers at a place as the code's row
abbrev pub piece_at : List ℕ → ℕ → Piece
piece_at numbers i =
    let r = row_at numbers i in
    record { job = r.job; processor = r.processor; from = r.from; to = r.to }

-- the row at a place; none where it is not whole or not well formed
abbrev pub row_read : Order → List ℕ → ℕ → Option Piece
row_read o numbers i = then_some (leb (4 * i + 4) (length numbers) && well_formed o (row_at numbers i)) (piece_at numbers i)

-- a row that goes forward to a minute of 32 bits, of one of 48 jobs on one of 16 processors; every row is
pub record InRange (r : Row) : Type 0 where
  pub forward : r.from < r.to
  pub short : r.to < 4294967296
  pub a-job : (1 ≤ r.job) × (r.job ≤ 48)
  pub a-processor : (1 ≤ r.processor) × (r.processor ≤ 16)

abbrev pub Ranged : List ℕ → Type 0
Ranged numbers = (k : ℕ) → k < length numbers / 4 → InRange (row_at numbers k)

-- the lengths of each job's rows, of job 1 first
abbrev pub EachLength : List ℕ → List ℕ → Type 0
EachLength totals numbers = (j : ℕ) → j < 48 → get_or totals j 0 ≡ lengths_of (suc j) (rows_of numbers)
