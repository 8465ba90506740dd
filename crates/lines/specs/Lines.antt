-- What plan-order and try-bound print: document 01's lines, and document 02's line of a reason.
use Rattle.std.specs.Prelude.{ℕ, List, [], ◌∷◌, ◌++◌, ℤ, length}
use Rattle.order.specs.Order.{Order}
use Rattle.order.specs.Refusals.{Verdict, accepted, refused}
use Rattle.plan.specs.Plan.{Row}
use Rattle.profile.specs.Reason.{Reason, over_end, stairs}
use Rattle.profile.specs.Search.{Found, nothing, found}
use Rattle.sentence.specs.Line.{line_of}
use Rattle.text.specs.Text.{ascii, line_end, number, signed_number}

-- "A refusal prints `refused` with number and job"
unfoldable pub refused_line : ℕ → ℕ → List ℕ
refused_line refusal carried = ascii "refused" ++ (number refusal ++ (number carried ++ line_end))

-- "The lines are the least lateness; job, processor, from, to; the row count."
unfoldable pub least_line : ℤ → List ℕ
least_line least = ascii "least" ++ (signed_number least ++ line_end)

unfoldable pub piece_line : Row → List ℕ
piece_line r =
    ascii "piece" ++ (number r.job ++ (number r.processor ++ (number r.from ++ (number r.to ++ line_end))))

unfoldable pub piece_lines : List Row → List ℕ
piece_lines [] = []
piece_lines (r ∷ rows) = piece_line r ++ piece_lines rows

unfoldable pub end_line : ℕ → List ℕ
end_line count = ascii "end" ++ (number count ++ line_end)

-- plan-order, of a plan
unfoldable pub plan_lines : ℤ → List Row → List ℕ
plan_lines least rows = least_line least ++ (piece_lines rows ++ end_line (length rows))

-- try-bound: "`meets`, `tight job J`, `tight stairs` with the due times of classes 1 to k .. or a `refused` line"
unfoldable pub meets_line : List ℕ
meets_line = ascii "meets" ++ line_end

unfoldable pub signed_numbers : List ℤ → List ℕ
signed_numbers [] = []
signed_numbers (z ∷ zs) = signed_number z ++ signed_numbers zs

unfoldable pub tight_line : Reason → List ℕ
tight_line (over_end job) = ascii "tight job" ++ (number job ++ line_end)
tight_line (stairs dues) = ascii "tight stairs" ++ (signed_numbers dues ++ line_end)

-- by what the table answers, and the reason that comes with a 10; document 02, §1, of the reason's line: "`try-bound` prints this
-- line after its `tight` line"
abbrev pub bound_line : Order → ℤ → Verdict → Found Reason → List ℕ
bound_line o bound accepted reason = meets_line
bound_line o bound (refused refusal carried) (found reason) = tight_line reason ++ (line_of o bound reason ++ line_end)
bound_line o bound (refused refusal carried) nothing = refused_line refusal carried
