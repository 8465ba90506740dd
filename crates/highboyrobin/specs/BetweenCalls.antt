-- What the two exported functions with times between answer (document 02, §9), and by which rows of the refusal table they judge. The
-- lows are the times of the file's order, the highs are lent one to a job.
use Rattle.std.specs.Prelude.{ℕ, ◌≡◌, not, List, [], ◌∷◌, ◌++◌, eqb, ℤ, pos, length, Result}
use Rattle.order.specs.Order.{Order, job_count}
use Rattle.order.specs.Refusals.{limits, TableRow, Verdict, judge, left_by, row, whole, room_row, file_row}
use Rattle.order_file.specs.File.{good_file, order_in, file_of, ReadBackBy}
use Rattle.profile.specs.Search.{Found, nothing, found}
use Rattle.estimate.specs.Estimate.{Estimate, least_at_lows, least_at_highs, order_met, estimate_rows}
use Rattle.estimate.specs.Told.{estimated, estimate_of}
use Rattle.estimate.specs.declared.Estimate.{Estimate as EstimateTable}
use Rattle.highboyrobin.specs.Results.{result_of, answer_row, StatusBy}

abbrev pub estimate_in : (file highs : List ℕ) → Estimate
estimate_in file highs = estimated (order_in file) highs

-- a mistake of the call, "judged right after 12": highs that are not as long as the file's jobs
abbrev pub wrong_highs_row : Order → ℕ → TableRow
wrong_highs_row o highs = row 253 (whole (not (eqb highs (job_count o))))

-- the table of a call with highs: the answer's room, 12, 253, then the rows of the entry point
unfoldable pub between_call : (lent asked : ℕ) → (file highs : List ℕ) → List TableRow → List TableRow
between_call lent asked file highs rows =
    answer_row lent asked ∷ file_row (good_file file) ∷ wrong_highs_row (order_in file) (length highs) ∷ rows

-- what both read, by those of these rows that are about file, highs and counts: the estimate, or the result of the first row that
-- refuses
abbrev pub EstimateBy : Verdict → (file highs : List ℕ) → Result EstimateTable ℕ → Type 0
EstimateBy v file highs r = StatusBy v r (λ read. estimate_of read ≡ estimate_in file highs)

-- hbr_between: the least lateness at all lows and at all highs
abbrev pub leasts_call : (file highs : List ℕ) → ℕ → List TableRow
leasts_call file highs lent = between_call lent 2 file highs (estimate_rows limits (estimate_in file highs))

abbrev pub leasts_in : (file highs : List ℕ) → List ℤ
leasts_in file highs = least_at_lows (estimate_in file highs) ∷ least_at_highs (estimate_in file highs) ∷ []

-- hbr_between_order: the file of the order met, no bytes where there is none
abbrev pub file_met : Found Order → List ℕ
file_met nothing = []
file_met (found o) = file_of o

abbrev pub file_in : (file highs : List ℕ) → ℤ → List ℕ
file_in file highs number = file_met (order_met (estimate_in file highs) number)

-- 9 comes last, and only where an order is written: no bytes are asked for where there is none
abbrev pub order_call : (file highs : List ℕ) → ℤ → (lent answer : ℕ) → List TableRow
order_call file highs number lent answer =
    between_call answer 1 file highs
    (estimate_rows limits (estimate_in file highs) ++ (room_row lent (length (file_in file highs number)) ∷ []))

-- by the verdict: the file in the buffer is read back as the order met; nothing is said where there is none, or where it refuses
abbrev pub BackBy : Verdict → Found Order → List ℕ → Type 0
BackBy v nothing buffer = Unit {0}
BackBy v (found o) buffer = ReadBackBy v o buffer

-- an order's file in the buffer, read back, and its length in the answer, by row 9
abbrev pub HandedBy : Order → (buffer buffer' : List ℕ) → (answer answer' : List ℤ) → ℕ → Type 0
HandedBy o buffer buffer' answer answer' result =
    (result ≡ result_of (judge (room_row (length buffer) (length (file_of o)) ∷ [])))
    × (buffer' ≡ left_by (judge (room_row (length buffer) (length (file_of o)) ∷ [])) (file_of o) buffer)
    × ReadBackBy (judge (room_row (length buffer) (length (file_of o)) ∷ [])) o buffer'
    × (answer' ≡ left_by (judge (room_row (length buffer) (length (file_of o)) ∷ [])) (pos (length (file_of o)) ∷ []) answer)
