-- Lines of one row more, of one due time more, and of the rows that stand as numbers in a buffer.
use Rattle.std.specs.Prelude.{ℕ, zero, suc, ◌+◌, ◌*◌, ◌/◌, ◌<◌, min, ◌≡◌, refl, List, [], ◌∷◌, ◌++◌, ℤ, pos, length, get_or, take}
use Rattle.std.proofs.Common.{sym, ap, ◌∙◌, append_assoc, append-nil, arith, take_all, take-suc}
use Rattle.std.proofs.Math.Decide.{dec_lt}
use Rattle.sums.specs.Lists.{tabulate}
use Rattle.sums.specs.Places.{tabulate-more, tabulate-cong}
use Rattle.plan.specs.Plan.{Row}
use Rattle.plan.specs.Check.{numbers_of, row_at}
use Rattle.plan.specs.NumberLaws.{rows-of-numbers, length-numbers}
use Rattle.text.specs.Text.{signed_number}
use Rattle.lines.specs.Lines.{piece_line, piece_lines, signed_numbers}

pieces-snoc : (rows : List Row) (r : Row) → piece_lines (rows ++ (r ∷ [])) ≡ piece_lines rows ++ piece_line r
unfolding piece_lines
pieces-snoc [] r = append-nil (piece_line r)
pieces-snoc (x ∷ rows) r =
    ap (λ (l : List ℕ). piece_line x ++ l) (pieces-snoc rows r) ∙ sym (append_assoc (piece_line x) (piece_lines rows) (piece_line r))

pub pieces_none : piece_lines [] ≡ []
unfolding piece_lines
pieces_none = refl

pub pieces_more : (i : ℕ) (f : ℕ → Row) → piece_lines (tabulate i f) ++ piece_line (f i) ≡ piece_lines (tabulate (i + 1) f)
pieces_more i f = sym (ap piece_lines (tabulate-more i f) ∙ pieces-snoc (tabulate i f) (f i))

numbers-snoc : (zs : List ℤ) (z : ℤ) → signed_numbers (zs ++ (z ∷ [])) ≡ signed_numbers zs ++ signed_number z
unfolding signed_numbers
numbers-snoc [] z = append-nil (signed_number z)
numbers-snoc (x ∷ zs) z =
    ap (λ (l : List ℕ). signed_number x ++ l) (numbers-snoc zs z)
    ∙ sym (append_assoc (signed_number x) (signed_numbers zs) (signed_number z))

pub numbers-none : signed_numbers [] ≡ []
unfolding signed_numbers
numbers-none = refl

pub numbers_more : (zs : List ℤ) (i : ℕ) → i < length zs →
    signed_numbers (take i zs) ++ signed_number (get_or zs i (pos 0)) ≡ signed_numbers (take (i + 1) zs)
numbers_more zs i h =
    let e : i + 1 ≡ suc i = omega arith in
    rw e (sym (ap signed_numbers (take-suc zs i (pos 0) h) ∙ numbers-snoc (take i zs) (get_or zs i (pos 0))))

-- all of them, where more are counted than there are
pub numbers-taken : (zs : List ℤ) (i count : ℕ) → i ≡ min count (length zs) → signed_numbers (take i zs) ≡ signed_numbers (take count zs)
numbers-taken zs i count e =
    elim (dec_lt count (length zs)) [
      | yes h ↦ let k : i ≡ count = omega arith in rw k
      | no h ↦ rw (take_all i zs (omega arith), take_all count zs (omega arith))
    ]

-- the rows whose numbers stand first in a buffer
get_or-first : (xs ys : List ℕ) (i : ℕ) → i < length xs → get_or (xs ++ ys) i 0 ≡ get_or xs i 0
get_or-first [] ys i h = absurd (omega arith)
get_or-first (x ∷ xs) ys zero h = refl
get_or-first (x ∷ xs) ys (suc i) h = get_or-first xs ys i (omega arith)

pub rows-first : (rows : List Row) (rest : List ℕ) → tabulate (length rows) (row_at (numbers_of rows ++ rest)) ≡ rows
rows-first rows rest =
    let n = length-numbers rows in
    let k : length (numbers_of rows) / 4 ≡ length rows = omega arith in
    tabulate-cong (length rows) (row_at (numbers_of rows ++ rest)) (row_at (numbers_of rows))
    (λ i l. cc (
      get_or-first (numbers_of rows) rest (4 * i) (omega arith),
      get_or-first (numbers_of rows) rest (4 * i + 1) (omega arith),
      get_or-first (numbers_of rows) rest (4 * i + 2) (omega arith),
      get_or-first (numbers_of rows) rest (4 * i + 3) (omega arith),
    ))
    ∙ (ap (λ (m : ℕ). tabulate m (row_at (numbers_of rows))) (sym k) ∙ rows-of-numbers rows)
