-- The rows held in lent numbers: a plan that was written over zeros is held, zeros hold no row, and each number of a row is where it is
-- read.
use Rattle.std.specs.Prelude.{ℕ, zero, suc, ◌+◌, ◌-◌, ◌*◌, ◌/◌, ◌%◌, ◌≤◌, ◌<◌, ◌≡◌, refl, Bool, true, false, cond, List, [], ◌∷◌, ◌++◌, eqb, length, get_or, drop, replicate}
use Rattle.std.proofs.Common.{sym, ap, ◌∙◌, arith, eqb-true, ne_eqb, get_or-append-add, get_or-drop, drop-drop}
use Rattle.std.proofs.Math.Decide.{dec_lt}
use Rattle.std.proofs.Math.ListN.{get_or-eq_default}
use Rattle.std.proofs.Math.Seq.{drop-append-add}
use Rattle.sums.specs.Lists.{All, tabulate, nth}
use Rattle.sums.specs.Places.{length-tabulate, get_d_tabulate}
use Rattle.order.proofs.RefusalLaws.{both_true}
use Rattle.order_file.specs.Bytes.{bytes4}
use Rattle.plan.specs.Plan.{Row}
use Rattle.plan.specs.Check.{numbers_of, row_at}
use Rattle.plan.specs.NumberLaws.{length-numbers}
use Rattle.registers.specs.Registers.{no_row, row_numbers, bytes_of}
use Rattle.registers.specs.Memory.{is_no_row, trim, trimmed, rows_held}

-- rows are equal that have equal numbers
same_row : (r t : Row) → r.job ≡ t.job → r.processor ≡ t.processor → r.from ≡ t.from → r.to ≡ t.to → r ≡ t
same_row r t a b c d = λ i. record { job = a i; processor = b i; from = c i; to = d i }

no-row : (r : Row) → is_no_row r ≡ true → r ≡ no_row
no-row r e =
    let a = both_true (eqb r.job 0) _ e in
    let b = both_true (eqb r.processor 0) _ a.1 in
    let c = both_true (eqb r.from 0) _ b.1 in
    same_row r no_row (eqb-true r.job 0 a.0) (eqb-true r.processor 0 b.0) (eqb-true r.from 0 c.0)
    (eqb-true r.to 0 c.1)

-- a row of the trimmed rows is that row
trim-at : (r : Row) (ts rows : List Row) → ((i : ℕ) → get_or ts i no_row ≡ get_or rows i no_row) → (i : ℕ) →
    get_or (trim r ts) i no_row ≡ get_or (r ∷ rows) i no_row
trim-at r [] rows h i = go (is_no_row r) refl i
  where
    go : (b : Bool) → is_no_row r ≡ b → (i : ℕ) → get_or (cond b [] (r ∷ [])) i no_row ≡ get_or (r ∷ rows) i no_row
    go true e zero = sym (no-row r e)
    go true e (suc i) = h i
    go false e zero = refl
    go false e (suc i) = h i
trim-at r (t ∷ ts) rows h zero = refl
trim-at r (t ∷ ts) rows h (suc i) = h i

trimmed-at : (rows : List Row) (i : ℕ) → get_or (trimmed rows) i no_row ≡ get_or rows i no_row
unfolding trimmed
trimmed-at [] i = refl
trimmed-at (r ∷ rows) i = trim-at r (trimmed rows) rows (trimmed-at rows) i

trim-few : (r : Row) (ts : List Row) → length (trim r ts) ≤ suc (length ts)
trim-few r [] = go (is_no_row r)
  where
    go : (b : Bool) → length (cond b [] (r ∷ [])) ≤ 1
    go true = omega arith
    go false = omega arith
trim-few r (t ∷ ts) = omega arith

trimmed-few : (rows : List Row) → length (trimmed rows) ≤ length rows
unfolding trimmed
trimmed-few [] = omega arith
trimmed-few (r ∷ rows) = omega (arith, trim-few r (trimmed rows), trimmed-few rows)

-- "180 rows": of any memory
pub held-few : (numbers : List ℕ) → length (rows_held numbers) ≤ 180
unfolding rows_held
held-few numbers = omega (arith, trimmed-few (tabulate 180 (row_at numbers)), length-tabulate 180 (row_at numbers))

-- rows of jobs with zeros behind them are trimmed to these rows
abbrev pub OfJobs : List Row → Type 0
OfJobs rows = All (λ (r : Row). 1 ≤ r.job) rows

trim-row : (r p : Row) (ps : List Row) → r ≡ p → 1 ≤ p.job → trim r ps ≡ p ∷ ps
trim-row r p [] e h = rw (e, ne_eqb p.job 0 (λ z. omega arith)) refl
trim-row r p (q ∷ ps) e h = ap (λ (x : Row). x ∷ q ∷ ps) e

trimmed-is : (rows plan : List Row) → ((i : ℕ) → get_or rows i no_row ≡ get_or plan i no_row) → OfJobs plan → trimmed rows ≡ plan
unfolding trimmed
trimmed-is [] [] h jobs = refl
trimmed-is [] (p ∷ plan) h jobs = absurd (omega (arith, ap (λ (r : Row). r.job) (h 0), jobs.0))
trimmed-is (r ∷ rows) [] h jobs = rw (h 0, trimmed-is rows [] (λ i. h (suc i)) tt) refl
trimmed-is (r ∷ rows) (p ∷ plan) h jobs =
    ap (trim r) (trimmed-is rows plan (λ i. h (suc i)) jobs.1) ∙ trim-row r p plan (h 0) jobs.0

-- the row with a number, where it is held and where none is
pub held_at : (numbers : List ℕ) (i : ℕ) → i < 180 → get_or (rows_held numbers) i no_row ≡ row_at numbers i
unfolding rows_held
held_at numbers i h = trimmed-at (tabulate 180 (row_at numbers)) i ∙ get_d_tabulate 180 (row_at numbers) no_row i h

held-past : (numbers : List ℕ) (i : ℕ) → 180 ≤ i → get_or (rows_held numbers) i no_row ≡ no_row
held-past numbers i h = get_or-eq_default (rows_held numbers) no_row {n = i} (omega (arith, held-few numbers))

-- rows whose numbers stand first in a list, and what stands behind them
row-later : (a b c d : ℕ) (rest : List ℕ) (i : ℕ) → row_at (a ∷ b ∷ c ∷ d ∷ rest) (suc i) ≡ row_at rest i
row-later a b c d rest i =
    same_row _ _ (at (4 * suc i) (4 * i) (omega arith)) (at (4 * suc i + 1) (4 * i + 1) (omega arith))
    (at (4 * suc i + 2) (4 * i + 2) (omega arith)) (at (4 * suc i + 3) (4 * i + 3) (omega arith))
  where
    at : (j k : ℕ) → j ≡ suc (suc (suc (suc k))) → get_or (a ∷ b ∷ c ∷ d ∷ rest) j 0 ≡ get_or rest k 0
    at j k e = ap (λ (x : ℕ). get_or (a ∷ b ∷ c ∷ d ∷ rest) x 0) e

row_in : (plan : List Row) (rest : List ℕ) (i : ℕ) → i < length plan → row_at (numbers_of plan ++ rest) i ≡ get_or plan i no_row
unfolding numbers_of
row_in [] rest i h = absurd (omega arith)
row_in (p ∷ plan) rest zero h = refl
row_in (p ∷ plan) rest (suc i) h =
    row-later p.job p.processor p.from p.to (numbers_of plan ++ rest) i ∙ row_in plan rest i (omega arith)

module _ (plan : List Row) (entry : List ℕ) where
  abbrev laid : List ℕ
  laid = numbers_of plan ++ drop (4 * length plan) entry

  past : (i : ℕ) → 4 * length plan ≤ i → get_or laid i 0 ≡ get_or entry i 0
  past i h =
      let n = 4 * length plan in
      let e : i ≡ length (numbers_of plan) + (i - n) = omega (arith, length-numbers plan) in
      let back : n + (i - n) ≡ i = omega arith in
      ap (λ (k : ℕ). get_or laid k 0) e
      ∙ get_or-append-add (numbers_of plan) (drop n entry) (i - n) 0
      ∙ get_or-drop n entry (i - n) 0
      ∙ ap (λ (k : ℕ). get_or entry k 0) back

  row-past : (i : ℕ) → length plan ≤ i → row_at laid i ≡ row_at entry i
  row-past i h =
      same_row _ _ (past (4 * i) (omega arith)) (past (4 * i + 1) (omega arith)) (past (4 * i + 2) (omega arith))
      (past (4 * i + 3) (omega arith))

  -- and beyond 720 numbers
  pub laid-beyond : length plan ≤ 180 → drop 720 laid ≡ drop 720 entry
  laid-beyond few =
      let n = 4 * length plan in
      let e : 720 ≡ length (numbers_of plan) + (720 - n) = omega (arith, length-numbers plan) in
      let back : n + (720 - n) ≡ 720 = omega arith in
      ap (λ (k : ℕ). drop k laid) e
      ∙ drop-append-add (numbers_of plan) (drop n entry) (720 - n)
      ∙ drop-drop (720 - n) n entry
      ∙ ap (λ (k : ℕ). drop k entry) back

-- lent numbers whose rows are zeros
abbrev pub NoRows : List ℕ → Type 0
NoRows numbers = (i : ℕ) → i < 180 → row_at numbers i ≡ no_row

pub held_none : (numbers : List ℕ) → NoRows numbers → rows_held numbers ≡ []
unfolding rows_held
held_none numbers none = trimmed-is (tabulate 180 (row_at numbers)) [] at tt
  where
    at : (i : ℕ) → get_or (tabulate 180 (row_at numbers)) i no_row ≡ no_row
    at i = elim (dec_lt i 180) [
      | yes h ↦ get_d_tabulate 180 (row_at numbers) no_row i h ∙ none i h
      | no h ↦ get_or-eq_default (tabulate 180 (row_at numbers)) no_row {n = i} (omega (arith, length-tabulate 180 (row_at numbers)))
    ]

pub held-plan : (plan : List Row) (entry : List ℕ) → OfJobs plan → length plan ≤ 180 → NoRows entry → rows_held (laid plan entry) ≡ plan
unfolding rows_held
held-plan plan entry jobs few none = trimmed-is (tabulate 180 (row_at (laid plan entry))) plan at jobs
  where
    inside : (i : ℕ) → i < 180 → row_at (laid plan entry) i ≡ get_or plan i no_row
    inside i h = elim (dec_lt i (length plan)) [
      | yes l ↦ row_in plan (drop (4 * length plan) entry) i l
      | no l ↦ row-past plan entry i (omega arith) ∙ none i h ∙ sym (get_or-eq_default plan no_row {n = i} (omega arith))
    ]

    at : (i : ℕ) → get_or (tabulate 180 (row_at (laid plan entry))) i no_row ≡ get_or plan i no_row
    at i = elim (dec_lt i 180) [
      | yes h ↦ get_d_tabulate 180 (row_at (laid plan entry)) no_row i h ∙ inside i h
      | no h ↦ get_or-eq_default (tabulate 180 (row_at (laid plan entry))) no_row {n = i}
          (omega (arith, length-tabulate 180 (row_at (laid plan entry))))
          ∙ sym (get_or-eq_default plan no_row {n = i} (omega arith))
    ]

-- zeros in front
pub zero-at : (n : ℕ) (rest : List ℕ) (k : ℕ) → k < n → get_or (replicate n 0 ++ rest) k 0 ≡ 0
zero-at zero rest k h = absurd (omega arith)
zero-at (suc n) rest zero h = refl
zero-at (suc n) rest (suc k) h = zero-at n rest k (omega arith)

pub zeros-none : (rest : List ℕ) → NoRows (replicate 720 0 ++ rest)
zeros-none rest i h =
    same_row _ _ (zero-at 720 rest (4 * i) (omega arith)) (zero-at 720 rest (4 * i + 1) (omega arith))
    (zero-at 720 rest (4 * i + 2) (omega arith)) (zero-at 720 rest (4 * i + 3) (omega arith))

-- a number of a row in the list
pub row_number : (numbers : List ℕ) (i q : ℕ) → q < 4 → get_or (row_numbers (row_at numbers i)) q 0 ≡ get_or numbers (4 * i + q) 0
row_number numbers i zero h = let e : 4 * i ≡ 4 * i + 0 = omega arith in ap (λ (k : ℕ). get_or numbers k 0) e
row_number numbers i (suc zero) h = refl
row_number numbers i (suc (suc zero)) h = refl
row_number numbers i (suc (suc (suc zero))) h = refl
row_number numbers i (suc (suc (suc (suc q)))) h = absurd (omega arith)

-- a number of the row with a number: 0 where no such row is held
pub zero-numbers : (q : ℕ) → get_or (row_numbers no_row) q 0 ≡ 0
zero-numbers zero = refl
zero-numbers (suc zero) = refl
zero-numbers (suc (suc zero)) = refl
zero-numbers (suc (suc (suc zero))) = refl
zero-numbers (suc (suc (suc (suc q)))) = refl

module _ (numbers : List ℕ) (which : ℕ) where
  abbrev number_of : ℕ → ℕ
  number_of row = get_or (row_numbers (nth (rows_held numbers) row no_row)) which 0

  pub number-none : (row : ℕ) → row ≡ 0 → number_of row ≡ 0
  number-none row e = ap number_of e ∙ zero-numbers which

  pub number_past : (row : ℕ) → 180 < row → number_of row ≡ 0
  number_past zero h = absurd (omega arith)
  number_past (suc i) h = ap (λ (r : Row). get_or (row_numbers r) which 0) (held-past numbers i (omega arith)) ∙ zero-numbers which

  pub number_at : (row : ℕ) → 1 ≤ row → row ≤ 180 → which < 4 → number_of row ≡ get_or numbers (4 * (row - 1) + which) 0
  number_at zero l h w = absurd (omega arith)
  number_at (suc i) l h w =
      let e : i ≡ suc i - 1 = omega arith in
      ap (λ (r : Row). get_or (row_numbers r) which 0) (held_at numbers i (omega arith))
      ∙ row_number numbers i which w
      ∙ ap (λ (k : ℕ). get_or numbers (4 * k + which) 0) e

-- a byte of some numbers is one of the four of its number; past their end it is 0, and so are the bytes of 0
pub four-zeros : (k : ℕ) → get_or (bytes4 0) k 0 ≡ 0
four-zeros zero = refl
four-zeros (suc zero) = refl
four-zeros (suc (suc zero)) = refl
four-zeros (suc (suc (suc zero))) = refl
four-zeros (suc (suc (suc (suc k)))) = refl

pub number-byte : (numbers : List ℕ) (k : ℕ) → get_or (bytes_of numbers) k 0 ≡ get_or (bytes4 (get_or numbers (k / 4) 0)) (k % 4) 0
number-byte [] k = sym (four-zeros (k % 4))
number-byte (n ∷ numbers) zero = refl
number-byte (n ∷ numbers) (suc zero) = refl
number-byte (n ∷ numbers) (suc (suc zero)) = refl
number-byte (n ∷ numbers) (suc (suc (suc zero))) = refl
number-byte (n ∷ numbers) (suc (suc (suc (suc k)))) =
    let q : suc (suc (suc (suc k))) / 4 ≡ suc (k / 4) = omega arith in
    let r : suc (suc (suc (suc k))) % 4 ≡ k % 4 = omega arith in
    rw (q, r) (number-byte numbers k)

pub past-four : (n k : ℕ) → 4 ≤ k → get_or (bytes4 n) k 0 ≡ 0
past-four n k h = get_or-eq_default (bytes4 n) 0 {n = k} h
