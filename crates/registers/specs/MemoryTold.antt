-- The registers, and what lies beside them, say of each of the 256 bytes and the 720 numbers what it is: so a contract that gives both
-- gives the lent memory.
use Rattle.std.specs.Prelude.{ℕ, zero, suc, ◌+◌, ◌*◌, ◌/◌, ◌%◌, ◌<◌, ◌≤◌, ◌≡◌, refl, List, get_or}
use Rattle.std.proofs.Common.{sym, ap, ◌∙◌, arith, le-leb}
use Rattle.std.proofs.Math.Decide.{dec_lt}
use Rattle.order_file.specs.Bytes.{number4, pattern}
use Rattle.plan.specs.Plan.{Row}
use Rattle.plan.specs.Check.{row_at}
use Rattle.registers.specs.Registers.{Registers, place_of, bit, no_row, row_numbers}
use Rattle.registers.specs.Memory.{stored_by, spare_by, block_of, spare_of, rows_held}
use Rattle.registers.specs.PlaceLaws.{request-at, row-at, file-at, nothing-at}
use Rattle.registers.specs.MemoryLaws.{bit-set, flag-byte, pattern-signed}
use Rattle.registers.specs.HeldLaws.{held_at, row_number}
use Rattle.registers.specs.declared.Place.{Place}
use Rattle.registers.specs.declared.Place.TheVariants.{Stored, Held, Nothing}

-- a byte is below 256
abbrev pub Bytes : List ℕ → Type 0
Bytes xs = (k : ℕ) → get_or xs k 0 < 256

-- the last digit to the base 256, and so all four, are one number's alone
last-digit : (a m x n : ℕ) → a < 256 → x < 256 → a + 256 * m ≡ x + 256 * n → (a ≡ x) × (m ≡ n)
last-digit a m x n h l e = elim (dec_lt m n) [
  | yes i ↦ absurd (omega arith)
  | no i ↦ elim (dec_lt n m) [
    | yes j ↦ absurd (omega arith)
    | no j ↦ (omega arith, omega arith)
  ]
]

module _ (a b c d x y z w : ℕ) (ha : a < 256) (hb : b < 256) (hc : c < 256) (hx : x < 256) (hy : y < 256) (hz : z < 256)
    (e : a + 256 * b + 65536 * c + 16777216 * d ≡ x + 256 * y + 65536 * z + 16777216 * w) where
  digits : (a ≡ x) × (b ≡ y) × (c ≡ z) × (d ≡ w)
  digits =
      let p = last-digit a (b + 256 * (c + 256 * d)) x (y + 256 * (z + 256 * w)) ha hx (omega arith) in
      let q = last-digit b (c + 256 * d) y (z + 256 * w) hb hy p.1 in
      let r = last-digit c d z w hc hz q.1 in
      (p.0, q.0, r.0, r.1)

module _ (xs ys : List ℕ) (held held' : List Row) (low : Bytes xs) (low' : Bytes ys) (same : block_of xs held ≡ block_of ys held')
    (beside : (k : ℕ) → spare_of xs k ≡ spare_of ys k) where
  one_told : get_or xs 1 0 ≡ get_or ys 1 0
  one_told =
      omega (
        arith,
        flag-byte (get_or xs 1 0),
        flag-byte (get_or ys 1 0),
        ap (λ (s : Registers). bit s.done) same,
        ap (λ (s : Registers). bit s.refused) same,
        ap (λ (s : Registers). bit s.interrupt) same,
        beside 1,
      )

  three-told : get_or xs 3 0 ≡ get_or ys 3 0
  three-told =
      omega (arith, bit-set (get_or xs 3 0), bit-set (get_or ys 3 0), ap (λ (s : Registers). bit s.allowed) same, beside 3)

  stored-told : (a : ℕ) → place_of a ≡ Stored → get_or xs a 0 ≡ get_or ys a 0
  stored-told a e =
      sym (ap (λ (p : Place). stored_by p (get_or xs a 0)) e)
      ∙ ap (λ (s : Registers). s.stored a) same
      ∙ ap (λ (p : Place). stored_by p (get_or ys a 0)) e

  spare-told : (a : ℕ) (p : Place) → a < 256 → place_of a ≡ p → ((v : ℕ) → spare_by p v ≡ v) → get_or xs a 0 ≡ get_or ys a 0
  spare-told a p h e whole = sym (of xs) ∙ beside a ∙ of ys
    where
      of : (l : List ℕ) → spare_of l a ≡ get_or l a 0
      of l = rw (le-leb a 255 (omega arith), e) (whole (get_or l a 0))

  small : (l : List ℕ) → Bytes l → number4 l 12 < 4294967296
  small l b = omega (arith, b 12, b 13, b 14, b 15)

  number_same : number4 xs 12 ≡ number4 ys 12
  number_same =
      sym (pattern-signed (number4 xs 12) (small xs low))
      ∙ ap (λ (s : Registers). pattern s.lateness) same
      ∙ pattern-signed (number4 ys 12) (small ys low')

  lateness-told : (a : ℕ) → 12 ≤ a → a < 16 → get_or xs a 0 ≡ get_or ys a 0
  lateness-told a l h =
      elim (dec_lt a 13) [
        | yes i ↦ let k : a ≡ 12 = omega arith in rw k four.0
        | no i ↦ elim (dec_lt a 14) [
          | yes j ↦ let k : a ≡ 13 = omega arith in rw k four.1
          | no j ↦ elim (dec_lt a 15) [
            | yes m ↦ let k : a ≡ 14 = omega arith in rw k four.2
            | no m ↦ let k : a ≡ 15 = omega arith in rw k four.3
          ]
        ]
      ]
    where
      four : (get_or xs 12 0 ≡ get_or ys 12 0)
          × (get_or xs 13 0 ≡ get_or ys 13 0)
          × (get_or xs 14 0 ≡ get_or ys 14 0)
          × (get_or xs 15 0 ≡ get_or ys 15 0)
      four =
          digits (get_or xs 12 0) (get_or xs 13 0) (get_or xs 14 0) (get_or xs 15 0) (get_or ys 12 0) (get_or ys 13 0) (get_or ys 14 0) (get_or ys 15 0)
          (low 12) (low 13) (low 14) (low' 12) (low' 13) (low' 14) number_same

  pub byte-told : (a : ℕ) → a < 256 → get_or xs a 0 ≡ get_or ys a 0
  byte-told zero h = beside 0
  byte-told (suc zero) h = one_told
  byte-told (suc (suc zero)) h = ap (λ (s : Registers). s.number) same
  byte-told (suc (suc (suc zero))) h = three-told
  byte-told (suc (suc (suc (suc b)))) h =
      let a = suc (suc (suc (suc b))) in
      elim (dec_lt a 12) [
        | yes i ↦ stored-told a (request-at a (omega arith) i)
        | no i ↦ elim (dec_lt a 16) [
          | yes j ↦ lateness-told a (omega arith) j
          | no j ↦ elim (dec_lt a 32) [
            | yes m ↦ spare-told a Held h (row-at a (omega arith) (omega arith) (omega arith) m) (λ v. refl)
            | no m ↦ elim (dec_lt a 252) [
              | yes n ↦ stored-told a (file-at a (omega arith) (omega arith) (omega arith) n)
              | no n ↦ spare-told a Nothing h (nothing-at a (omega arith) (omega arith) (omega arith)) (λ v. refl)
            ]
          ]
        ]
      ]

-- equal rows held are equal numbers
pub number-told : (numbers numbers' : List ℕ) → rows_held numbers ≡ rows_held numbers' → (k : ℕ) → k < 720 →
    get_or numbers k 0 ≡ get_or numbers' k 0
number-told numbers numbers' same k h =
    let e : k ≡ 4 * (k / 4) + k % 4 = omega arith in
    let i : k / 4 < 180 = omega arith in
    let q : k % 4 < 4 = omega arith in
    let row : row_at numbers (k / 4) ≡ row_at numbers' (k / 4) =
    sym (held_at numbers (k / 4) i) ∙ ap (λ (rows : List Row). get_or rows (k / 4) no_row) same ∙ held_at numbers' (k / 4) i in
    ap (λ (x : ℕ). get_or numbers x 0) e
    ∙ sym (row_number numbers (k / 4) (k % 4) q)
    ∙ ap (λ (r : Row). get_or (row_numbers r) (k % 4) 0) row
    ∙ row_number numbers' (k / 4) (k % 4) q
    ∙ ap (λ (x : ℕ). get_or numbers' x 0) (sym e)
