-- How the registers lie in 256 bytes and 720 numbers. Any memory stands for some registers; what it holds beside them is named too, and
-- both together say of every byte and every number what it is after a write.
use Rattle.std.specs.Prelude.{ℕ, ◌+◌, ◌*◌, ◌/◌, ◌%◌, ◌≤◌, ◌≡◌, Bool, cond, ◌&&◌, List, [], ◌∷◌, ◌++◌, leb, eqb, ℤ, length, get_or, set, drop}
use Rattle.sums.specs.Lists.{tabulate}
use Rattle.order.specs.Order.{Order}
use Rattle.order.specs.Refusals.{Verdict, accepted, refused}
use Rattle.order_file.specs.Bytes.{number4, signed}
use Rattle.plan.specs.Plan.{Row}
use Rattle.plan.specs.Check.{numbers_of, row_at}
use Rattle.planner.specs.Written.{PlanOf}
use Rattle.registers.specs.Registers.{Registers, place_of, is_set, bit, finished_with, refused_with, Wrote}
use Rattle.registers.specs.declared.Flags.{Flags}
use Rattle.std.specs.Prelude.{Result, Ok, Err}
use Rattle.registers.specs.declared.Place.{Place}
use Rattle.registers.specs.declared.Place.TheVariants.{Command, Flag, Number, Allow, Stored, Lateness, Held, Nothing}

-- a row of zeros
abbrev pub is_no_row : Row → Bool
is_no_row r = eqb r.job 0 && (eqb r.processor 0 && (eqb r.from 0 && eqb r.to 0))

-- rows without the rows of zeros at their end
abbrev pub trim : Row → List Row → List Row
trim r [] = cond (is_no_row r) [] (r ∷ [])
trim r (s ∷ rows) = r ∷ s ∷ rows

unfoldable pub trimmed : List Row → List Row
trimmed [] = []
trimmed (r ∷ rows) = trim r (trimmed rows)

-- the rows held: 180 at most, four numbers to a row
unfoldable pub rows_held : List ℕ → List Row
rows_held numbers = trimmed (tabulate 180 (row_at numbers))

-- what is stored at an address
abbrev pub stored_by : Place → ℕ → ℕ
stored_by Command v = 0
stored_by Flag v = 0
stored_by Number v = 0
stored_by Allow v = 0
stored_by Stored v = v
stored_by Lateness v = 0
stored_by Held v = 0
stored_by Nothing v = 0

-- bytes, beside which these rows are held: each register lies in the byte of its address
abbrev pub block_of : List ℕ → List Row → Registers
block_of bytes held = record {
  done = is_set (get_or bytes 1 0);
  refused = is_set (get_or bytes 1 0 / 2);
  interrupt = is_set (get_or bytes 1 0 / 4);
  allowed = is_set (get_or bytes 3 0);
  number = get_or bytes 2 0;
  lateness = signed (number4 bytes 12);
  stored = λ a. stored_by (place_of a) (get_or bytes a 0);
  rows = held;
}

abbrev pub registers_of : (bytes numbers : List ℕ) → Registers
registers_of bytes numbers = block_of bytes (rows_held numbers)

-- the bytes alone, no row being held
abbrev pub bytes_alone : List ℕ → Registers
bytes_alone bytes = block_of bytes []

-- what 256 bytes hold beside the registers: the bytes and the bits that have none
abbrev pub spare_by : Place → ℕ → ℕ
spare_by Command v = v
spare_by Flag v = v / 8
spare_by Number v = 0
spare_by Allow v = v / 2
spare_by Stored v = 0
spare_by Lateness v = 0
spare_by Held v = v
spare_by Nothing v = v

abbrev pub spare_of : List ℕ → ℕ → ℕ
spare_of bytes a = cond (leb a 255) (spare_by (place_of a) (get_or bytes a 0)) 0

-- it stays, and is 0 after clear
abbrev pub spare_after : (a v : ℕ) → (ℕ → ℕ) → ℕ → ℕ
spare_after a v spare k = cond (eqb a 0 && eqb v 3) 0 (spare k)

-- a write of v at address a to lent memory
pub record WroteIn (a v : ℕ) (bytes numbers bytes' numbers' : List ℕ) : Type 0 where
  pub wrote : Wrote (registers_of bytes numbers) a v (registers_of bytes' numbers')
  pub spare : (k : ℕ) → spare_of bytes' k ≡ spare_after a v (spare_of bytes) k
  pub beyond-bytes : drop 256 bytes' ≡ drop 256 bytes
  pub beyond-numbers : drop 720 numbers' ≡ drop 720 numbers

-- The rest is of this crate's own functions. Bytes whose registers became f of what they were, whatever rows are held, and nothing else.
pub record Moved (f : Registers → Registers) (bytes bytes' : List ℕ) : Type 0 where
  pub block : (held : List Row) → block_of bytes' (f (block_of bytes held)).rows ≡ f (block_of bytes held)
  pub spare : (k : ℕ) → spare_of bytes' k ≡ spare_of bytes k
  pub beyond : drop 256 bytes' ≡ drop 256 bytes

-- the flags of byte 1, and byte 1 with other flags; byte 3 with another bit
abbrev pub flags_in : ℕ → Flags
flags_in byte = record { done = is_set byte; refused = is_set (byte / 2); interrupt = is_set (byte / 4) }

abbrev pub with_flags : ℕ → Flags → ℕ
with_flags byte flags = byte / 8 * 8 + bit flags.done + 2 * bit flags.refused + 4 * bit flags.interrupt

abbrev pub with_allowed : ℕ → ℕ → ℕ
with_allowed byte written = byte / 2 * 2 + written % 2

-- bytes 12 to 15 stored
abbrev pub lateness_put : List ℕ → ℕ → List ℕ
lateness_put bytes n =
    set (set (set (set bytes 12 (n % 256)) 13 (n / 256 % 256)) 14 (n / 65536 % 256)) 15 (n / 16777216 % 256)

-- how a command ended: the plan is in the lent numbers, and they were zeros; or they are as they were
pub record Laid (o : Order) (lateness : ℤ) (numbers numbers' : List ℕ) (outcome : Result ℤ ℕ) : Type 0 where
  pub plan : List Row
  pub plan-of : PlanOf o lateness plan
  pub few : length plan ≤ 180
  pub rows_are : numbers' ≡ numbers_of plan ++ drop (4 * length plan) numbers
  pub told : outcome ≡ Ok lateness

abbrev pub OutcomeBy : Verdict → Order → ℤ → (numbers numbers' : List ℕ) → Result ℤ ℕ → Type 0
OutcomeBy accepted o lateness numbers numbers' outcome = Laid o lateness numbers numbers' outcome
OutcomeBy (refused number carried) o lateness numbers numbers' outcome = (outcome ≡ Err number) × (numbers' ≡ numbers)

abbrev pub finished_at : ℤ → Registers → Registers
finished_at lateness s = finished_with lateness s.rows s

abbrev pub concluded : Result ℤ ℕ → Registers → Registers
concluded (Ok lateness) s = finished_at lateness s
concluded (Err number) s = refused_with number s
