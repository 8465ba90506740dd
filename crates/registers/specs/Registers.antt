-- Document 02, §11: the 256 bytes by which the planner is reached over a bus. Each thing that the request names is a field; what is read
-- at an address, what a write there does and what each command does stand under its sentences.
use Rattle.std.specs.Prelude.{ℕ, ◌+◌, ◌-◌, ◌*◌, ◌/◌, ◌%◌, ◌≡◌, Bool, true, false, cond, not, ◌&&◌, ◌||◌, List, [], ◌∷◌, ◌++◌, leb, ltb, eqb, ℤ, pos, get_or}
use Rattle.sums.specs.Lists.{tabulate, nth}
use Rattle.order.specs.Order.{Order}
use Rattle.order.specs.Refusals.{screen, TableRow, Verdict, accepted, refused, row, whole, judge, order_rows, bound_row, tight_row, file_row}
use Rattle.order_file.specs.Bytes.{number4, number2, bytes4, signed, pattern}
use Rattle.order_file.specs.File.{good_file, order_in}
use Rattle.plan.specs.Plan.{Row}
use Rattle.profile.specs.Least.{least_lateness}
use Rattle.profile.specs.Search.{reason_of}
use Rattle.planner.specs.Rows.{is_found}
use Rattle.planner.specs.Written.{PlanOf}
use Rattle.registers.specs.declared.Place.{Place}
use Rattle.registers.specs.declared.Place.TheVariants.{Command, Flag, Number, Allow, Stored, Lateness, Held, Nothing}

pub record Registers : Type 0 where
  -- "Byte 1 holds flags: bit 0 done, bit 1 refused, bit 2 interrupt"
  pub done : Bool
  pub refused : Bool
  pub interrupt : Bool
  -- "byte 3 bit 0 allows the interrupt"
  pub allowed : Bool
  -- "Byte 2 is the refusal number"
  pub number : ℕ
  -- bytes "12 to 15 the lateness used (0 after a refusal)"
  pub lateness : ℤ
  -- what is written to bytes 4 to 11 and 32 to 251, by its address; 0 at every other address
  pub stored : ℕ → ℕ
  -- "the rows held"
  pub rows : List Row

-- what the byte at an address is
abbrev pub place_of : ℕ → Place
place_of a =
    cond (leb a 0) Command
    (cond (leb a 1) Flag
    (cond (leb a 2) Number
    (cond (leb a 3) Allow
    (cond (leb a 11) Stored
    (cond (leb a 15) Lateness
    (cond (leb a 31) Held
    (cond (leb a 251) Stored Nothing)))))))

-- bit 0 of a number; a bit as a number
abbrev pub is_set : ℕ → Bool
is_set n = eqb (n % 2) 1

abbrev pub bit : Bool → ℕ
bit on = cond on 1 0

-- "Bytes 4 to 7 are the bound, 8 and 9 the file length, 10 and 11 a row number from 1, .. 32 to 251 the order file", "numbers are
-- little-endian"
abbrev pub stored_from : Registers → (address count : ℕ) → List ℕ
stored_from s address count = tabulate count (λ i. s.stored (address + i))

abbrev pub bound_of : Registers → ℤ
bound_of s = signed (number4 (stored_from s 4 4) 0)

abbrev pub length_of : Registers → ℕ
length_of s = number2 (stored_from s 8 2) 0

abbrev pub row_of : Registers → ℕ
row_of s = number2 (stored_from s 10 2) 0

abbrev pub file_in : Registers → List ℕ
file_in s = stored_from s 32 (length_of s)

abbrev pub stored_order : Registers → Order
stored_order s = order_in (file_in s)

-- "16 to 31 that row or zeros"
abbrev pub no_row : Row
no_row = record { job = 0; processor = 0; from = 0; to = 0 }

abbrev pub row_numbers : Row → List ℕ
row_numbers r = r.job ∷ r.processor ∷ r.from ∷ r.to ∷ []

abbrev pub bytes_of : List ℕ → List ℕ
bytes_of [] = []
bytes_of (n ∷ numbers) = bytes4 n ++ bytes_of numbers

-- what is read: "Byte 0, bytes 252 to 255 and unnamed bits read 0"
abbrev pub read_by : Place → Registers → ℕ → ℕ
read_by Command s a = 0
read_by Flag s a = bit s.done + 2 * bit s.refused + 4 * bit s.interrupt
read_by Number s a = s.number
read_by Allow s a = bit s.allowed
read_by Stored s a = s.stored a
read_by Lateness s a = get_or (bytes4 (pattern s.lateness)) (a - 12) 0
read_by Held s a = get_or (bytes_of (row_numbers (nth s.rows (row_of s) no_row))) (a - 16) 0
read_by Nothing s a = 0

abbrev pub read_at : Registers → ℕ → ℕ
read_at s a = read_by (place_of a) s a

-- "Clear makes all bytes 0."
abbrev pub all_zero : Registers
all_zero = record {
  done = false;
  refused = false;
  interrupt = false;
  allowed = false;
  number = 0;
  lateness = pos 0;
  stored = λ a. 0;
  rows = [];
}

-- "Every command first clears bits 0 and 1, bytes 2 and 12 to 15 and the rows held"
abbrev pub begun : Registers → Registers
begun s = record {
  done = false;
  refused = false;
  interrupt = s.interrupt;
  allowed = s.allowed;
  number = 0;
  lateness = pos 0;
  stored = s.stored;
  rows = [];
}

-- "Finished or refused, a command but 3 sets its flag, and bit 2 if allowed."
abbrev pub finished_with : ℤ → List Row → Registers → Registers
finished_with lateness plan s = record {
  done = true;
  refused = s.refused;
  interrupt = s.interrupt || s.allowed;
  allowed = s.allowed;
  number = s.number;
  lateness = lateness;
  stored = s.stored;
  rows = plan;
}

abbrev pub refused_with : ℕ → Registers → Registers
refused_with number s = record {
  done = s.done;
  refused = true;
  interrupt = s.interrupt || s.allowed;
  allowed = s.allowed;
  number = number;
  lateness = s.lateness;
  stored = s.stored;
  rows = s.rows;
}

-- "the order file at the screen's limits, judged as a screen order. A file length over 220 gives 12": before all. 9 is not among the
-- rows: the rows of every screen's order are held.
abbrev pub length_row : Registers → TableRow
length_row s = row 12 (whole (ltb 220 (length_of s)))

unfoldable pub least_table : Registers → List TableRow
least_table s = length_row s ∷ file_row (good_file (file_in s)) ∷ order_rows screen (stored_order s)

unfoldable pub bound_table : Registers → List TableRow
bound_table s = least_table s ++ (bound_row (bound_of s) ∷ tight_row (is_found (reason_of (stored_order s) (bound_of s))) ∷ [])

-- a plan of the order at this lateness was made
pub record Finished (s : Registers) (o : Order) (lateness : ℤ) (s' : Registers) : Type 0 where
  pub plan : List Row
  pub plan-of : PlanOf o lateness plan
  pub leaves : s' ≡ finished_with lateness plan (begun s)

-- what a command that plans leaves, by what its table answers
abbrev pub PlannedBy : Verdict → Registers → Order → ℤ → Registers → Type 0
PlannedBy accepted s o lateness s' = Finished s o lateness s'
PlannedBy (refused number carried) s o lateness s' = s' ≡ refused_with number (begun s)

-- "Byte 0 takes a command: 1 plan at the bound, 2 plan at least lateness, 3 clear; others set refused with number 0."
pub data Task : Type 0 where
  at_bound : Task
  at_least : Task
  clears : Task
  unknown : Task

abbrev pub task_of : ℕ → Task
task_of c = cond (eqb c 1) at_bound (cond (eqb c 2) at_least (cond (eqb c 3) clears unknown))

abbrev pub CommandedBy : Task → Registers → Registers → Type 0
CommandedBy at_bound s s' = PlannedBy (judge (bound_table s)) s (stored_order s) (bound_of s) s'
CommandedBy at_least s s' = PlannedBy (judge (least_table s)) s (stored_order s) (least_lateness (stored_order s)) s'
CommandedBy clears s s' = s' ≡ all_zero
CommandedBy unknown s s' = s' ≡ refused_with 0 (begun s)

-- "writing a 1 clears that bit"
abbrev pub acknowledged : ℕ → Registers → Registers
acknowledged v s = record {
  done = s.done && not (is_set v);
  refused = s.refused && not (is_set (v / 2));
  interrupt = s.interrupt && not (is_set (v / 4));
  allowed = s.allowed;
  number = s.number;
  lateness = s.lateness;
  stored = s.stored;
  rows = s.rows;
}

abbrev pub allowing : ℕ → Registers → Registers
allowing v s = record {
  done = s.done;
  refused = s.refused;
  interrupt = s.interrupt;
  allowed = is_set v;
  number = s.number;
  lateness = s.lateness;
  stored = s.stored;
  rows = s.rows;
}

abbrev pub storing : (address v : ℕ) → Registers → Registers
storing address v s = record {
  done = s.done;
  refused = s.refused;
  interrupt = s.interrupt;
  allowed = s.allowed;
  number = s.number;
  lateness = s.lateness;
  stored = λ a. cond (eqb a address) v (s.stored a);
  rows = s.rows;
}

-- a write of v at address a leads from s to s': "Writes to bytes 2, 12 to 31 and 252 to 255 do nothing."
abbrev pub WroteBy : Place → Registers → (a v : ℕ) → Registers → Type 0
WroteBy Command s a v s' = CommandedBy (task_of v) s s'
WroteBy Flag s a v s' = s' ≡ acknowledged v s
WroteBy Number s a v s' = s' ≡ s
WroteBy Allow s a v s' = s' ≡ allowing v s
WroteBy Stored s a v s' = s' ≡ storing a v s
WroteBy Lateness s a v s' = s' ≡ s
WroteBy Held s a v s' = s' ≡ s
WroteBy Nothing s a v s' = s' ≡ s

abbrev pub Wrote : Registers → (a v : ℕ) → Registers → Type 0
Wrote s a v s' = WroteBy (place_of a) s a v s'
