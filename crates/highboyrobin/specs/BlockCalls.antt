-- The calls of the register block (document 02, §11): the block is lent as 256 bytes and 720 numbers, the rows held. A refused command is a
-- call that succeeds: bytes 1 and 2 tell of it.
use Rattle.std.specs.Prelude.{ℕ, ◌≡◌, List, [], ◌∷◌, ℤ, pos}
use Rattle.order.specs.Refusals.{TableRow, Verdict, accepted, refused}
use Rattle.registers.specs.Registers.{read_at}
use Rattle.registers.specs.Memory.{registers_of, WroteIn}
use Rattle.highboyrobin.specs.Results.{answer_row, short_list_row}

-- hbr_block_clear and hbr_block_write: the lent lists are long enough
abbrev pub block_call : (bytes numbers : ℕ) → List TableRow
block_call bytes numbers = short_list_row bytes 256 ∷ short_list_row numbers 720 ∷ []

-- hbr_block_read
abbrev pub block_read_call : (bytes numbers answer : ℕ) → List TableRow
block_read_call bytes numbers answer = answer_row answer 1 ∷ block_call bytes numbers

abbrev pub byte_read : (bytes numbers : List ℕ) → ℕ → List ℤ
byte_read bytes numbers address = pos (read_at (registers_of bytes numbers) address) ∷ []

-- the lent memory at exit: a call whose lists are too short touches nothing
abbrev pub BlockBy : Verdict → (a v : ℕ) → (bytes numbers bytes' numbers' : List ℕ) → Type 0
BlockBy accepted a v bytes numbers bytes' numbers' = WroteIn a v bytes numbers bytes' numbers'
BlockBy (refused number carried) a v bytes numbers bytes' numbers' = (bytes' ≡ bytes) × (numbers' ≡ numbers)
