-- Numbers as bytes: little-endian, and two's complement for the due time.
use Rattle.std.specs.Prelude.{ℕ, ◌+◌, ◌-◌, ◌*◌, ◌/◌, ◌%◌, cond, List, [], ◌∷◌, ltb, ℤ, pos, negsuc, get_or}

-- the number of four bytes, or of two, at a place
abbrev pub number4 : List ℕ → ℕ → ℕ
number4 f at = get_or f at 0 + 256 * get_or f (at + 1) 0 + 65536 * get_or f (at + 2) 0 + 16777216 * get_or f (at + 3) 0

abbrev pub number2 : List ℕ → ℕ → ℕ
number2 f at = get_or f at 0 + 256 * get_or f (at + 1) 0

-- the four bytes, or the two, of a number
abbrev pub bytes4 : ℕ → List ℕ
bytes4 x = x % 256 ∷ (x / 256 % 256) ∷ (x / 65536 % 256) ∷ (x / 16777216 % 256) ∷ []

abbrev pub bytes2 : ℕ → List ℕ
bytes2 x = x % 256 ∷ (x / 256 % 256) ∷ []

-- two's complement in 32 bits: from 2^31 on a pattern stands for itself less 2^32
abbrev pub signed : ℕ → ℤ
signed n = cond (ltb n 2147483648) (pos n) (negsuc (4294967295 - n))

-- and the pattern of a number
abbrev pub pattern : ℤ → ℕ
pattern (pos n) = n
pattern (negsuc n) = 4294967295 - n
