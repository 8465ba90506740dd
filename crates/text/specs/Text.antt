-- Words and numbers as text in ASCII, and text put into a buffer.
use Rattle.std.specs.Prelude.{ℕ, zero, suc, ◌+◌, ◌/◌, ◌%◌, ◌≤◌, ◌≡◌, cond, List, [], ◌∷◌, ◌++◌, ltb, ℤ, pos, negsuc, length, take, drop}
use Prim.Native.Char.{code}
use Prim.Native.String.{String}
use Prim.Native.String as S

-- the bytes of a text
abbrev pub ascii : String → List ℕ
ascii S.[] = []
ascii (S.◌∷◌ c s) = code c ∷ ascii s

-- "every line, the last too, ends in one line feed"
abbrev pub line_end : List ℕ
line_end = 10 ∷ []

-- a number in base ten: its last digit, behind what is left of it without that digit where something is left
unfoldable pub digits_within : ℕ → ℕ → List ℕ
digits_within zero n = []
digits_within (suc most) n =
    cond (ltb n 10) ((48 + n) ∷ []) (digits_within most (n / 10) ++ ((48 + n % 10) ∷ []))

-- no number has more digits than one more than itself
unfoldable pub decimal : ℕ → List ℕ
decimal n = digits_within (suc n) n

-- a minus sign before a negative number
unfoldable pub signed_decimal : ℤ → List ℕ
signed_decimal (pos n) = decimal n
signed_decimal (negsuc n) = ascii "-" ++ decimal (suc n)

-- behind a space
abbrev pub number : ℕ → List ℕ
number n = ascii " " ++ decimal n

abbrev pub signed_number : ℤ → List ℕ
signed_number z = ascii " " ++ signed_decimal z

-- text put into a buffer at a place: nothing else is changed, and the next place is behind it
pub record Put (buffer : List ℕ) (at : ℕ) (text after : List ℕ) (next : ℕ) : Type 0 where
  pub after_is : after ≡ take at buffer ++ (text ++ drop (at + length text) buffer)
  pub next-is : next ≡ at + length text
  pub fits : at + length text ≤ length buffer
  pub same_length : length after ≡ length buffer
