-- Numbers and their bytes: a number that was written is read back, and where a number lies in two lists one after the other.
use Rattle.std.specs.Prelude.{ℕ, ◌+◌, ◌-◌, ◌*◌, ◌/◌, ◌%◌, ◌<◌, ◌≡◌, List, ◌++◌, ℤ, pos, negsuc, length, get_or}
use Rattle.std.proofs.Common.{sym, ap, ◌∙◌, arith, lt-ltb, le-ltb, get_or-append-add}
use Rattle.std.proofs.Math.Nat.{div-div-eq-div-mul}
use Rattle.std.specs.Int.Signed.{mag}
use Rattle.order_file.specs.Bytes.{number4, number2, signed, pattern}

-- digit by digit
nested : (x : ℕ) → x < 4294967296 →
    x % 256 + 256 * (x / 256 % 256) + 65536 * (x / 256 / 256 % 256) + 16777216 * (x / 256 / 256 / 256 % 256) ≡ x
nested x h = omega arith

-- the bytes of a number make it up again
pub four_bytes : (x : ℕ) → x < 4294967296 →
    x % 256 + 256 * (x / 256 % 256) + 65536 * (x / 65536 % 256) + 16777216 * (x / 16777216 % 256) ≡ x
four_bytes x h =
    let e₂ : x / 65536 ≡ x / 256 / 256 = sym (div-div-eq-div-mul x 256 256) in
    let e₃ : x / 16777216 ≡ x / 256 / 256 / 256 = sym (div-div-eq-div-mul (x / 256) 256 256 ∙ div-div-eq-div-mul x 256 65536) in
    rw (e₂, e₃) (nested x h)

pub two_bytes : (x : ℕ) → x < 65536 → x % 256 + 256 * (x / 256 % 256) ≡ x
two_bytes x h = omega arith

-- past the first of two lists a number is one of the second
module _ (p r : List ℕ) (n k : ℕ) (e : length p ≡ n) where
  byte_past : (i : ℕ) → get_or (p ++ r) (n + k + i) 0 ≡ get_or r (k + i) 0
  byte_past i =
      let at : n + k + i ≡ length p + (k + i) = omega arith in
      rw at (get_or-append-add p r (k + i) 0)

  byte-past-first : get_or (p ++ r) (n + k) 0 ≡ get_or r k 0
  byte-past-first =
      let at : n + k ≡ length p + k = omega arith in
      rw at (get_or-append-add p r k 0)

  pub number4-past : number4 (p ++ r) (n + k) ≡ number4 r k
  number4-past = omega (arith, byte-past-first, byte_past 1, byte_past 2, byte_past 3)

  pub number2-past : number2 (p ++ r) (n + k) ≡ number2 r k
  number2-past = omega (arith, byte-past-first, byte_past 1)

-- two's complement: the pattern of a number of 32 bits is one, and stands for it
pub pattern-small : (z : ℤ) → mag z < 2147483648 → pattern z < 4294967296
pattern-small (pos n) h = omega arith
pattern-small (negsuc n) h = omega arith

pub signed-pattern : (z : ℤ) → mag z < 2147483648 → signed (pattern z) ≡ z
signed-pattern (pos n) h = rw (lt-ltb n 2147483648 h)
signed-pattern (negsuc n) h = rw (le-ltb (4294967295 - n) 2147483648 (omega arith)) (ap negsuc (omega arith))
