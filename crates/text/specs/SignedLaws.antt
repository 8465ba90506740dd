-- A whole number as text: its size, behind a minus sign where it is negative. The same of a number of 32 bits by its pattern: below
-- 2^31 it is the number, from there on a minus sign stands before what is left to 2^32.
use Rattle.std.specs.Prelude.{ℕ, suc, ◌+◌, ◌-◌, ◌≤◌, ◌<◌, ◌≡◌, refl, true, false, ◌++◌, ℤ, pos, negsuc, unsigned_abs, int_le}
use Rattle.std.proofs.Common.{sym, ap, ◌∙◌, arith, lt-ltb, le-ltb, le-leb, SFits}
use Rattle.std.proofs.Math.Bool.{true≢false}
use Rattle.std.proofs.Math.Decide.{dec_lt}
use Rattle.std.specs.Int.{w32}
use Rattle.order_file.specs.Bytes.{pattern, signed}
use Rattle.text.specs.Text.{ascii, decimal, signed_decimal, number, signed_number}

pub signed-positive : (z : ℤ) → int_le (pos 0) z ≡ true → number (unsigned_abs z) ≡ signed_number z
unfolding signed_decimal
signed-positive (pos k) h = refl
signed-positive (negsuc k) h = let z : ◌≡◌ {A = ℕ} 0 1 = cc in absurd (omega arith)

pub signed-negative : (z : ℤ) → int_le (pos 0) z ≡ false → ascii " -" ++ decimal (unsigned_abs z) ≡ signed_number z
unfolding signed_decimal
signed-negative (pos k) h = absurd (true≢false (sym (le-leb 0 k (omega arith)) ∙ h))
signed-negative (negsuc k) h = refl

-- by the pattern of 32 bits
pub pattern-positive : (z : ℤ) → SFits w32 z → (n : ℕ) → n ≡ pattern z → n < 2147483648 → number n ≡ signed_number z
unfolding signed_decimal
pattern-positive (pos k) f n e h = ap number e
pattern-positive (negsuc k) f n e h = absurd (omega (arith, f.sfits))

pub pattern-negative : (z : ℤ) → SFits w32 z → (n : ℕ) → n ≡ pattern z → 2147483648 ≤ n →
    ascii " -" ++ decimal (4294967295 - n + 1) ≡ signed_number z
unfolding signed_decimal
pattern-negative (pos k) f n e h = absurd (omega (arith, f.sfits))
pattern-negative (negsuc k) f n e h =
    let same : 4294967295 - n + 1 ≡ suc k = omega (arith, f.sfits) in
    ap (λ (m : ℕ). ascii " -" ++ decimal m) same

-- what a pattern of 32 bits stands for is such a number
pub signed-fits : (n : ℕ) → n < 4294967296 → SFits w32 (signed n)
signed-fits n h =
    elim (dec_lt n 2147483648) [
      | yes l ↦ rw (lt-ltb n 2147483648 l) (record { sfits = l })
      | no l ↦ rw (le-ltb n 2147483648 (omega arith)) (record { sfits = omega arith })
    ]
