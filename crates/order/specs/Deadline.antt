-- A job's deadline: its end, cut off at minute 0. Rows and times are at least one minute long, so that nothing is lost.
use Rattle.std.specs.Prelude.{ℕ, ◌≤◌, ◌≡◌, refl, leb, ℤ, pos, negsuc}
use Rattle.std.proofs.Common.{sym, arith}
use Rattle.std.specs.Int.Signed.{le_z}
use Rattle.std.proofs.lemmas.Bool.{lt-leb}
use Rattle.order.specs.Order.{Job, end_of}

-- a whole number, 0 where it is negative
abbrev pub cut : ℤ → ℕ
cut (pos n) = n
cut (negsuc n) = 0

unfoldable pub deadline_of : ℤ → Job → ℕ
deadline_of bound job = cut (end_of bound job)

-- from 1 on, a number is at most z exactly if it is at most z cut off
pub cut-le : (z : ℤ) (n : ℕ) → 1 ≤ n → le_z (pos n) z ≡ leb n (cut z)
cut-le (pos k) n h = refl
cut-le (negsuc k) n h = sym (lt-leb n 0 (omega arith))
