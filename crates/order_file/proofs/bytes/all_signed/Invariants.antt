-- the first i patterns are signed numbers
use Rattle.std.proofs.Common.{ℕ, ◌≡◌, ◌<◌, length, get_or, pos}
use Rattle.order_file.specs.Bytes.{signed}
use Rattle.order_file.proofs.bytes.all_signed.Given as goal

abbrev pub invariant-loop-i : goal.invariant-loop-i
invariant-loop-i l = (length l.out ≡ 48) × ((k : ℕ) → k < l.i → get_or l.out k (pos 0) ≡ signed (get_or l.raw k 0))
