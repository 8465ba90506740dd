use Rattle.std.proofs.Common.{ℕ, ◌-◌, ◌<◌, ◌≡◌, length, get_or}
use Rattle.table.specs.Held.{beside}
use Rattle.table.proofs.places.by_number.Given as goal

-- the values passed stand at their numbers
abbrev pub invariant-loop-number : goal.invariant-loop-number
invariant-loop-number l =
    (length l.r ≡ 48) × ((i : ℕ) → i < length l.yielded → get_or l.r (beside l.fn.numbers i - 1) 0 ≡ get_or l.fn.values i 0)
