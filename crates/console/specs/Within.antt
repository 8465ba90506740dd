-- No more was read than there was room for.
use Rattle.std.specs.Prelude.{ℕ, ◌≤◌, ◌≡◌, Result, Ok, IfOk}
use Rattle.std.proofs.Common.{subst}

abbrev pub Within : {E : Type 0} → ℕ → Result ℕ E → Type 0
Within room r = IfOk r (λ n. n ≤ room)

pub within-room : {E : Type 0} {room : ℕ} {r : Result ℕ E} {n : ℕ} → Within room r → r ≡ Ok n → n ≤ room
within-room {room = room} h e = subst (Within room) e h
