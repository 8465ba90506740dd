-- Signed numbers of 32 bits as the machine reads them back.
use Rattle.std.specs.Prelude.{ℕ, ◌<◌, ◌≡◌, ℤ, pos}
use Rattle.std.specs.Int.Signed.{mag}
use Rattle.std.proofs.Common.{to_z, of_z}
use Rattle.std.proofs.lemmas.Int.{to_z_pos, to_z-of_z}
use Rattle.std.specs.Int.{w32}

pub machine-back : (z : ℤ) → mag z < 2147483648 → to_z w32 (of_z w32 z) ≡ z
machine-back z h = to_z-of_z w32 z (record { sfits = h })

-- a number below 2^31 stands for itself
pub machine-low : (n : ℕ) → n < 2147483648 → to_z w32 n ≡ pos n
machine-low n h = to_z_pos w32 n h
