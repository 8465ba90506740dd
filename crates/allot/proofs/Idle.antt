-- The idle job's time is stored behind those of the others.
use Prim.Native.Nat.{ℕ, suc, ◌+◌}
use mathlib.Core.Path.{◌≡◌, ap, ◌∙◌}
use mathlib.Core.List.{List}
use native.Mathlib.Numerals.{add-one}
use Rattle.allot.specs.Tables.{Rows, Times}
use Rattle.allot.proofs.Shares.{lasts}

-- the idle job's time as the code adds it up
pub idle-read : (last : ℕ) {times room ys : List ℕ} {n q idle m : ℕ} {f : ℕ → ℕ → ℕ} → Rows room q m f → Times n times idle ys →
    idle ≡ lasts room (last + 1) q → Times n times (lasts room (suc last) q) ys
idle-read last {times} {room} {ys} {n} {q} {idle} {m} {f} R T e =
    record {
      each = T.each;
      idle-is = T.idle-is ∙ e ∙ ap (λ (m : ℕ). lasts room m q) (add-one last);
    }
