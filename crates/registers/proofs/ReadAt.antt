-- What is read, by the place of its address.
use Prim.Native.Nat.{ℕ, ◌-◌, ◌/◌, ◌%◌, ◌<◌}
use mathlib.Core.Path.{◌≡◌, sym, ap, ◌∙◌}
use mathlib.Core.List.{List}
use lib.ListN.{get_or}
use Rattle.sums.specs.Lists.{nth}
use Rattle.order_file.specs.Bytes.{number4, number2, bytes4, signed, pattern}
use Rattle.registers.specs.Registers.{Registers, place_of, no_row, row_numbers, bytes_of, read_by, read_at}
use Rattle.registers.specs.Memory.{stored_by, rows_held, registers_of}
use Rattle.registers.specs.MemoryLaws.{bit-set, flag-byte, pattern-signed}
use Rattle.registers.specs.HeldLaws.{number-byte}
use Rattle.registers.specs.declared.Place.{Place}
use Rattle.registers.specs.declared.Place.TheVariants.{Flag, Allow, Stored, Lateness, Held}

module _ (bytes numbers : List ℕ) (a : ℕ) (p : Place) (e : p ≡ place_of a) where
  abbrev s : Registers
  s = registers_of bytes numbers

  -- the place is this one
  pub read_as : (q : Place) → p ≡ q → (v : ℕ) → v ≡ read_by q s a → v ≡ read_at s a
  read_as q is v h = h ∙ ap (λ (q : Place). read_by q s a) (sym is ∙ e)

  pub flags-read : p ≡ Flag → get_or bytes 1 0 % 8 ≡ read_at s a
  flags-read is = read_as Flag is _ (flag-byte (get_or bytes 1 0))

  pub allowed-read : p ≡ Allow → get_or bytes 3 0 % 2 ≡ read_at s a
  allowed-read is = read_as Allow is _ (sym (bit-set (get_or bytes 3 0)))

  pub stored-read : p ≡ Stored → get_or bytes a 0 ≡ read_at s a
  stored-read is = read_as Stored is _ (ap (λ (q : Place). stored_by q (get_or bytes a 0)) (sym is ∙ e))

  pub lateness-read : p ≡ Lateness → (n : ℕ) → n ≡ number4 bytes 12 → n < 4294967296 → (v : ℕ) → v ≡ get_or (bytes4 n) (a - 12) 0 →
      v ≡ read_at s a
  lateness-read is n number small v h =
      read_as Lateness is v
      (h ∙ ap (λ (k : ℕ). get_or (bytes4 k) (a - 12) 0)
      (sym (pattern-signed n small) ∙ ap (λ (k : ℕ). pattern (signed k)) number))

  pub row_read : p ≡ Held → (row n v : ℕ) → row ≡ number2 bytes 10 →
      n ≡ get_or (row_numbers (nth (rows_held numbers) row no_row)) ((a - 16) / 4) 0 → v ≡ get_or (bytes4 n) ((a - 16) % 4) 0 → v ≡ read_at s a
  row_read is row n v r m h =
      read_as Held is v
      (h
      ∙ ap (λ (k : ℕ). get_or (bytes4 k) ((a - 16) % 4) 0) m
      ∙ sym (number-byte (row_numbers (nth (rows_held numbers) row no_row)) (a - 16))
      ∙ ap (λ (k : ℕ). get_or (bytes_of (row_numbers (nth (rows_held numbers) k no_row))) (a - 16) 0) r)
