-- The addresses in ranges, as `place_of` tells them.
use Rattle.std.specs.Prelude.{ℕ, zero, suc, ◌≤◌, ◌<◌, ◌≡◌, refl, false, eqb}
use Rattle.std.proofs.Common.{sym, ap, ◌∙◌, arith, le-leb, ne_eqb}
use Rattle.std.proofs.Math.Decide.{dec_lt}
use Rattle.std.proofs.lemmas.Bool.{lt-leb}
use Rattle.registers.specs.Registers.{place_of}
use Rattle.registers.specs.declared.Place.{Place}
use Rattle.registers.specs.declared.Place.TheVariants.{Command, Flag, Number, Allow, Stored, Lateness, Held, Nothing}

-- none of the first four
pub from-four : (a : ℕ) → (a ≡ 0 → ⊥) → (a ≡ 1 → ⊥) → (a ≡ 2 → ⊥) → (a ≡ 3 → ⊥) → 4 ≤ a
from-four zero p q r s = absurd (p refl)
from-four (suc zero) p q r s = absurd (q refl)
from-four (suc (suc zero)) p q r s = absurd (r refl)
from-four (suc (suc (suc zero))) p q r s = absurd (s refl)
from-four (suc (suc (suc (suc a)))) p q r s = omega arith

module _ (a : ℕ) (h : 4 ≤ a) where
  pub request-at : a < 12 → place_of a ≡ Stored
  request-at l =
      rw (
        lt-leb a 0 (omega arith),
        lt-leb a 1 (omega arith),
        lt-leb a 2 (omega arith),
        lt-leb a 3 (omega arith),
        le-leb a 11 (omega arith),
      ) refl

  module _ (i : 12 ≤ a) where
    pub lateness-at : a < 16 → place_of a ≡ Lateness
    lateness-at l =
        rw (
          lt-leb a 0 (omega arith),
          lt-leb a 1 (omega arith),
          lt-leb a 2 (omega arith),
          lt-leb a 3 (omega arith),
          lt-leb a 11 (omega arith),
          le-leb a 15 (omega arith),
        ) refl

    pub row-at : 16 ≤ a → a < 32 → place_of a ≡ Held
    row-at j l =
        rw (
          lt-leb a 0 (omega arith),
          lt-leb a 1 (omega arith),
          lt-leb a 2 (omega arith),
          lt-leb a 3 (omega arith),
          lt-leb a 11 (omega arith),
          lt-leb a 15 (omega arith),
          le-leb a 31 (omega arith),
        ) refl

    pub file-at : 32 ≤ a → a < 252 → place_of a ≡ Stored
    file-at j l =
        rw (
          lt-leb a 0 (omega arith),
          lt-leb a 1 (omega arith),
          lt-leb a 2 (omega arith),
          lt-leb a 3 (omega arith),
          lt-leb a 11 (omega arith),
          lt-leb a 15 (omega arith),
          lt-leb a 31 (omega arith),
          le-leb a 251 (omega arith),
        ) refl

    pub nothing-at : 252 ≤ a → place_of a ≡ Nothing
    nothing-at j =
        rw (
          lt-leb a 0 (omega arith),
          lt-leb a 1 (omega arith),
          lt-leb a 2 (omega arith),
          lt-leb a 3 (omega arith),
          lt-leb a 11 (omega arith),
          lt-leb a 15 (omega arith),
          lt-leb a 31 (omega arith),
          lt-leb a 251 (omega arith),
        ) refl

-- and back: the two ranges from whose addresses something is subtracted
abbrev pub kind : Place → ℕ
kind Command = 0
kind Flag = 1
kind Number = 2
kind Allow = 3
kind Stored = 4
kind Lateness = 5
kind Held = 6
kind Nothing = 7

low-kind : (a : ℕ) → a < 12 → kind (place_of a) ≤ 4
low-kind zero h = omega arith
low-kind (suc zero) h = omega arith
low-kind (suc (suc zero)) h = omega arith
low-kind (suc (suc (suc zero))) h = omega arith
low-kind (suc (suc (suc (suc a)))) h =
    let e = ap kind (request-at (suc (suc (suc (suc a)))) (omega arith) h) in omega (arith, e)

high-kind : (a : ℕ) → 12 ≤ a → 1 ≤ kind (place_of a)
high-kind a h = elim (dec_lt a 16) [
  | yes l ↦ omega (arith, ap kind (lateness-at a (omega arith) h l))
  | no l ↦ elim (dec_lt a 32) [
    | yes m ↦ omega (arith, ap kind (row-at a (omega arith) h (omega arith) m))
    | no m ↦ elim (dec_lt a 252) [
      | yes n ↦ omega (arith, ap kind (file-at a (omega arith) h (omega arith) n))
      | no n ↦ omega (arith, ap kind (nothing-at a (omega arith) h (omega arith)))
    ]
  ]
]

pub lateness-from : (a : ℕ) → place_of a ≡ Lateness → 12 ≤ a
lateness-from a e = elim (dec_lt a 12) [
  | yes h ↦ absurd (omega (arith, low-kind a h, ap kind e))
  | no h ↦ omega arith
]

pub row_from : (a : ℕ) → place_of a ≡ Held → 16 ≤ a
row_from a e = elim (dec_lt a 12) [
  | yes h ↦ absurd (omega (arith, low-kind a h, ap kind e))
  | no h ↦ elim (dec_lt a 16) [
    | yes l ↦ absurd (omega (arith, ap kind (sym (lateness-at a (omega arith) (omega arith) l) ∙ e)))
    | no l ↦ omega arith
  ]
]

pub row_below : (a : ℕ) → place_of a ≡ Held → a < 32
row_below a e = elim (dec_lt a 32) [
  | yes h ↦ h
  | no h ↦ elim (dec_lt a 252) [
    | yes l ↦ absurd (omega (arith, ap kind (sym (file-at a (omega arith) (omega arith) (omega arith) l) ∙ e)))
    | no l ↦ absurd (omega (arith, ap kind (sym (nothing-at a (omega arith) (omega arith) (omega arith)) ∙ e)))
  ]
]

-- only address 0 takes a command
pub zero-from : (a : ℕ) → place_of a ≡ Command → a ≡ 0
zero-from a e = elim (dec_lt a 12) [
  | yes h ↦ low a h (ap kind e)
  | no h ↦ absurd (omega (arith, high-kind a (omega arith), ap kind e))
]
  where
    low : (a : ℕ) → a < 12 → kind (place_of a) ≡ 0 → a ≡ 0
    low zero h e = refl
    low (suc zero) h e = absurd (omega arith)
    low (suc (suc zero)) h e = absurd (omega arith)
    low (suc (suc (suc zero))) h e = absurd (omega arith)
    low (suc (suc (suc (suc a)))) h e =
        absurd (omega (arith, e, ap kind (request-at (suc (suc (suc (suc a)))) (omega arith) h)))

pub not-zero : (a : ℕ) (p : Place) → place_of a ≡ p → 1 ≤ kind p → eqb a 0 ≡ false
not-zero zero p e h = absurd (omega (arith, ap kind e))
not-zero (suc a) p e h = ne_eqb (suc a) 0 (λ z. omega arith)
