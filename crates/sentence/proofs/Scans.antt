-- A byte in a line, and a line, byte by byte.
use Rattle.std.proofs.Common.{ℕ, ◌+◌, ◌-◌, ◌≤◌, ◌<◌, ◌≡◌, refl, sym, ap, ◌∙◌, subst, Bool, List, length, get_or, drop, arith, add-one, lt-ltb, le-ltb, IfSome}
use Rattle.std.specs.declared.option.Option.{Option}
use Rattle.std.specs.declared.option.Option.TheVariants.{None, Some}
use lib.ListN.{drop_of_length-le}
use lib.Seq.{drop-cons}
use Rattle.sentence.specs.Scanning.{ended, other_byte, with_digit, stepped, scan_from}
use Rattle.sentence.specs.declared.Numbers.{Numbers}

-- the number under way has eight digits at most
abbrev pub Eight : Numbers → Type 0
Eight s = IfSome s.number (λ value. value < 100000000)

-- a byte that is no digit
none-under-way : (s : Numbers) (minus : Bool) (number : Option ℕ) → Eight (ended s minus number)
none-under-way s minus None = tt
none-under-way s minus (Some value) = tt

pub other-told : (s : Numbers) (b : ℕ) (r : Numbers) → stepped s b ≡ other_byte s b → r ≡ other_byte s b → (r ≡ stepped s b) × Eight r
other-told s b r e q = (q ∙ sym e, subst Eight (sym q) (none-under-way s _ s.number))

pub below-told : (s : Numbers) (b : ℕ) (r : Numbers) → b < 48 → r ≡ other_byte s b → (r ≡ stepped s b) × Eight r
unfolding stepped
below-told s b r h = other-told s b r (rw (lt-ltb b 48 h) refl)

pub above-told : (s : Numbers) (b : ℕ) (r : Numbers) → 57 < b → r ≡ other_byte s b → (r ≡ stepped s b) × Eight r
unfolding stepped
above-told s b r h = other-told s b r (rw (le-ltb b 48 (omega arith), lt-ltb 57 b h) refl)

-- a digit
pub digit-told : (s : Numbers) (b digit : ℕ) (r : Numbers) → 48 ≤ b → b ≤ 57 → digit ≡ b - 48 → r ≡ with_digit s digit →
    (r ≡ stepped s b) × Eight r
unfolding stepped
digit-told s b digit r l m d q = (
  q ∙ (ap (with_digit s) d ∙ sym (rw (le-ltb b 48 l, le-ltb 57 b m) refl)),
  subst Eight (sym q) (omega arith),
)

-- behind the last byte, and one byte on
pub scan-none : (s : Numbers) (line : List ℕ) (i : ℕ) → length line ≤ i → scan_from s (drop i line) ≡ s
unfolding scan_from
scan-none s line i h = rw (drop_of_length-le line {i = i} h) refl

pub scan_step : (s r : Numbers) (line : List ℕ) (i : ℕ) → r ≡ stepped s (get_or line i 0) → i < length line →
    scan_from r (drop (i + 1) line) ≡ scan_from s (drop i line)
unfolding scan_from
scan_step s r line i e h = rw (e, add-one, drop-cons line i 0 h) refl
