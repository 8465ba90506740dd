-- The numbers in a line, byte by byte, and the reason that they would be of: the first number is a job's, the second, fourth, .. are due
-- times. What a line reads back to does not rest on this: the reason is only tried.
use Rattle.std.specs.Prelude.{ℕ, ◌+◌, ◌-◌, ◌*◌, ◌/◌, ◌%◌, Bool, true, false, cond, List, [], ◌∷◌, ltb, eqb, ℤ, pos, neg_ℤ, get_or, set}
use Rattle.std.specs.declared.option.Option.{Option}
use Rattle.std.specs.declared.option.Option.TheVariants.{None, Some}
use Rattle.order.specs.Order.{Order}
use Rattle.profile.specs.Reason.{over_end}
use Rattle.profile.specs.Search.{found}
use Rattle.reason.specs.Told.{sixteen, why_of}
use Rattle.reason.specs.declared.Reason.TheVariants.{Stairs}
use Rattle.reason.specs.declared.Why.{Why}
use Rattle.sentence.specs.declared.Numbers.{Numbers}

abbrev pub signed_of : Bool → ℕ → ℤ
signed_of true n = neg_ℤ (pos n)
signed_of false n = pos n

abbrev pub stored_at : List ℤ → ℕ → ℤ → List ℤ
stored_at dues done z = cond (eqb (done % 2) 1) (cond (ltb (done / 2) 16) (set dues (done / 2) z) dues) dues

abbrev pub first_of : ℕ → ℕ → ℕ → ℕ
first_of done value first = cond (eqb done 0) value first

-- one number more, counted up to 100: no line has as many
abbrev pub one_more : ℕ → ℕ
one_more done = cond (ltb done 100) (done + 1) done

-- behind a byte that is no digit the number is done, if there was one
abbrev pub ended : Numbers → Bool → Option ℕ → Numbers
ended s minus None = record { number = None; minus = minus; done = s.done; first = s.first; dues = s.dues }
ended s minus (Some value) = record {
  number = None;
  minus = minus;
  done = one_more s.done;
  first = first_of s.done value s.first;
  dues = stored_at s.dues s.done (signed_of s.minus value);
}

abbrev pub other_byte : Numbers → ℕ → Numbers
other_byte s b = ended s (eqb b 45) s.number

-- a digit goes behind the last seven
abbrev pub so_far : Option ℕ → ℕ
so_far None = 0
so_far (Some value) = value

abbrev pub with_digit : Numbers → ℕ → Numbers
with_digit s digit = record {
  number = Some (so_far s.number % 10000000 * 10 + digit);
  minus = s.minus;
  done = s.done;
  first = s.first;
  dues = s.dues;
}

unfoldable pub stepped : Numbers → ℕ → Numbers
stepped s b = cond (ltb b 48) (other_byte s b) (cond (ltb 57 b) (other_byte s b) (with_digit s (b - 48)))

unfoldable pub scan_from : Numbers → List ℕ → Numbers
scan_from s [] = s
scan_from s (b ∷ bs) = scan_from (stepped s b) bs

abbrev pub scan_start : Numbers
scan_start = record { number = None; minus = false; done = 0; first = 0; dues = sixteen [] }

abbrev pub scanned : List ℕ → Numbers
scanned line = scan_from scan_start line

-- the reason of a line, if it has one: a line that begins with j is a job's
abbrev pub tried : Order → Bool → Numbers → Why
tried o true s = why_of o (found (over_end s.first))
tried o false s = record { reason = Some (Stairs (s.done / 2)); dues = s.dues }

unfoldable pub candidate : Order → List ℕ → Why
candidate o line = tried o (eqb (get_or line 0 0) 106) (scanned line)
