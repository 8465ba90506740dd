-- `is_full`: a count with its minutes is over, or none is.
use Rattle.std.specs.Prelude.{ℕ, ◌+◌, ◌<◌, ◌≤◌, ◌≡◌, Bool, List, true, false, get_or}
use Rattle.std.proofs.Common.{refl, sym, rules}
use Rattle.std.proofs.iter.runs.Made.{chains}
use Rattle.book.specs.Book.{added, most_booked, some_over}
use Rattle.book.specs.BookLaws.{some-over, none_over}
use Rattle.book.proofs.minutes.is_full.Goals as goal

-- a count with its minutes
abbrev sum_at : (counts minutes : List ℕ) → ℕ → ℕ
sum_at counts minutes i = get_or counts i 0 + get_or minutes i 0

told : (counts minutes : List ℕ) (t : Bool) →
    (t ≡ true → (i : ℕ) × (i < 16) × (most_booked < sum_at counts minutes i)) →
    (t ≡ false → (i : ℕ) → i < 16 → sum_at counts minutes i ≤ most_booked) →
    t ≡ some_over (added counts minutes)
unfolding added
told counts minutes true over few = let h = over refl in sym (some-over 16 (sum_at counts minutes) h.0 h.1 h.2)
told counts minutes false over few = sym (none_over 16 (sum_at counts minutes) (few refl))

pub returns : goal.returns
returns c = told c.args.counts c.args.minutes _ (search (rules, chains)) (search (rules, chains))
