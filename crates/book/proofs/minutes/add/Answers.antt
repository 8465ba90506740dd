-- `add`: no sum is over the limit, and so each fits.
use Rattle.std.specs.Prelude.{ℕ, ◌+◌, ◌<◌, ◌≡◌, List, false, get_or}
use Rattle.std.proofs.Common.{rules, arith}
use Rattle.std.proofs.iter.Serving.{serving}
use Rattle.sums.specs.FromFn.{from_fn-list}
use Rattle.book.specs.Book.{added, some_over}
use Rattle.book.specs.BookLaws.{added-few}
use Rattle.book.proofs.minutes.add.Goals as goal

fits : (counts minutes : List ℕ) (i : ℕ) → some_over (added counts minutes) ≡ false → i < 16 →
    get_or counts i 0 + get_or minutes i 0 < 4294967296
fits counts minutes i h l = omega (arith, added-few counts minutes h i l)

pub from_fn-requires : goal.from_fn-requires
from_fn-requires c = grind (arith, serving, fits)

pub returns : goal.returns
unfolding added
returns c =
    from_fn-list _ _ (λ i. get_or c.args.counts i 0 + get_or c.args.minutes i 0) _ (λ i y q l k. search rules) c.from_fn.ensures.items
