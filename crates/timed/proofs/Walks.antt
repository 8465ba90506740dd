-- A test of the rows at all places is one of every row.
use Prim.Native.Nat.{ℕ, zero, suc, ◌+◌, ◌/◌, ◌≤◌}
use mathlib.Core.Path.{◌≡◌, refl, ap, ◌∙◌}
use mathlib.Core.Bool.{Bool}
use mathlib.Core.List.{List}
use native.Mathlib.Omega.{arith}
use lib.ListN.{length, take}
use lib.Seq.{length-take-le}
use Rattle.std.specs.List.{list_all, range_with_len}
use Rattle.sums.specs.Lists.{tabulate}
use Rattle.plan.specs.Plan.{Row}
use Rattle.plan.specs.Check.{row_at, rows_of, every}

-- a number lent for each row
pub part-long : (n : ℕ) (xs : List ℕ) → n ≤ 8064 → length xs ≡ 8064 → length (take n xs) ≡ n
part-long n xs h e = length-take-le n xs (omega arith)

-- a test of each place, one after the other, is that of each member
each-place : (test : Row → Bool) (a n : ℕ) (f : ℕ → Row) (g : ℕ → Bool) → ((i : ℕ) → g (a + i) ≡ test (f i)) →
    list_all g (range_with_len a n) ≡ every test (tabulate n f)
unfolding every
each-place test a zero f g e = refl
each-place test a (suc n) f g e =
    let here : a ≡ a + 0 = omega arith in
    let more : (i : ℕ) → g (a + 1 + i) ≡ test (f (suc i)) = λ i. let is : a + 1 + i ≡ a + suc i = omega arith in ap g is ∙ e (suc i) in
    rw (ap g here ∙ e 0, each-place test (a + 1) n (λ i. f (suc i)) g more) refl

pub places-every : (test : Row → Bool) (numbers : List ℕ) →
    list_all (λ k. test (row_at numbers k)) (range_with_len 0 (length numbers / 4)) ≡ every test (rows_of numbers)
places-every test numbers =
    each-place test 0 (length numbers / 4) (row_at numbers) (λ k. test (row_at numbers k))
    (λ i. let is : 0 + i ≡ i = omega arith in ap (λ k. test (row_at numbers k)) is)
