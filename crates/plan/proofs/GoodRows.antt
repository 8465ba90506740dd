-- A walk over the rows: a row that is read is whole and well formed; where each row passes, also one that is not whole, none
-- is left over and every row is good; where one fails, one is left over or not good.
use Prim.Native.Nat.{ℕ, zero, suc, ◌+◌, ◌*◌, ◌/◌, ◌%◌, ◌≤◌, ◌<◌}
use mathlib.Core.Path.{◌≡◌, refl, sym, ap, ◌∙◌}
use mathlib.Core.Bool.{Bool, true, false, ◌&&◌, and_assoc, and-false}
use mathlib.Core.List.{List}
use native.Mathlib.Omega.{arith}
use borrow.Author.Tests.{leb-true, leb-false, eq-eqb, ne_eqb}
use lib.Dec.{leb}
use lib.IntN.{ℤ}
use lib.ListN.{length}
use Rattle.std.specs.Prelude.{Option, Some, None}
use Rattle.std.specs.Bool.{then_some}
use Rattle.order.specs.Order.{Order}
use Rattle.order.proofs.RefusalLaws.{both_true}
use Rattle.plan.specs.Check.{row_at, rows_of, every, well_formed, by_end}
use Rattle.plan.specs.EveryLaws.{every-places, every-fails}
use Rattle.plan.proofs.RuleLaws.{good_row}
use Rattle.plan.proofs.RowRanges.{all_good}
use Rattle.plan.specs.Inside.{row_of, piece_at, row_read}
use Rattle.plan.specs.declared.Piece.{Piece}

good-by : (b : Bool) (q p : Piece) → then_some b q ≡ Some p → (b ≡ true) × (p ≡ q)
good-by true q p e = (refl, cc)
good-by false q p e = let z : ◌≡◌ {A = ℕ} 0 1 = cc in absurd (omega arith)

malformed-by : (b : Bool) (q : Piece) → then_some b q ≡ None → b ≡ false
malformed-by true q e = let z : ◌≡◌ {A = ℕ} 0 1 = cc in absurd (omega arith)
malformed-by false q e = refl

module _ (o : Order) (bound : ℤ) (numbers : List ℕ) where
  abbrev formed : ℕ → Bool
  formed k = leb (4 * k + 4) (length numbers) && well_formed o (row_at numbers k)

  -- the row at k is whole and good
  abbrev pub passes : ℕ → Bool
  passes k = formed k && by_end o bound (row_at numbers k)

  -- what is read at k
  module _ (k : ℕ) (r : Option Piece) (e : r ≡ row_read o numbers k) where
    pub malformed : r ≡ None → passes k ≡ false
    malformed m = rw (malformed-by (formed k) (piece_at numbers k) (sym e ∙ m))

    module _ (p : Piece) (g : r ≡ Some p) where
      is-formed : formed k ≡ true
      is-formed = (good-by (formed k) (piece_at numbers k) p (sym e ∙ g)).0

      is_row : row_of p ≡ row_at numbers k
      is_row = ap row_of (good-by (formed k) (piece_at numbers k) p (sym e ∙ g)).1

      pub well-formed : well_formed o (row_of p) ≡ true
      well-formed =
          ap (well_formed o) is_row
          ∙ (both_true (leb (4 * k + 4) (length numbers)) (well_formed o (row_at numbers k)) is-formed).1

      pub by-its-end : (t a : Bool) → t ≡ by_end o bound (row_of p) → t ≡ a → passes k ≡ a
      by-its-end t a h is = rw is-formed (ap (by_end o bound) (sym is_row) ∙ sym h ∙ is)

  split : (k : ℕ) → passes k ≡ (leb (4 * k + 4) (length numbers) && good_row o bound (row_at numbers k))
  split k = and_assoc (leb (4 * k + 4) (length numbers)) (well_formed o (row_at numbers k)) (by_end o bound (row_at numbers k))

  module _ (k : ℕ) (l : k < (length numbers + 3) / 4) where
    pub row-fails : passes k ≡ false → false ≡ all_good o bound numbers
    row-fails h =
        go (leb (4 * k + 4) (length numbers)) refl (sym (split k) ∙ h)
      where
        go : (b : Bool) → leb (4 * k + 4) (length numbers) ≡ b → (b && good_row o bound (row_at numbers k)) ≡ false →
            false ≡ all_good o bound numbers
        go true w f =
            let m : k < length numbers / 4 = omega (arith, leb-true (4 * k + 4) (length numbers) w) in
            rw (every-fails (good_row o bound) (length numbers / 4) (row_at numbers) k m f, and-false)
        go false w f = rw (ne_eqb (length numbers % 4) 0 (λ z. omega (arith, leb-false (4 * k + 4) (length numbers) w)))

  pub rows_pass : ((k : ℕ) → k < (length numbers + 3) / 4 → passes k ≡ true) → true ≡ all_good o bound numbers
  rows_pass h = sym (rw (eq-eqb (length numbers % 4) 0 (none_left ((length numbers + 3) / 4) refl)) each)
    where
      both : (k : ℕ) → k < (length numbers + 3) / 4 → (4 * k + 4 ≤ length numbers) × (good_row o bound (row_at numbers k) ≡ true)
      both k l =
          let t = both_true (leb (4 * k + 4) (length numbers)) (good_row o bound (row_at numbers k)) (sym (split k) ∙ h k l) in
          (leb-true (4 * k + 4) (length numbers) t.0, t.1)

      none_left : (n : ℕ) → n ≡ (length numbers + 3) / 4 → length numbers % 4 ≡ 0
      none_left zero e = omega arith
      none_left (suc k) e = omega (arith, (both k (omega arith)).0)

      each : every (good_row o bound) (rows_of numbers) ≡ true
      each = every-places (good_row o bound) (length numbers / 4) (row_at numbers) (λ k l. (both k (omega arith)).1)
