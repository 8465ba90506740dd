-- One number and one row at a time: what the loops that write the engine's lists keep.
use Prim.Native.Nat.{ℕ, ◌+◌, ◌-◌, ◌*◌, ◌≤◌, ◌<◌}
use mathlib.Core.Path.{◌≡◌, ◌∙◌, subst}
use mathlib.Core.List.{List}
use native.Mathlib.Decide.{ℕ_discrete}
use native.Mathlib.Nat.{suc-mul}
use native.Mathlib.Numerals.{add-one}
use native.Mathlib.Omega.{arith}
use borrow.Rule.Slice.PartMut.{put_mid}
use lib.ListN.{length, get_or, set}
use Rattle.std.proofs.Common.{take, drop, get_or-take, length-take-le, length-drop}
use Rattle.std.proofs.lemmas.List.{get_or_append_left, get_or-append_right}
use Rattle.sums.specs.Arrays.{RowOf, fill-at}
use Rattle.engine.specs.View.{in_rows}
use Rattle.allot.specs.Tables.{Rows}

-- one number more
pub row_more : {f : ℕ → ℕ} {ys : List ℕ} (k v : ℕ) → k < length ys → v ≡ f k → RowOf f k ys → RowOf f (k + 1) (set ys k v)
row_more {f} {ys} k v l e R = record { at = fill-at (λ i x. x ≡ f i) 0 ys k v l R.at e }

-- what stands in a list where a part of it was written over: before the part, and in it
module _ (ys row : List ℕ) (at k : ℕ) (size : at ≤ length ys) where
  before-part : (i : ℕ) → i < at → get_or (put_mid at k ys row) i 0 ≡ get_or ys i 0
  before-part i l =
      let h : i < length (take at ys) = omega (arith, length-take-le at ys size) in
      get_or_append_left (take at ys) _ 0 i h ∙ get_or-take at ys i 0 l

  in-part : (i : ℕ) → i < length row → get_or (put_mid at k ys row) (at + i) 0 ≡ get_or row i 0
  in-part i l =
      let e : at + i - at ≡ i = omega arith in
      get_or-append_right (take at ys) _ at (at + i) 0 (length-take-le at ys size) (omega arith)
      ∙ rw e (get_or_append_left row _ 0 i l)

-- rows of as many numbers, said otherwise
pub rows_as : {ys : List ℕ} {n q m : ℕ} {f : ℕ → ℕ → ℕ} → q ≡ m → Rows ys n q f → Rows ys n m f
rows_as {ys} {n} {q} {m} {f} e R = subst (λ (k : ℕ). Rows ys n k f) e R

-- one row more, written over the place of row j
abbrev pub place_of : List ℕ → (j q : ℕ) → List ℕ
place_of ys j q = take ((j + 1) * q - j * q) (drop (j * q) ys)

-- where it ends
pub row-next : (j q : ℕ) → (j + 1) * q ≡ j * q + q
row-next j q = rw add-one (suc-mul j q)

module _ (ys : List ℕ) (j q : ℕ) (room : j * q + q ≤ length ys) where
  part-size : {k : ℕ} → k ≡ q → length (take k (drop (j * q) ys)) ≡ q
  part-size e = rw e (length-take-le q (drop (j * q) ys) (omega (arith, length-drop (j * q) ys)))

  pub place-size : length (place_of ys j q) ≡ q
  place-size = part-size (omega (arith, row-next j q))

  -- by a part of as many numbers
  pub rows_part : {k : ℕ} {row : List ℕ} {f : ℕ → ℕ → ℕ} → length row ≡ length (take k (drop (j * q) ys)) →
      RowOf (f j) (length (take k (drop (j * q) ys))) row → Rows ys j q f → k ≡ q →
      Rows (put_mid (j * q) k ys row) (j + 1) q f
  rows_part {k} {row} {f} size R G long =
      record {
        each = λ i s l b.
            elim (ℕ_discrete i j) [
              | yes z ↦
                  rw z
                  (in-part ys row (j * q) k (omega arith) s (omega (arith, size, part-size long))
                  ∙ R.at s (omega (arith, part-size long)))
              | no z ↦
                  let w : i < j = omega arith in
                  before-part ys row (j * q) k (omega arith) (i * q + s) (in_rows i q s j w b) ∙ G.each i s w b
            ];
      }

  pub rows_more : {row : List ℕ} {f : ℕ → ℕ → ℕ} → length row ≡ length (place_of ys j q) →
      RowOf (f j) (length (place_of ys j q)) row → Rows ys j q f →
      Rows (put_mid (j * q) ((j + 1) * q - j * q) ys row) (j + 1) q f
  rows_more size R G = rows_part size R G (omega (arith, row-next j q))
