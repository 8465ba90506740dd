-- Laws of joined rows, whatever rows: what holds of each and of each two, how many there are, and in which order.
use Rattle.std.specs.Prelude.{ℕ, ◌+◌, ◌≤◌, ◌≡◌, refl, true, ◌⊎◌, eqb, length}
use Rattle.std.proofs.Common.{sym, ap, ◌∙◌, true≢false, arith, eqb-true, eq-eqb}
use mathlib.Core.List.{List, [], ◌∷◌, ◌++◌, append-nil}
use Rattle.std.proofs.Math.Logic.{inl, inr}
use Rattle.sums.specs.Lists.{All, Pairwise}
use Rattle.sums.specs.Members.{All-map, All-both}
use Rattle.order.proofs.RefusalLaws.{both_true, true-or-false}
use Rattle.plan.specs.Plan.{Row, Forward}
use Rattle.plan.specs.Join.{GoesOnAs, goes_on_as, lengthened, join_row, join_rows, joined}

-- the test
pub goes-on-true : (r x : Row) → goes_on_as r x ≡ true → GoesOnAs r x
goes-on-true r x e =
    let h = both_true (eqb r.job x.job) _ e in
    let k = both_true (eqb r.processor x.processor) _ h.1 in
    (eqb-true _ _ h.0, eqb-true _ _ k.0, eqb-true _ _ k.1)

pub goes-on-is : (r x : Row) → GoesOnAs r x → goes_on_as r x ≡ true
goes-on-is r x h =
    rw (eq-eqb r.job x.job h.0, eq-eqb r.processor x.processor h.1, eq-eqb r.to x.from h.2) refl

-- one row more behind a row that goes on as it, and behind one that does not
pub join-case : (r : Row) (rows : List Row) (x : Row) →
    (GoesOnAs r x × (join_row (r ∷ rows) x ≡ lengthened r x.to ∷ rows))
    ⊎ ((¬ GoesOnAs r x) × (join_row (r ∷ rows) x ≡ r ∷ join_row rows x))
unfolding join_row
join-case r rows x =
    elim (true-or-false (goes_on_as r x)) [
      | inl e ↦ inl (goes-on-true r x e, rw e refl)
      | inr e ↦ inr ((λ h. true≢false (sym (goes-on-is r x h) ∙ e)), rw e refl)
    ]

-- What holds of each row ---------------------------------------------------------------------------------------------------

module _ (P : Row → Type 0) (one : (r x : Row) → GoesOnAs r x → P r → P x → P (lengthened r x.to)) where
  pub all_row : (rows : List Row) (x : Row) → All P rows → P x → All P (join_row rows x)
  unfolding join_row
  all_row [] x h k = (k, tt)
  all_row (r ∷ rows) x h k =
      elim (join-case r rows x) [
        | inl c ↦ rw c.1 (one r x c.0 h.0 k, h.1)
        | inr c ↦ rw c.1 (h.0, all_row rows x h.1 k)
      ]

  pub all-rows : (rows xs : List Row) → All P rows → All P xs → All P (join_rows rows xs)
  unfolding join_rows
  all-rows rows [] h k = h
  all-rows rows (x ∷ xs) h k = all-rows (join_row rows x) xs (all_row rows x h k.0) k.1

pub forward-one : (r x : Row) → GoesOnAs r x → Forward r → Forward x → Forward (lengthened r x.to)
forward-one r x g h k = omega (arith, g.2)

-- What holds of each two ---------------------------------------------------------------------------------------------------

-- rows that stand, and rows to come: R holds of each two, F of each
pub record Standing (F : Row → Type 0) (R : Row → Row → Type 0) (rows xs : List Row) : Type 0 where
  pub each : All F rows
  pub each-to-come : All F xs
  pub pairs : Pairwise R rows
  pub across : All (λ (r : Row). All (R r) xs) rows
  pub to-come : Pairwise R xs

pub standing-none : (F : Row → Type 0) (R : Row → Row → Type 0) (xs : List Row) → All F xs → Pairwise R xs →
    Standing F R [] xs
standing-none F R xs h k = record { each = tt; each-to-come = h; pairs = tt; across = tt; to-come = k }

-- a row r that is lengthened by x keeps R with a row between the two, with one before both, and with one behind both
pub record Kept (F : Row → Type 0) (R : Row → Row → Type 0) : Type 0 where
  pub one : (r x : Row) → GoesOnAs r x → F r → F x → F (lengthened r x.to)
  pub between : (r t x : Row) → GoesOnAs r x → F t → F x → R r t → R t x → R (lengthened r x.to) t
  pub before : (u r x : Row) → GoesOnAs r x → F u → R u r → R u x → R u (lengthened r x.to)
  pub behind : (r x t : Row) → GoesOnAs r x → F t → R r t → R x t → R (lengthened r x.to) t

module _ (F : Row → Type 0) (R : Row → Row → Type 0) (k : Kept F R) where
  pairs-row : (rows : List Row) (x : Row) → All F rows → F x → Pairwise R rows → All (λ (r : Row). R r x) rows →
      Pairwise R (join_row rows x)
  unfolding join_row
  pairs-row [] x f e h a = (tt, tt)
  pairs-row (r ∷ rows) x f e h a =
      elim (join-case r rows x) [
        | inl c ↦ rw c.1 (
          All-map _ _ rows (λ (t : Row) w. k.between r t x c.0 w.0 e w.1.0 w.1.1)
              (All-both F _ rows f.1 (All-both _ _ rows h.0 a.1)),
          h.1,
        )
        | inr c ↦ rw c.1 (
          all_row (R r) (λ (t y : Row) g p q. k.before r t y g f.0 p q) rows x h.0 a.0,
          pairs-row rows x f.1 e h.1 a.1,
        )
      ]

  pub standing-more : (rows : List Row) (x : Row) (xs : List Row) → Standing F R rows (x ∷ xs) → Standing F R (join_row rows x) xs
  standing-more rows x xs s =
      record {
        each = all_row F k.one rows x s.each s.each-to-come.0;
        each-to-come = s.each-to-come.1;
        pairs = pairs-row rows x s.each s.each-to-come.0 s.pairs
            (All-map _ _ rows (λ (r : Row) h. h.0) s.across);
        across = all_row (λ (r : Row). All (R r) xs)
            (λ (r y : Row) g h w. All-map _ _ xs (λ (t : Row) v. k.behind r y t g v.0 v.1.0 v.1.1)
            (All-both F _ xs s.each-to-come.1 (All-both _ _ xs h w)))
            rows x (All-map _ _ rows (λ (r : Row) h. h.1) s.across) s.to-come.0;
        to-come = s.to-come.1;
      }

  pub standing-all : (rows xs ys : List Row) → Standing F R rows (xs ++ ys) → Standing F R (join_rows rows xs) ys
  unfolding join_rows
  standing-all rows [] ys s = s
  standing-all rows (x ∷ xs) ys s = standing-all (join_row rows x) xs ys (standing-more rows x (xs ++ ys) s)

-- of all rows of a list, joined
pub joined-all : (P : Row → Type 0) (rows : List Row) → ((r x : Row) → GoesOnAs r x → P r → P x → P (lengthened r x.to)) →
    All P rows → All P (joined rows)
joined-all P rows one h = all-rows P one [] rows tt h

pub joined-pairs : (F : Row → Type 0) (R : Row → Row → Type 0) (rows : List Row) → Kept F R → All F rows → Pairwise R rows →
    Pairwise R (joined rows)
joined-pairs F R rows k h p =
    (standing-all F R k [] rows [] (rw (append-nil rows) (standing-none F R rows h p))).pairs

-- How many, and in which order -------------------------------------------------------------------------------------------------

pub row_count : (rows : List Row) (x : Row) → length (join_row rows x) ≤ length rows + 1
unfolding join_row
row_count [] x = omega arith
row_count (r ∷ rows) x =
    elim (join-case r rows x) [
      | inl c ↦ omega (arith, ap length c.1)
      | inr c ↦ omega (arith, ap length c.1, row_count rows x)
    ]

rows-count : (rows xs : List Row) → length (join_rows rows xs) ≤ length rows + length xs
unfolding join_rows
rows-count rows [] = omega arith
rows-count rows (x ∷ xs) = omega (arith, rows-count (join_row rows x) xs, row_count rows x)

-- "Row counts never grow"
pub joined-count : (rows : List Row) → length (joined rows) ≤ length rows
joined-count rows = omega (arith, rows-count [] rows)

-- an order of rows that does not look at where they end
pub record Blind (R : Row → Row → Type 0) : Type 0 where
  pub first : (r s : Row) (to : ℕ) → R r s → R (lengthened r to) s
  pub second : (r s : Row) (to : ℕ) → R r s → R r (lengthened s to)

pub joined-order : (R : Row → Row → Type 0) → Blind R → (rows : List Row) → Pairwise R rows → Pairwise R (joined rows)
joined-order R b rows h =
    joined-pairs (λ (r : Row). Unit {0}) R rows
    (record {
      one = λ r x g _ _. tt;
      between = λ r t x g _ _ p _. b.first r t x.to p;
      before = λ u r x g _ p _. b.second u r x.to p;
      behind = λ r x t g _ p _. b.first r t x.to p;
    })
    (anything rows) h
  where
    anything : (xs : List Row) → All (λ (r : Row). Unit {0}) xs
    anything [] = tt
    anything (x ∷ xs) = (tt, anything xs)
