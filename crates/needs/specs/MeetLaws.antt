-- Lines and the lengths that they meet: the test as facts, how many lines meet a length, one line more, and whose need is taken.
use Prim.Native.Nat.{ℕ, zero, suc, ◌+◌, ◌*◌, ◌/◌, ◌≤◌, ◌<◌, min}
use Rattle.std.specs.Prelude.{◌≡◌, Bool, false, cond, ◌&&◌, List, [], ◌∷◌, length, get_or, take, Option, None, Some, MatchOption}
use Rattle.std.proofs.Math.Path.{refl, ap}
use Rattle.std.proofs.Common.{sym, ◌∙◌, inl, inr, le_of_suc-le-suc, take_all, true≢false}
use Rattle.std.proofs.Math.Bool.{true}
use Rattle.std.proofs.Math.Decide.{dec_le}
use native.Mathlib.Omega.{arith}
use borrow.Author.Tests.{leb-true, le-leb, lt-leb}
use Rattle.std.proofs.Math.Dec.{leb}
use Rattle.sums.specs.Lists.{only, tabulate}
use Rattle.sums.specs.Places.{length-tabulate, tabulate-cong}
use Rattle.sums.specs.Sum.{sum_more, sum-ge, sum-cong, sum-const}
use Rattle.sums.specs.Totals.{total-tabulate}
use Rattle.order.specs.Refusals.{time_in_range}
use Rattle.order.proofs.RefusalLaws.{both_true, true-both, true-or-false}
use Rattle.needs.specs.NeedTable.{Line, good_line, meets, line_at, lines_in, most_lines, counted, met_by, longest, need_for}
use Rattle.needs.specs.Inside.{first_lines, FirstMeets}

-- a line meets a length: it is in range, and the length lies between its ends
pub record Meets (line : Line) (x : ℕ) : Type 0 where
  pub from_one : 1 ≤ line.from
  pub begun : line.from ≤ x
  pub not-over : x ≤ line.to
  pub to-most : line.to ≤ longest

module _ (line : Line) (x : ℕ) where
  pub meets-facts : meets line x ≡ true → Meets line x
  unfolding meets
  meets-facts e =
      let a = both_true (good_line line && leb line.from x) (leb x line.to) e in
      let b = both_true (good_line line) (leb line.from x) a.0 in
      let c = both_true (time_in_range line.from && time_in_range line.to) (leb line.from line.to) b.0 in
      let d = both_true (time_in_range line.from) (time_in_range line.to) c.0 in
      let from = both_true (leb 1 line.from) (leb line.from 100000) d.0 in
      let to = both_true (leb 1 line.to) (leb line.to 100000) d.1 in
      record {
        from_one = leb-true 1 line.from from.0;
        begun = leb-true line.from x b.1;
        not-over = leb-true x line.to a.1;
        to-most = leb-true line.to 100000 to.1;
      }

  pub facts-meet : Meets line x → meets line x ≡ true
  unfolding meets
  facts-meet m =
      let from : time_in_range line.from ≡ true
      = true-both _ _ (le-leb 1 line.from m.from_one) (le-leb line.from 100000 (omega (arith, m.begun, m.not-over, m.to-most))) in
      let to : time_in_range line.to ≡ true
      = true-both _ _ (le-leb 1 line.to (omega (arith, m.from_one, m.begun, m.not-over))) (le-leb line.to 100000 m.to-most) in
      let forward : leb line.from line.to ≡ true = le-leb line.from line.to (omega (arith, m.begun, m.not-over)) in
      true-both _ _
      (true-both _ _ (true-both _ _ (true-both _ _ from to) forward) (le-leb line.from x m.begun))
      (le-leb x line.to m.not-over)

  pub not-meets : (Meets line x → ⊥) → meets line x ≡ false
  not-meets h = elim (true-or-false (meets line x)) [ inl e ↦ absurd (h (meets-facts e)) | inr e ↦ e ]

  -- four tests decide
  pub meets-is : meets line x ≡ (leb 1 line.from && leb line.to longest && leb line.from x && leb x line.to)
  meets-is = elim (true-or-false (leb 1 line.from && leb line.to longest && leb line.from x && leb x line.to)) [
    | inl e ↦
        let a = both_true (leb 1 line.from && leb line.to longest && leb line.from x) (leb x line.to) e in
        let b = both_true (leb 1 line.from && leb line.to longest) (leb line.from x) a.0 in
        let c = both_true (leb 1 line.from) (leb line.to longest) b.0 in
        facts-meet (record {
          from_one = leb-true 1 line.from c.0;
          begun = leb-true line.from x b.1;
          not-over = leb-true x line.to a.1;
          to-most = leb-true line.to longest c.1;
        }) ∙ sym e
    | inr e ↦ not-meets (λ m. absurd (true≢false (sym (true-both _ _ (true-both _ _ (true-both _ _ (le-leb 1 line.from m.from_one)
        (le-leb line.to longest m.to-most)) (le-leb line.from x m.begun)) (le-leb x line.to m.not-over)) ∙ e))) ∙ sym e
  ]

  -- where the line is in range and has begun, its end decides
  pub end-decides : 1 ≤ line.from → line.to ≤ longest → line.from ≤ x → leb x line.to ≡ meets line x
  end-decides f t b =
      elim (dec_le x line.to) [
        | yes w ↦ le-leb x line.to w
            ∙ sym (facts-meet (record { from_one = f; begun = b; not-over = w; to-most = t }))
        | no w ↦ lt-leb x line.to (omega arith) ∙ sym (not-meets (λ m. omega (arith, m.not-over)))
      ]

  -- "a line out of range or running backwards meets no length"
  pub bad-meets-none : good_line line ≡ false → meets line x ≡ false
  unfolding meets
  bad-meets-none e = rw e

-- the first lines of a list that is given by its places
take-tabulated : (k n : ℕ) (f : ℕ → Line) → k ≤ n → take k (tabulate n f) ≡ tabulate k f
take-tabulated zero n f h = refl
take-tabulated (suc k) zero f h = absurd (omega arith)
take-tabulated (suc k) (suc n) f h = ap (λ (l : List Line). f 0 ∷ l) (take-tabulated k n (λ i. f (suc i)) (le_of_suc-le-suc h))

-- the lines that count are the first 32, or all where there are fewer
pub counted-most : (table : List ℕ) → most_lines ≤ length table / 3 → counted table ≡ first_lines table most_lines
unfolding counted lines_in
counted-most table h = take-tabulated most_lines (length table / 3) (line_at table) h

pub counted-all : (table : List ℕ) → length table / 3 ≤ most_lines → counted table ≡ first_lines table (length table / 3)
unfolding counted lines_in
counted-all table h =
    take_all most_lines (tabulate (length table / 3) (line_at table)) (omega (arith, length-tabulate (length table / 3) (line_at table)))

pub counted-first : (table : List ℕ) → counted table ≡ first_lines table (min most_lines (length table / 3))
counted-first table =
    elim (dec_le most_lines (length table / 3)) [
      | yes l ↦
          let is : most_lines ≡ min most_lines (length table / 3) = omega arith in
          counted-most table l ∙ ap (first_lines table) is
      | no l ↦
          let is : length table / 3 ≡ min most_lines (length table / 3) = omega arith in
          counted-all table (omega arith) ∙ ap (first_lines table) is
    ]

-- lists that have the same first numbers have the same first lines
pub same_lines : (xs ys : List ℕ) (n : ℕ) → ((k : ℕ) → k < 3 * n → get_or xs k 0 ≡ get_or ys k 0) → first_lines xs n ≡ first_lines ys n
same_lines xs ys n h =
    tabulate-cong n (line_at xs) (line_at ys)
    (λ i l. rw (h (3 * i) (omega arith), h (3 * i + 1) (omega arith), h (3 * i + 2) (omega arith)) refl)

module _ (table : List ℕ) where
  -- one line more counts where it meets the length
  pub met-none : (x : ℕ) → met_by (first_lines table 0) x ≡ 0
  unfolding met_by
  met-none x = refl

  pub met-more : (i x : ℕ) → met_by (first_lines table (i + 1)) x ≡ met_by (first_lines table i) x + only (meets (line_at table i) x) 1
  unfolding met_by
  met-more i x =
      let count : ℕ → ℕ = λ k. only (meets (line_at table k) x) 1 in
      omega (
        arith,
        total-tabulate (i + 1) (line_at table) (λ (line : Line). only (meets line x) 1),
        total-tabulate i (line_at table) (λ (line : Line). only (meets line x) 1),
        sum_more i count,
      )

  -- a line that meets the length counts; where none does, nothing counts
  pub met_at : (n k x : ℕ) → k < n → meets (line_at table k) x ≡ true → 1 ≤ met_by (first_lines table n) x
  unfolding met_by
  met_at n k x l e =
      omega (
        arith,
        total-tabulate n (line_at table) (λ (line : Line). only (meets line x) 1),
        sum-ge n k (λ i. only (meets (line_at table i) x) 1) l,
        ap (λ (b : Bool). only b 1) e,
      )

  pub met-nowhere : (n x : ℕ) → ((k : ℕ) → k < n → meets (line_at table k) x ≡ false) → met_by (first_lines table n) x ≡ 0
  unfolding met_by
  met-nowhere n x h =
      omega (
        arith,
        total-tabulate n (line_at table) (λ (line : Line). only (meets line x) 1),
        sum-cong n (λ i. only (meets (line_at table i) x) 1) (λ _. 0) (λ i l. ap (λ (b : Bool). only b 1) (h i l)),
        sum-const n 0,
      )

-- what looking through the lines comes to
pub first-line : (table : List ℕ) (n x : ℕ) (r : Option ℕ) →
    MatchOption r ((k : ℕ) → 0 ≤ k → k < n → meets (line_at table k) x ≡ false)
    (λ i. (0 ≤ i) × (i < n) × (meets (line_at table i) x ≡ true) × ((k : ℕ) → 0 ≤ k → k < i → meets (line_at table k) x ≡ false)) →
    MatchOption r (met_by (first_lines table n) x ≡ 0) (FirstMeets table n x)
first-line table n x None h = met-nowhere table n x (λ k l. h k (omega arith) l)
first-line table n x (Some i) h = record { one_of = h.1; before = λ k l. h.3 k (omega arith) l; here = h.2 }

-- the need is that of the first line that meets the length; 0 where none does
need-at : (n i x : ℕ) (f : ℕ → Line) → i < n → ((k : ℕ) → k < i → meets (f k) x ≡ false) → meets (f i) x ≡ true →
    need_for (tabulate n f) x ≡ (f i).need
unfolding need_for
need-at zero i x f l before here = absurd (omega arith)
need-at (suc n) zero x f l before here = rw here
need-at (suc n) (suc i) x f l before here =
    rw (before 0 (omega arith)) (need-at n i x (λ k. f (suc k)) (le_of_suc-le-suc l) (λ k b. before (suc k) (omega arith)) here)

need-nowhere : (lines : List Line) (x : ℕ) → met_by lines x ≡ 0 → need_for lines x ≡ 0
unfolding met_by need_for
need-nowhere [] x e = refl
need-nowhere (line ∷ lines) x e = go (meets line x) e (need-nowhere lines x)
  where
    go : (b : Bool) → only b 1 + met_by lines x ≡ 0 → (met_by lines x ≡ 0 → need_for lines x ≡ 0) →
        cond b line.need (need_for lines x) ≡ 0
    go true e later = absurd (omega arith)
    go false e later = later (omega arith)

module _ (table : List ℕ) (n x : ℕ) where
  pub need-of : (i : ℕ) → FirstMeets table n x i → (line_at table i).need ≡ need_for (first_lines table n) x
  need-of i m = sym (need-at n i x (line_at table) m.one_of m.before m.here)

  pub no-need : met_by (first_lines table n) x ≡ 0 → 0 ≡ need_for (first_lines table n) x
  no-need e = sym (need-nowhere (first_lines table n) x e)

  -- where no line before place i meets the length, and i is behind all lines, none meets it
  pub none-meets : (i : ℕ) → ((k : ℕ) → k < i → meets (line_at table k) x ≡ false) → n ≤ i → met_by (first_lines table n) x ≡ 0
  none-meets i before l = met-nowhere table n x (λ k b. before k (omega arith))
