-- What the table's verdict means: it is accepted exactly if each length is met by one line, in whatever order they stand, 17 and 18 carry
-- the smallest length, and each need is that of the one line that meets its length.
use Rattle.std.specs.Prelude.{ℕ, suc, ◌+◌, ◌≤◌, ◌<◌, Bool, false, ◌↔◌, leb, length, get_or}
use Rattle.std.proofs.Math.Path.{◌≡◌, refl, sym, ap}
use Rattle.std.proofs.Common.{◌∙◌, subst}
use Rattle.std.proofs.Math.Bool.{not}
use mathlib.Core.List.{List, [], ◌∷◌, map}
use native.Mathlib.Omega.{arith}
use borrow.Author.Tests.{leb-true, leb-false, lt-leb, eqb-false, ne_eqb, not-false}
use Rattle.std.proofs.Math.Dec.{eqb}
use Rattle.std.proofs.lemmas.List.{length-map}
use Rattle.sums.specs.Lists.{only}
use Rattle.sums.specs.Members.{All-at}
use Rattle.sums.specs.Places.{get_d_map}
use Rattle.sums.specs.Rearranged.{Rearranged}
use Rattle.order.specs.LeftLaws.{left-written, left-beyond}
use Rattle.order.specs.Refusals.{
  Finding,
  clear,
  holds,
  TableRow,
  accepted,
  refused,
  verdict_of,
  judge,
  left_by,
  row,
  first_after,
  first,
  time_in_range,
  room_row,
}
use Rattle.order.proofs.RefusalLaws.{judge-accepted, accepted-first, first-clear, both_true, later-numbered, accepted≢refused}
use Rattle.needs.specs.NeedTable.{
  Line,
  meets,
  counted,
  met_by,
  longest,
  every_length,
  unmet,
  met_twice,
  met_twice_row,
  table_rows,
  need_rows,
  need_for,
  needs_of,
}
use Rattle.needs.specs.Inside.{Smallest}
use Rattle.needs.specs.SmallestLaws.{smallest-found}
use Rattle.needs.specs.LengthLaws.{Length, clear-means, means-clear, holds-means}
use Rattle.needs.specs.OwnLine.{OwnLine, own_line, need_of, need-sum}

-- exactly one line meets a length
module _ (lines : List Line) (x : ℕ) where
  once : unmet lines x ≡ false → met_twice lines x ≡ false → met_by lines x ≡ 1
  once e f =
      let some = eqb-false (met_by lines x) 0 e in
      omega (arith, leb-false 2 (met_by lines x) f)

  once-met : met_by lines x ≡ 1 → unmet lines x ≡ false
  once-met e = ne_eqb (met_by lines x) 0 (λ z. omega arith)

  once-only : met_by lines x ≡ 1 → met_twice lines x ≡ false
  once-only e = lt-leb 2 (met_by lines x) (omega arith)

-- a table is accepted exactly if each length is met by one line
pub table-accepted : (lines : List Line) → (judge (table_rows lines) ≡ accepted) ↔ ((x : ℕ) → Length x → met_by lines x ≡ 1)
unfolding table_rows
table-accepted lines = (
  λ e x l.
      let c = (judge-accepted (table_rows lines)).0 e in
      once lines x (clear-means (unmet lines) c.0 x l) (clear-means (met_twice lines) c.1.0 x l),
  λ h.
      (judge-accepted (table_rows lines)).1 (
        means-clear (unmet lines) (λ x l. once-met lines x (h x l)),
        (means-clear (met_twice lines) (λ x l. once-only lines x (h x l)), tt),
      ),
)

none_left : {number carried : ℕ} → judge [] ≡ refused number carried → ⊥
unfolding judge
none_left e = accepted≢refused e

module _ (table listed : List ℕ) (lent : ℕ) where
  abbrev lines : List Line
  lines = counted table

  abbrev listed_rows : List TableRow
  listed_rows = row 5 (first (λ (x : ℕ). not (time_in_range x)) listed) ∷ room_row lent (length listed) ∷ []

  -- 17 carries the smallest length that no line meets
  pub seventeen : (x : ℕ) → (judge (need_rows table listed lent) ≡ refused 17 x) ↔ ((x ≤ longest) × Smallest (unmet lines) x)
  unfolding judge need_rows table_rows
  seventeen x = (there (first (unmet lines) every_length) refl, λ s. rw (smallest-found (unmet lines) x s.1 s.0))
    where
      there : (f : Finding) → first (unmet lines) every_length ≡ f →
          verdict_of 17 f (judge (met_twice_row lines ∷ listed_rows)) ≡ refused 17 x → (x ≤ longest) × Smallest (unmet lines) x
      there clear e v =
          absurd (none_left (later-numbered 17 x (met_twice_row lines ∷ listed_rows) []
          ((λ z. omega arith), ((λ z. omega arith), ((λ z. omega arith), tt))) v))
      there (holds y) e v =
          let is : y ≡ x = cc in
          holds-means (unmet lines) x (e ∙ ap (λ (n : ℕ). holds n) is)

  -- 18, where each length is met, the smallest that two lines meet
  pub eighteen : (x : ℕ) → (judge (need_rows table listed lent) ≡ refused 18 x)
      ↔ (((y : ℕ) → Length y → 1 ≤ met_by lines y) × (x ≤ longest) × Smallest (met_twice lines) x)
  unfolding judge need_rows table_rows
  eighteen x = (
    there (first (unmet lines) every_length) refl (first (met_twice lines) every_length) refl,
    λ s. rw (
      means-clear (unmet lines) (λ y l. ne_eqb (met_by lines y) 0 (λ z. omega (arith, s.0 y l))),
      smallest-found (met_twice lines) x s.2 s.1,
    ),
  )
    where
      there : (f : Finding) → first (unmet lines) every_length ≡ f → (g : Finding) → first (met_twice lines) every_length ≡ g →
          verdict_of 17 f (verdict_of 18 g (judge listed_rows)) ≡ refused 18 x →
          ((y : ℕ) → Length y → 1 ≤ met_by lines y) × (x ≤ longest) × Smallest (met_twice lines) x
      there (holds y) e g d v = let z : ◌≡◌ {A = ℕ} 17 18 = cc in absurd (omega arith)
      there clear e clear d v =
          absurd (none_left (later-numbered 18 x listed_rows [] ((λ z. omega arith), ((λ z. omega arith), tt)) v))
      there clear e (holds y) d v =
          let is : y ≡ x = cc in
          let s = holds-means (met_twice lines) x (d ∙ ap (λ (n : ℕ). holds n) is) in (
            λ y l. let met = eqb-false (met_by lines y) 0 (clear-means (unmet lines) e y l) in omega arith,
            s.0,
            s.1,
          )

-- where needs are filled in
module _ (table listed entry : List ℕ) (e : judge (need_rows table listed (length entry)) ≡ accepted) where
  -- the buffer that is left
  abbrev pub filled : List ℕ
  filled = left_by (judge (need_rows table listed (length entry))) (needs_of table listed) entry

  pub accepted-table : (x : ℕ) → Length x → met_by (counted table) x ≡ 1
  unfolding need_rows
  accepted-table = (table-accepted (counted table)).0 (accepted-first (table_rows (counted table)) _ e)

  pub listed-lengths : (k : ℕ) → k < length listed → Length (get_or listed k 0)
  unfolding need_rows table_rows
  listed-lengths k l =
      let c = (judge-accepted (need_rows table listed (length entry))).0 e in
      let good = All-at (λ x. not (time_in_range x) ≡ false) listed 0 (first-clear _ listed 0 c.1.1.0) k l in
      let h = both_true (leb 1 (get_or listed k 0)) (leb (get_or listed k 0) longest) (not-false _ good) in
      (leb-true 1 (get_or listed k 0) h.0, leb-true (get_or listed k 0) longest h.1)

  -- each need is that of its own line
  pub need-own : (k : ℕ) → k < length listed → OwnLine (counted table) (get_or listed k 0) (get_or filled k 0)
  need-own k l =
      let f = need_for (counted table) in
      let is : get_or filled k 0 ≡ f (get_or listed k 0)
      = rw e (left-written (map f listed) entry 0 k (omega (arith, length-map listed f)) ∙ get_d_map f listed 0 0 k l) in
      subst (OwnLine (counted table) (get_or listed k 0)) (sym is)
      (own_line (counted table) (get_or listed k 0) (accepted-table (get_or listed k 0) (listed-lengths k l)))

  -- beyond them the buffer is as it was
  pub beyond-kept : (k : ℕ) → get_or filled (length listed + k) 0 ≡ get_or entry (length listed + k) 0
  beyond-kept k =
      let needs = needs_of table listed in
      subst (λ (n : ℕ). get_or filled (n + k) 0 ≡ get_or entry (n + k) 0) (length-map listed (need_for (counted table)))
      (rw e (left-beyond needs entry 0 k))

-- where something is refused, nothing is filled in
pub refused-kept : (table listed entry : List ℕ) (number carried : ℕ) →
    judge (need_rows table listed (length entry)) ≡ refused number carried →
    left_by (judge (need_rows table listed (length entry))) (needs_of table listed) entry ≡ entry
refused-kept table listed entry number carried e = rw e

-- "lines in any order": the same lines in another order are judged alike, and where they are accepted each length has the same need
first-same : (f g : ℕ → Bool) (xs : List ℕ) (k : ℕ) → ((x : ℕ) → f x ≡ g x) → first_after k f xs ≡ first_after k g xs
unfolding first_after
first-same f g [] k h = refl
first-same f g (x ∷ xs) k h = rw (h x, first-same f g xs (suc k) h) refl

module _ (lines lines' : List Line) (s : Rearranged lines lines') where
  same_met : (x : ℕ) → met_by lines x ≡ met_by lines' x
  unfolding met_by
  same_met x = s (λ (line : Line). only (meets line x) 1)

  pub any_order : judge (table_rows lines) ≡ judge (table_rows lines')
  unfolding judge table_rows
  any_order =
      rw (
        first-same (unmet lines) (unmet lines') every_length 0 (λ x. ap (λ (n : ℕ). eqb n 0) (same_met x)),
        first-same (met_twice lines) (met_twice lines') every_length 0 (λ x. ap (leb 2) (same_met x)),
      )
      refl

  pub any-order-need : (x : ℕ) → met_by lines x ≡ 1 → need_for lines x ≡ need_for lines' x
  unfolding need_of
  any-order-need x e =
      need-sum lines x e ∙ s (λ (line : Line). only (meets line x) line.need) ∙ sym (need-sum lines' x (sym (same_met x) ∙ e))
