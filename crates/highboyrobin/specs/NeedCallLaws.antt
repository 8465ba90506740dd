-- What hbr_needs tells: where it succeeds each need is that of the one line that meets its length, and each length is met by one line;
-- where it says 17 or 18 it carries the smallest such length.
use Rattle.std.specs.Prelude.{ℕ, ◌≤◌, ◌<◌, ◌≡◌, List, [], ◌∷◌, ℤ, length, get_or}
use Rattle.std.proofs.Common.{arith, sym, ◌∙◌, subst}
use Rattle.order.specs.Refusals.{TableRow, Verdict, accepted, refused, judge, left_by}
use Rattle.order.proofs.RefusalLaws.{judge-accepted, later-numbered}
use Rattle.needs.specs.NeedTable.{counted, unmet, met_twice, met_by, longest, need_rows, needs_of}
use Rattle.needs.specs.Inside.{Smallest}
use Rattle.needs.specs.LengthLaws.{Length}
use Rattle.needs.proofs.NeedLaws.{accepted-table, need-own, seventeen, eighteen}
use Rattle.needs.specs.OwnLine.{OwnLine}
use Rattle.highboyrobin.specs.NeedCalls.{long_list_row, needs_call}
use Rattle.highboyrobin.specs.Results.{answer_row}

module _ (table listed : List ℕ) (lent answer : ℕ) where
  abbrev rows : List TableRow
  rows = need_rows table listed lent

  -- where the call succeeds, so does filling in
  pub needs-accepted : judge (needs_call table listed lent answer) ≡ accepted → judge rows ≡ accepted
  unfolding needs_call
  needs-accepted e = (judge-accepted rows).1 ((judge-accepted (needs_call table listed lent answer)).0 e).1.1

  -- and what it refuses besides 255 and 253 is what filling in refuses
  module _ (number carried : ℕ) (e : judge (needs_call table listed lent answer) ≡ refused number carried) where
    needs-refused : (255 ≡ number → ⊥) → (253 ≡ number → ⊥) → judge rows ≡ refused number carried
    unfolding needs_call
    needs-refused f g = later-numbered number carried (answer_row answer 1 ∷ long_list_row (length listed) ∷ []) rows (f, (g, tt)) e

  pub unmet-told : (x : ℕ) → judge (needs_call table listed lent answer) ≡ refused 17 x →
      (x ≤ longest) × Smallest (unmet (counted table)) x
  unmet-told x e = (seventeen table listed lent x).0 (needs-refused 17 x e (λ z. omega arith) (λ z. omega arith))

  pub twice-told : (x : ℕ) → judge (needs_call table listed lent answer) ≡ refused 18 x →
      ((y : ℕ) → Length y → 1 ≤ met_by (counted table) y) × (x ≤ longest) × Smallest (met_twice (counted table)) x
  twice-told x e = (eighteen table listed lent x).0 (needs-refused 18 x e (λ z. omega arith) (λ z. omega arith))

module _ (table listed needs : List ℕ) (answer : List ℤ)
    (e : judge (needs_call table listed (length needs) (length answer)) ≡ accepted) where
  good : judge (need_rows table listed (length needs)) ≡ accepted
  good = needs-accepted table listed (length needs) (length answer) e

  -- the needs that are left
  abbrev pub told : List ℕ
  told = left_by (judge (needs_call table listed (length needs) (length answer))) (needs_of table listed) needs

  pub each-met-once : (x : ℕ) → Length x → met_by (counted table) x ≡ 1
  each-met-once = accepted-table table listed needs good

  pub need-told : (k : ℕ) → k < length listed → OwnLine (counted table) (get_or listed k 0) (get_or told k 0)
  need-told k l =
      subst (λ (v : Verdict). OwnLine (counted table) (get_or listed k 0) (get_or (left_by v (needs_of table listed) needs) k 0))
      (good ∙ sym e) (need-own table listed needs good k l)
