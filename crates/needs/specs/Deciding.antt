-- The verdict of a table from its lines alone: climbing from line to line, and pair after pair. So that a case can be computed, where the
-- definition looks at each length.
use Rattle.std.specs.Prelude.{ℕ, zero, suc, ◌+◌, ◌≤◌, ◌<◌, min, max, ◌≡◌, refl, Bool, true, false, cond, not, ◌&&◌, ◌||◌, List, [], ◌∷◌, leb, length}
use Rattle.std.proofs.Common.{ap, inl, inr, arith, leb-true, leb-false, ne_eqb}
use Rattle.std.proofs.Math.Decide.{dec_lt}
use Rattle.sums.specs.Lists.{only}
use Rattle.order.specs.Refusals.{Finding, clear, holds, Verdict, judge, row, first, time_in_range, room_row}
use Rattle.order.proofs.RefusalLaws.{either_true}
use Rattle.needs.specs.NeedTable.{Line, meets, counted, met_by, longest, every_length, unmet, met_twice, table_rows, need_rows}
use Rattle.needs.specs.Inside.{Smallest}
use Rattle.needs.specs.MeetLaws.{meets-facts, facts-meet}
use Rattle.needs.specs.SmallestLaws.{smallest-found, smallest-none, smallest-same, smallest-either, none-twice}
use Rattle.needs.specs.SmallestLaws.{both-begun, first-apart, second-apart, none_yet, one_more, all-before}

-- the place behind the first line that meets x, and after k such climbs
unfoldable pub behind : List Line → ℕ → ℕ
behind [] x = x
behind (line ∷ lines) x = cond (meets line x) (suc line.to) (behind lines x)

unfoldable pub climbed : ℕ → List Line → ℕ → ℕ
climbed zero lines x = x
climbed (suc k) lines x = climbed k lines (behind lines x)

-- climbing from 1 has come to the top, or to a length that no line meets
abbrev pub stopped : ℕ → List Line → Bool
stopped k lines = leb (suc longest) (climbed k lines 1) || unmet lines (climbed k lines 1)

-- the smallest length that two lines both meet, that a line and one of others meet, and that any two meet; beyond the longest if none
abbrev first_both : Line → Line → ℕ
first_both a b =
    cond (meets a (max a.from b.from) && meets b (max a.from b.from)) (max a.from b.from) (suc longest)

abbrev first_with : Line → List Line → ℕ
first_with line [] = suc longest
first_with line (other ∷ lines) = min (first_with line lines) (first_both line other)

unfoldable pub first_twice : List Line → ℕ
first_twice [] = suc longest
first_twice (line ∷ lines) = min (first_twice lines) (first_with line lines)

-- what a row finds whose smallest length is r
abbrev found_at : ℕ → Finding
found_at r = cond (leb r longest) (holds r) clear

-- the verdict after k climbs
abbrev pub decide : ℕ → (table listed : List ℕ) → (lent : ℕ) → Verdict
decide k table listed lent =
    judge (row 17 (found_at (climbed k (counted table) 1)) ∷ row 18 (found_at (first_twice (counted table)))
    ∷ row 5 (first (λ (x : ℕ). not (time_in_range x)) listed) ∷ room_row lent (length listed) ∷ [])

-- one line before others
met-first : (line : Line) (lines : List Line) (x : ℕ) → met_by (line ∷ lines) x ≡ met_by lines x + only (meets line x) 1
unfolding met_by
met-first line lines x = omega arith

-- a climb passes over met lengths only, and stays within the lengths and the one beyond
abbrev Climbs : List Line → ℕ → ℕ → Type 0
Climbs lines x z = (1 ≤ z) × (z ≤ suc longest) × ((y : ℕ) → x ≤ y → y < z → 1 ≤ met_by lines y)

behind-climbs : (lines : List Line) (x : ℕ) → 1 ≤ x → x ≤ suc longest → Climbs lines x (behind lines x)
unfolding behind
behind-climbs [] x o h = (o, h, λ y a b. absurd (omega arith))
behind-climbs (line ∷ lines) x o h = go (meets line x) refl (behind-climbs lines x o h)
  where
    go : (b : Bool) → meets line x ≡ b → Climbs lines x (behind lines x) →
        Climbs (line ∷ lines) x (cond b (suc line.to) (behind lines x))
    go false e c = (c.0, c.1, λ y a b. omega (arith, met-first line lines y, c.2 y a b))
    go true e c =
        let m = meets-facts line x e in
        let on : (y : ℕ) → x ≤ y → y < suc line.to → meets line y ≡ true
        = λ y a b. facts-meet line y
        (record { from_one = m.from_one; begun = omega (arith, m.begun); not-over = omega arith; to-most = m.to-most }) in
        (omega arith, omega (arith, m.to-most), λ y a b. omega (arith, met-first line lines y, ap (λ (t : Bool). only t 1) (on y a b)))

climbed-smallest : (k : ℕ) (lines : List Line) (x : ℕ) → 1 ≤ x → x ≤ suc longest →
    ((y : ℕ) → 1 ≤ y → y < x → unmet lines y ≡ false) → (leb (suc longest) (climbed k lines x) || unmet lines (climbed k lines x)) ≡ true →
    Smallest (unmet lines) (climbed k lines x)
unfolding climbed
climbed-smallest zero lines x o h met stop =
    let here : x ≤ longest → unmet lines x ≡ true
    = λ l. elim (either_true (leb (suc longest) x) (unmet lines x) stop)
    [ inl t ↦ absurd (omega (arith, leb-true (suc longest) x t)) | inr t ↦ t ] in
    record { from_one = o; most = h; before = met; here = here }
climbed-smallest (suc k) lines x o h met stop =
    let c = behind-climbs lines x o h in
    climbed-smallest k lines (behind lines x) c.0 c.1
    (λ y a b. elim (dec_lt y x) [
      | yes l ↦ met y a l
      | no l ↦ let some = c.2 y (omega arith) b in ne_eqb (met_by lines y) 0 (λ e. omega arith)
    ])
    stop

-- of two lines, of a line and others, and of any two, the first length is the smallest
both-smallest : (a b : Line) → Smallest (λ x. meets a x && meets b x) (first_both a b)
both-smallest a b = go (max a.from b.from) refl _ refl _ refl
  where
    go : (x : ℕ) → x ≡ max a.from b.from → (s : Bool) → meets a x ≡ s → (t : Bool) → meets b x ≡ t →
        Smallest (λ x. meets a x && meets b x) (cond (s && t) x (suc longest))
    go x is true e true f = both-begun a b x is e f
    go x is true e false f = second-apart a b x is f
    go x is false e t f = first-apart a b x is e

with-smallest : (line : Line) (lines : List Line) → Smallest (λ x. meets line x && leb 1 (met_by lines x)) (first_with line lines)
unfolding met_by
with-smallest line [] = smallest-same _ _ (suc longest) (λ x. none_yet false (meets line x) 0 refl) (none-twice [])
with-smallest line (other ∷ lines) =
    smallest-same _ _ (first_with line (other ∷ lines))
    (λ x. one_more false (meets line x) (meets other x) (met_by lines x) (met_by (other ∷ lines) x) (met-first other lines x))
    (smallest-either _ _ _ _ _ (with-smallest line lines) (both-smallest line other) refl)

twice-smallest : (lines : List Line) → Smallest (met_twice lines) (first_twice lines)
unfolding first_twice
twice-smallest [] = none-twice []
twice-smallest (line ∷ lines) =
    smallest-same _ _ (first_twice (line ∷ lines))
    (λ x. all-before (meets line x) (met_by lines x) (met_by (line ∷ lines) x) (met-first line lines x))
    (smallest-either _ _ _ _ _ (twice-smallest lines) (with-smallest line lines) refl)

-- what a row of the definition finds
found-at : (test : ℕ → Bool) (r : ℕ) → Smallest test r → first test every_length ≡ found_at r
found-at test r s = go (leb r longest) refl
  where
    go : (b : Bool) → leb r longest ≡ b → first test every_length ≡ cond b (holds r) clear
    go true e = smallest-found test r s (leb-true r longest e)
    go false e = smallest-none test r s (leb-false r longest e)

-- where climbing has stopped, the table is judged as decided
pub decided : (k : ℕ) (table listed : List ℕ) (lent : ℕ) → stopped k (counted table) ≡ true →
    judge (need_rows table listed lent) ≡ decide k table listed lent
unfolding judge need_rows table_rows
decided k table listed lent e =
    let unmet-first = climbed-smallest k (counted table) 1 (omega arith) (omega arith) (λ y a b. absurd (omega arith)) e in
    rw (found-at _ _ unmet-first, found-at _ _ (twice-smallest (counted table))) refl
