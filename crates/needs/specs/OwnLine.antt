-- The one line that meets a length: where a length is met once, its need is that line's, and the sum of all that meet it need.
use Rattle.std.specs.Prelude.{ℕ, zero, suc, ◌+◌, ◌≤◌, ◌<◌, ◌≡◌, refl, Bool, true, false, cond, List, [], ◌∷◌, length, get_or}
use Rattle.std.proofs.Common.{sym, ap, ◌∙◌, true≢false, le_of_suc-le-suc, arith}
use Rattle.sums.specs.Lists.{total, only}
use Rattle.needs.specs.NeedTable.{Line, meets, met_by, need_for}

-- the line at a place of a list
abbrev pub no_line : Line
no_line = record { from = 0; to = 0; need = 0 }

abbrev pub line_in : List Line → ℕ → Line
line_in lines k = get_or lines k no_line

-- the one line that meets a length, and its need
pub record OwnLine (lines : List Line) (x need : ℕ) : Type 0 where
  pub place : ℕ
  pub counts : place < length lines
  pub meets-it : meets (line_in lines place) x ≡ true
  pub no_other : (k : ℕ) → k < length lines → meets (line_in lines k) x ≡ true → k ≡ place
  pub its-need : need ≡ (line_in lines place).need

-- a line that meets a length counts
one-counts : (lines : List Line) (x k : ℕ) → k < length lines → meets (line_in lines k) x ≡ true → 1 ≤ met_by lines x
unfolding met_by
one-counts [] x k l e = absurd (omega arith)
one-counts (line ∷ lines) x zero l e = omega (arith, ap (λ (b : Bool). only b 1) e)
one-counts (line ∷ lines) x (suc k) l e = omega (arith, one-counts lines x k (le_of_suc-le-suc l) e)

pub own_line : (lines : List Line) (x : ℕ) → met_by lines x ≡ 1 → OwnLine lines x (need_for lines x)
unfolding met_by need_for
own_line [] x e = absurd (omega arith)
own_line (line ∷ lines) x e = go (meets line x) refl e (own_line lines x)
  where
    go : (b : Bool) → meets line x ≡ b → only b 1 + met_by lines x ≡ 1 →
        (met_by lines x ≡ 1 → OwnLine lines x (need_for lines x)) →
        OwnLine (line ∷ lines) x (cond b line.need (need_for lines x))
    go true m e later = record { place = 0; counts = omega arith; meets-it = m; no_other = other; its-need = refl }
      where
        other : (k : ℕ) → k < suc (length lines) → meets (line_in (line ∷ lines) k) x ≡ true → k ≡ 0
        other zero l h = refl
        other (suc k) l h = absurd (omega (arith, one-counts lines x k (le_of_suc-le-suc l) h))
    go false m e later =
        let r = later (omega arith) in
        record {
          place = suc r.place;
          counts = omega (arith, r.counts);
          meets-it = r.meets-it;
          no_other = other r;
          its-need = r.its-need;
        }
      where
        other : (r : OwnLine lines x (need_for lines x)) → (k : ℕ) → k < suc (length lines) →
            meets (line_in (line ∷ lines) k) x ≡ true → k ≡ suc r.place
        other r zero l h = absurd (true≢false (sym h ∙ m))
        other r (suc k) l h = ap suc (r.no_other k (le_of_suc-le-suc l) h)

-- what the lines that meet a length need together; where none meets it, nothing
unfoldable pub need_of : List Line → ℕ → ℕ
need_of lines x = total lines (λ (line : Line). only (meets line x) line.need)

none-need : (lines : List Line) (x : ℕ) → met_by lines x ≡ 0 → need_of lines x ≡ 0
unfolding met_by need_of
none-need [] x e = refl
none-need (line ∷ lines) x e = go (meets line x) e (none-need lines x)
  where
    go : (b : Bool) → only b 1 + met_by lines x ≡ 0 → (met_by lines x ≡ 0 → need_of lines x ≡ 0) →
        only b line.need + need_of lines x ≡ 0
    go true e later = absurd (omega arith)
    go false e later = omega (arith, later (omega arith))

pub need-sum : (lines : List Line) (x : ℕ) → met_by lines x ≡ 1 → need_for lines x ≡ need_of lines x
unfolding met_by need_of need_for
need-sum [] x e = absurd (omega arith)
need-sum (line ∷ lines) x e = go (meets line x) e (need-sum lines x) (none-need lines x)
  where
    go : (b : Bool) → only b 1 + met_by lines x ≡ 1 → (met_by lines x ≡ 1 → need_for lines x ≡ need_of lines x) →
        (met_by lines x ≡ 0 → need_of lines x ≡ 0) →
        cond b line.need (need_for lines x) ≡ only b line.need + need_of lines x
    go true e later none = omega (arith, none (omega arith))
    go false e later none = omega (arith, later (omega arith))
