-- What a caller's table answers. Within a screen's limits every table whatever answers a screen as it answers a dock; over them a screen
-- gets 21 and 20 exactly where its counts are over 4 and 12; and it never gets 2 or 4.
use Rattle.std.specs.Prelude.{ℕ, ◌≤◌, ◌<◌, Bool, cond, ◌↔◌, ◌⊎◌}
use Rattle.std.proofs.Math.Path.{◌≡◌, refl, ap}
use Rattle.std.proofs.Common.{sym, ◌∙◌, inl, inr, arith}
use Rattle.std.proofs.Math.Bool.{true, false}
use mathlib.Core.List.{List, [], ◌∷◌, ◌++◌, append-nil}
use borrow.Author.Tests.{ltb-true, ltb-false, lt-ltb, le-ltb, eqb-false, ne_eqb}
use Rattle.std.proofs.Math.Dec.{eqb, ltb}
use Rattle.sums.specs.Lists.{All}
use Rattle.order.specs.Order.{Order, processor_count, job_count}
use Rattle.order.specs.Refusals.{
  Limits,
  limits,
  screen,
  TableRow,
  Verdict,
  accepted,
  refused,
  verdict_of,
  judge,
  whole,
  row,
  processors_row,
  jobs_row,
  count_rows,
}
use Rattle.order.proofs.RefusalLaws.{
  judge-accepted,
  judge-refused-append,
  judge-accepted-append,
  later-numbered,
  accepted≢refused,
  whole-clear,
}
use Rattle.order.specs.Callers.{limits_of, Within, rows_by, rows_for}
use Rattle.order.specs.declared.Caller.{Caller}
use Rattle.order.specs.declared.Caller.TheVariants.{Dock, Screen}

-- the row of other limits, where it is known whether this one is row 2 and whether it is row 4
abbrev placed : Limits → (m n : ℕ) → (two four : Bool) → TableRow → TableRow
placed most m n two four r = cond two (processors_row most m) (cond four (jobs_row most n) r)

module _ (m n : ℕ) (few : Within screen m n) where
  same_row : (two four : Bool) (r : TableRow) (later : Verdict) →
      verdict_of (placed screen m n two four r).number (placed screen m n two four r).finding later
      ≡ verdict_of (placed limits m n two four r).number (placed limits m n two four r).finding later
  same_row true four r later = rw (le-ltb 4 m few.0, le-ltb 16 m (omega (arith, few.0)))
  same_row false true r later = rw (le-ltb 12 n few.1, le-ltb 48 n (omega (arith, few.1)))
  same_row false false r later = refl

  -- "An order within the screen's limits gets the dock's own reply": of every list of rows whatever
  pub same-within : (rows : List TableRow) → judge (rows_by screen m n rows) ≡ judge (rows_by limits m n rows)
  unfolding judge rows_by
  same-within [] = refl
  same-within (r ∷ rows) =
      same_row (eqb r.number 2) (eqb r.number 4) r (judge (rows_by screen m n rows))
      ∙ ap (λ (v : Verdict). verdict_of (placed limits m n (eqb r.number 2) (eqb r.number 4) r).number
      (placed limits m n (eqb r.number 2) (eqb r.number 4) r).finding v) (same-within rows)

-- rows 1 to 4 do not hold for a caller: the counts are within its limits
pub counts-within : (caller : Caller) (m n : ℕ) → judge (count_rows (limits_of caller) m n) ≡ accepted → Within (limits_of caller) m n
counts-within caller m n a =
    let c = (judge-accepted (count_rows (limits_of caller) m n)).0 a in (
      ltb-false (limits_of caller).processors m (whole-clear _ c.1.0),
      ltb-false (limits_of caller).jobs n (whole-clear _ c.1.1.1.0),
    )

same-for : (caller : Caller) (m n : ℕ) (rows : List TableRow) → judge (count_rows (limits_of caller) m n) ≡ accepted →
    judge (rows_by (limits_of caller) m n rows) ≡ judge (rows_by limits m n rows)
same-for Dock m n rows a = refl
same-for Screen m n rows a = same-within m n (counts-within Screen m n a) rows

-- a dock's table about an order with these counts: by a dock's limits it is itself
abbrev pub Itself : (m n : ℕ) → List TableRow → Type 0
Itself m n rows = rows_by limits m n rows ≡ rows

module _ (caller : Caller) (m n : ℕ) where
  -- where the caller's counts are accepted, its table answers what the dock's does
  pub counts-pass : (rows : List TableRow) → Itself m n rows → judge (count_rows (limits_of caller) m n) ≡ accepted →
      judge (rows_by (limits_of caller) m n rows) ≡ judge rows
  counts-pass rows same a = same-for caller m n rows a ∙ ap judge same

  -- where they are refused, its table answers that refusal, whatever follows
  pub counts-refuse : (later : List TableRow) (number carried : ℕ) →
      judge (count_rows (limits_of caller) m n) ≡ refused number carried →
      judge (rows_by (limits_of caller) m n (count_rows limits m n ++ later)) ≡ refused number carried
  unfolding rows_by
  counts-refuse later number carried e =
      judge-refused-append (count_rows (limits_of caller) m n) (rows_by (limits_of caller) m n later) number carried e

-- a table's answer within the screen's limits
pub screen-same : (o : Order) (rows : List TableRow) → Itself (processor_count o) (job_count o) rows →
    Within screen (processor_count o) (job_count o) → judge (rows_for Screen o rows) ≡ judge rows
screen-same o rows same few = same-within (processor_count o) (job_count o) few rows ∙ ap judge same

-- whether some row has this number; one that none has is not answered
unfoldable pub numbered : ℕ → List TableRow → Bool
numbered k [] = false
numbered k (r ∷ rows) = cond (eqb r.number k) true (numbered k rows)

none-numbered : (k : ℕ) (rows : List TableRow) → numbered k rows ≡ false → All (λ (r : TableRow). r.number ≡ k → ⊥) rows
unfolding numbered
none-numbered k [] e = tt
none-numbered k (r ∷ rows) e = go (eqb r.number k) refl e (none-numbered k rows)
  where
    go : (b : Bool) → eqb r.number k ≡ b → cond b true (numbered k rows) ≡ false →
        (numbered k rows ≡ false → All (λ (r : TableRow). r.number ≡ k → ⊥) rows) → All (λ (r : TableRow). r.number ≡ k → ⊥) (r ∷ rows)
    go true t h rest = let z : ◌≡◌ {A = ℕ} 0 1 = cc in absurd (omega arith)
    go false t h rest = (eqb-false r.number k t, rest h)

absent : (k c : ℕ) (rows : List TableRow) → All (λ (r : TableRow). r.number ≡ k → ⊥) rows → judge rows ≡ refused k c → ⊥
unfolding judge
absent k c rows h e = accepted≢refused (later-numbered k c rows [] h (rw append-nil e))

pub not-numbered : (k c : ℕ) (rows : List TableRow) → numbered k rows ≡ false → judge rows ≡ refused k c → ⊥
not-numbered k c rows h e = absent k c rows (none-numbered k rows h) e

-- "in place of 4 and 2": no table whatever answers these to a screen
module _ (m n k : ℕ) (replaced-number : (k ≡ 2) ⊎ (k ≡ 4)) where
  replaced : (rows : List TableRow) → All (λ (r : TableRow). r.number ≡ k → ⊥) (rows_by screen m n rows)
  unfolding rows_by
  replaced [] = tt
  replaced (r ∷ rows) = (go (eqb r.number 2) (eqb r.number 4) refl refl replaced-number, replaced rows)
    where
      go : (two four : Bool) → eqb r.number 2 ≡ two → eqb r.number 4 ≡ four → (k ≡ 2) ⊎ (k ≡ 4) →
          (placed screen m n two four r).number ≡ k → ⊥
      go true four s t (inl e) h = omega (arith, e, h)
      go true four s t (inr e) h = omega (arith, e, h)
      go false true s t (inl e) h = omega (arith, e, h)
      go false true s t (inr e) h = omega (arith, e, h)
      go false false s t (inl e) h = eqb-false r.number 2 s (h ∙ e)
      go false false s t (inr e) h = eqb-false r.number 4 t (h ∙ e)

  pub screen-never : (rows : List TableRow) (c : ℕ) → judge (rows_by screen m n rows) ≡ refused k c → ⊥
  screen-never rows c e = absent k c (rows_by screen m n rows) (replaced rows) e

-- 21 and 20 of a table that has the counts' rows somewhere and no other row of these two numbers
module _ (m n : ℕ) (earlier later : List TableRow) where
  abbrev pub counted : List TableRow
  counted = earlier ++ (count_rows screen m n ++ later)

  passed : (k c : ℕ) → numbered k earlier ≡ false → judge counted ≡ refused k c →
      (judge earlier ≡ accepted) × (judge (count_rows screen m n ++ later) ≡ refused k c)
  passed k c none e = decided (judge earlier) refl
    where
      decided : (v : Verdict) → judge earlier ≡ v → (judge earlier ≡ accepted) × (judge (count_rows screen m n ++ later) ≡ refused k c)
      decided accepted f = (f, sym (judge-accepted-append earlier (count_rows screen m n ++ later) f) ∙ e)
      decided (refused j d) f =
          let same : refused j d ≡ refused k c
          = sym (judge-refused-append earlier (count_rows screen m n ++ later) j d f) ∙ e in
          absurd (not-numbered k c earlier none (f ∙ same))

  -- "over 4 processors is 21"
  pub screen-processors : numbered 21 earlier ≡ false → numbered 21 later ≡ false →
      (judge counted ≡ refused 21 0) ↔ ((judge earlier ≡ accepted) × (4 < m))
  unfolding judge numbered
  screen-processors before after = (told, says)
    where
      over : (b : Bool) → ltb 4 m ≡ b → judge (count_rows screen m n ++ later) ≡ refused 21 0 → 4 < m
      over true t e = ltb-true 4 m t
      over false t e =
          let rest : List TableRow = row 1 (whole (eqb m 0)) ∷ row 3 (whole (eqb n 0)) ∷ jobs_row screen n ∷ later in
          absurd (not-numbered 21 0 rest after (rw t at e))

      told : judge counted ≡ refused 21 0 → (judge earlier ≡ accepted) × (4 < m)
      told e = let p = passed 21 0 before e in (p.0, over (ltb 4 m) refl p.1)

      says : (judge earlier ≡ accepted) × (4 < m) → judge counted ≡ refused 21 0
      says h =
          judge-accepted-append earlier (count_rows screen m n ++ later) h.0
          ∙ rw (ne_eqb m 0 (λ e. omega (arith, h.1, e)), lt-ltb 4 m h.1)

  -- "over 12 jobs is 20", where there are 1 to 4 processors
  pub screen-jobs : numbered 20 earlier ≡ false → numbered 20 later ≡ false →
      (judge counted ≡ refused 20 0) ↔ ((judge earlier ≡ accepted) × (1 ≤ m) × (m ≤ 4) × (12 < n))
  unfolding judge numbered
  screen-jobs before after = (told, says)
    where
      over : (none many nothing over : Bool) → eqb m 0 ≡ none → ltb 4 m ≡ many → eqb n 0 ≡ nothing → ltb 12 n ≡ over →
          judge (count_rows screen m n ++ later) ≡ refused 20 0 → (1 ≤ m) × (m ≤ 4) × (12 < n)
      over true b c d s t u v e = let z : ◌≡◌ {A = ℕ} 1 20 = cc (rw s at e) in absurd (omega arith)
      over false true c d s t u v e = let z : ◌≡◌ {A = ℕ} 21 20 = cc (rw (s, t) at e) in absurd (omega arith)
      over false false true d s t u v e = let z : ◌≡◌ {A = ℕ} 3 20 = cc (rw (s, t, u) at e) in absurd (omega arith)
      over false false false true s t u v e = (omega (arith, eqb-false m 0 s), ltb-false 4 m t, ltb-true 12 n v)
      over false false false false s t u v e = absurd (not-numbered 20 0 later after (rw (s, t, u, v) at e))

      told : judge counted ≡ refused 20 0 → (judge earlier ≡ accepted) × (1 ≤ m) × (m ≤ 4) × (12 < n)
      told e =
          let p = passed 20 0 before e in
          let h = over (eqb m 0) (ltb 4 m) (eqb n 0) (ltb 12 n) refl refl refl refl p.1 in
          (p.0, h.0, h.1, h.2)

      says : (judge earlier ≡ accepted) × (1 ≤ m) × (m ≤ 4) × (12 < n) → judge counted ≡ refused 20 0
      says h =
          judge-accepted-append earlier (count_rows screen m n ++ later) h.0
          ∙ rw (
            ne_eqb m 0 (λ e. omega (arith, h.1, e)),
            le-ltb 4 m h.2,
            ne_eqb n 0 (λ e. omega (arith, h.3, e)),
            lt-ltb 12 n h.3,
          )
