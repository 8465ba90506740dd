-- Rows as numbers, four to a row, and rows written one after the other: none, one, and some after others.
use Prim.Native.Nat.{ℕ, ◌+◌, ◌-◌, ◌*◌, ◌≤◌}
use mathlib.Core.Bool.{true, false}
use mathlib.Core.Path.{◌≡◌, refl, sym, ap, ◌∙◌}
use mathlib.Core.List.{List, [], ◌∷◌, ◌++◌, append_assoc, append-nil}
use mathlib.Core.Logic.{◌⊎◌, ◌≢◌, inl, inr}
use native.Mathlib.Omega.{arith}
use native.Mathlib.Decide.{ℕ_discrete, dec_lt}
use borrow.Author.Tests.{eq-eqb, ne_eqb, true-eqb, false-eqb}
use lib.Dec.{eqb}
use borrow.Rule.Slice.PartMut.{put_mid}
use lib.ListN.{length, get_or, take, drop, set, length-append, length-drop, length-set}
use lib.Seq.{length-take-le, drop-drop, set_out, get_or-set_same, get_or-set_other}
use Rattle.std.proofs.Common.{Option, Some, None, MatchOption}
use Rattle.std.specs.Option.{option_eq}
use Rattle.plan.specs.Plan.{Row}
use Rattle.plan.specs.Check.{numbers_of}
use Rattle.layout.specs.Sheet.{Sheet, sheet, ending_job, last_for, added, added_all, Good}
use Rattle.layout.specs.Laid.{Laid}

-- four numbers to a row
pub numbers-append : (xs ys : List Row) → numbers_of (xs ++ ys) ≡ numbers_of xs ++ numbers_of ys
unfolding numbers_of
numbers-append [] ys = refl
numbers-append (x ∷ xs) ys =
    ap (λ (l : List ℕ). x.job ∷ x.processor ∷ x.from ∷ x.to ∷ l) (numbers-append xs ys)

pub numbers-one : (x : Row) → numbers_of (x ∷ []) ≡ x.job ∷ x.processor ∷ x.from ∷ x.to ∷ []
unfolding numbers_of
numbers-one x = refl

-- the four numbers of a row, written at its place
pub four-written : (s part : List ℕ) (a b₀ b₁ b₂ b₃ : ℕ) → part ≡ b₀ ∷ b₁ ∷ b₂ ∷ b₃ ∷ [] →
    put_mid a (a + 4 - a) s part ≡ take a s ++ (b₀ ∷ b₁ ∷ b₂ ∷ b₃ ∷ drop (a + 4) s)
four-written s part a b₀ b₁ b₂ b₃ e =
    let f : a + 4 - a ≡ 4 = omega arith in rw (f, e, drop-drop 4 a s) refl

-- the job that a processor ends with is the one that was answered; where no job was, or another, it is not this one
module _ {ending job : ℕ} where
  pub ends-with-job : (answer : Option ℕ) → MatchOption answer (ending ≡ 0) (λ j. ending ≡ j) →
      true ≡ option_eq eqb answer (Some job) → ending ≡ job
  ends-with-job None h e = cc
  ends-with-job (Some j) h e = h ∙ true-eqb j job e

  pub ends-without : (answer : Option ℕ) → MatchOption answer (ending ≡ 0) (λ j. ending ≡ j) → 1 ≤ job →
      false ≡ option_eq eqb answer (Some job) → ending ≢ job
  ends-without None h some e f = omega (arith, h, f)
  ends-without (Some j) h some e f = false-eqb j job e (sym h ∙ f)

-- a sheet with a row that lengthens one, and with one behind all
abbrev pub longer : Sheet → Row → Sheet
longer s x = sheet s.count s.last (set s.buffer (4 * last_for s x - 1) x.to)

abbrev pub behind_all : Sheet → Row → Sheet
behind_all s x =
    sheet (s.count + 1) (set s.last (x.processor - 1) (s.count + 1))
    (take (4 * s.count) s.buffer
    ++ (x.job ∷ x.processor ∷ x.from ∷ x.to ∷ drop (4 * s.count + 4) s.buffer))

pub added-longer : (s : Sheet) (x : Row) → ending_job s.buffer (last_for s x) x.from ≡ x.job → added s x ≡ longer s x
unfolding added
added-longer s x e = rw (eq-eqb (ending_job s.buffer (last_for s x) x.from) x.job e) refl

pub added-behind : (s : Sheet) (x : Row) → ending_job s.buffer (last_for s x) x.from ≢ x.job → added s x ≡ behind_all s x
unfolding added
added-behind s x ne = rw (ne_eqb (ending_job s.buffer (last_for s x) x.from) x.job ne) refl

pub added-case : (s : Sheet) (x : Row) →
    ((ending_job s.buffer (last_for s x) x.from ≡ x.job) × (added s x ≡ longer s x))
    ⊎ ((ending_job s.buffer (last_for s x) x.from ≢ x.job) × (added s x ≡ behind_all s x))
added-case s x =
    elim (ℕ_discrete (ending_job s.buffer (last_for s x) x.from) x.job) [
      | yes e ↦ inl (e, added-longer s x e)
      | no ne ↦ inr (ne, added-behind s x ne)
    ]

-- one row in a buffer with room for it
module _ (s : Sheet) (x : Row) (g : Good s) (room : 4 * s.count + 4 ≤ length s.buffer) where
  behind-length : length (behind_all s x).buffer ≡ length s.buffer
  behind-length =
      rw (length-append, length-take-le (4 * s.count) s.buffer (omega arith))
      (omega (arith, length-drop (4 * s.count + 4) s.buffer))

  behind-stands : (i : ℕ) → get_or (behind_all s x).last i 0 ≤ s.count + 1
  behind-stands i =
      elim (ℕ_discrete i (x.processor - 1)) [
        | no ne ↦ rw (get_or-set_other s.last (x.processor - 1) i (s.count + 1) 0 ne) (omega (arith, g.stand i))
        | yes e ↦
            elim (dec_lt i (length s.last)) [
              | yes l ↦ rw (← e) (rw (get_or-set_same s.last i (s.count + 1) 0 l) (omega arith))
              | no l ↦ rw (set_out s.last (x.processor - 1) (s.count + 1) (omega arith)) (omega (arith, g.stand i))
            ]
      ]

  pub added-good : Good (added s x) × (length (added s x).buffer ≡ length s.buffer) × ((added s x).count ≤ s.count + 1)
  added-good =
      elim (added-case s x) [
        | inl c ↦ rw c.1 (
          record {
            sixteen = g.sixteen;
            stand = g.stand;
            room = rw (length-set s.buffer (4 * last_for s x - 1) x.to) g.room;
          },
          length-set s.buffer (4 * last_for s x - 1) x.to,
          omega arith,
        )
        | inr c ↦ rw c.1 (
          record {
            sixteen = length-set s.last (x.processor - 1) (s.count + 1) ∙ g.sixteen;
            stand = behind-stands;
            room = omega (arith, behind-length);
          },
          behind-length,
          omega arith,
        )
      ]

-- some rows, and then more
pub added-append : (s : Sheet) (xs ys : List Row) → added_all s (xs ++ ys) ≡ added_all (added_all s xs) ys
unfolding added_all
added-append s [] ys = refl
added-append s (x ∷ xs) ys = added-append (added s x) xs ys

-- nothing yet
pub laid_none : (whole : List Row) (s : Sheet) → Good s → Laid whole whole s s
unfolding added_all
laid_none whole s g =
    record { laid = []; split = refl; sheet-is = refl; few = omega arith; good = g; same_length = refl }

-- one row
pub laid-row : (x : Row) (rest : List Row) (s t : Sheet) → Good s → 4 * s.count + 4 ≤ length s.buffer → t ≡ added s x →
    Laid (x ∷ rest) rest s t
unfolding added_all
laid-row x rest s t g room e =
    let h = added-good s x g room in
    record {
      laid = x ∷ [];
      split = refl;
      sheet-is = e;
      few = rw e h.2;
      good = rw e h.0;
      same_length = rw e h.1;
    }

-- some rows, and then more
pub laid_then : {whole rest last : List Row} {s t u : Sheet} → Laid whole rest s t → Laid rest last t u → Laid whole last s u
laid_then {last = last} {s = s} p q =
    record {
      laid = p.laid ++ q.laid;
      split = p.split ∙ ap (λ (l : List Row). p.laid ++ l) q.split ∙ sym (append_assoc p.laid q.laid last);
      sheet-is = q.sheet-is ∙ ap (λ (v : Sheet). added_all v q.laid) p.sheet-is ∙ sym (added-append s p.laid q.laid);
      few = omega (arith, p.few, q.few, length-append p.laid q.laid);
      good = q.good;
      same_length = q.same_length ∙ p.same_length;
    }

-- what is still to be written has the room that is left
pub laid-room : {whole rest : List Row} {s t : Sheet} → Laid whole rest s t → t.count + length rest ≤ s.count + length whole
laid-room {rest = rest} p = omega (arith, p.few, ap length p.split, length-append p.laid rest)

-- all rows are written
pub laid-all : {whole : List Row} {s t : Sheet} → Laid whole [] s t → t ≡ added_all s whole
laid-all {s = s} p = p.sheet-is ∙ ap (added_all s) (sym (p.split ∙ append-nil p.laid))

-- the same, where more is to follow
pub laid-frame : {whole rest : List Row} (later : List Row) {s t : Sheet} → Laid whole rest s t →
    Laid (whole ++ later) (rest ++ later) s t
laid-frame {rest = rest} later p =
    record {
      laid = p.laid;
      split = ap (λ (l : List Row). l ++ later) p.split ∙ append_assoc p.laid rest later;
      sheet-is = p.sheet-is;
      few = p.few;
      good = p.good;
      same_length = p.same_length;
    }
