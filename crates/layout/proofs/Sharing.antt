-- A share laid piece by piece: each turn writes one row and goes on where the definition does.
use Prim.Native.Nat.{ℕ, ◌+◌, ◌-◌, ◌*◌, ◌≤◌, ◌<◌, min}
use mathlib.Core.Path.{◌≡◌, refl, ap, ◌∙◌}
use mathlib.Core.Bool.{true}
use mathlib.Core.List.{List, [], ◌∷◌, ◌++◌, append-nil}
use native.Mathlib.Decide.{dec_lt}
use native.Mathlib.Omega.{arith}
use native.Mathlib.Numerals.{add-one}
use borrow.Author.Tests.{lt-ltb, le-ltb}
use lib.Dec.{ltb}
use lib.ListN.{length, get_or, drop, drop_of_length-le}
use lib.Seq.{drop-cons}
use Rattle.sums.specs.Members.{All-at}
use Rattle.order.specs.Order.{Numbers}
use Rattle.wrap.specs.Layout.{Share}
use Rattle.layout.specs.Sheet.{Sheet, Good}
use Rattle.layout.specs.Laid.{Laid, Numbering, portion, rows_from, piece, behind, Inside, ShareLaid}
use Rattle.layout.specs.declared.Place.{Place}
use Rattle.layout.proofs.Writing.{laid_none, laid_then, laid-frame, laid-room}
use Rattle.layout.proofs.Filling.{fill-no-processor, fill-short, fill-long, fill-some}

-- a share under way: of `minutes` from the place `first` on, `left` are still to be laid, from `place` on; every processor
-- that was filled took at most a row, and so did the piece that ended the share
pub record Going (start end : ℕ) (ps : List ℕ) (job minutes : ℕ) (first : Place) (before : Sheet) (place : Place) (left : ℕ)
    (after : Sheet) : Type 0 where
  pub goes_on : (later : List Share) →
      Laid (rows_from start end ps first (portion job minutes ++ later))
      (rows_from start end ps place (portion job left ++ later)) before after
  pub inside : Inside start end (length ps) place
  pub numbers : Numbering ps
  pub few : after.count + first.processor ≤ before.count + place.processor + (1 - left)
  pub room : 4 * (before.count + length (rows_from start end ps first (portion job minutes ++ []))) ≤ length before.buffer

-- no minute, no share
pub share-none : {start end : ℕ} (ps : List ℕ) {place : Place} (job minutes : ℕ) (b : Sheet) →
    Inside start end (length ps) place → Good b → minutes ≡ 0 → ShareLaid start end ps place place (portion job minutes) b b
share-none {start} {end} ps {place} job minutes b i g e =
    rw e (record {
      goes_on = λ later. laid_none (rows_from start end ps place later) b g;
      inside = i;
      few = omega arith;
    })

pub going_start : {start end : ℕ} (ps : List ℕ) {place : Place} (job minutes : ℕ) (b : Sheet) →
    Inside start end (length ps) place → Numbering ps → Good b →
    4 * (b.count + length (rows_from start end ps place (portion job minutes))) ≤ length b.buffer →
    Going start end ps job minutes place b place minutes b
going_start {start} {end} ps {place} job minutes b i numbers g room =
    record {
      goes_on = λ later. laid_none (rows_from start end ps place (portion job minutes ++ later)) b g;
      inside = i;
      numbers = numbers;
      few = omega arith;
      room = rw (append-nil (portion job minutes)) room;
    }

module _ {start end : ℕ} {ps : List ℕ} {job minutes : ℕ} {first : Place} {b : Sheet} {place : Place} {left : ℕ} {c : Sheet}
    (g : Going start end ps job minutes first b place left c) where
  pub going-good : Good c
  going-good = (g.goes_on []).good

  -- nothing is left to be laid: no minute of the share, or no processor
  done : ((later : List Share) →
      rows_from start end ps place (portion job left ++ later) ≡ rows_from start end ps place later) →
      ShareLaid start end ps first place (portion job minutes) b c
  done e = record { goes_on = λ later. rw (e later) at (g.goes_on later); inside = g.inside; few = omega (arith, g.few) }

  pub going_done : left ≤ 0 → ShareLaid start end ps first place (portion job minutes) b c
  going_done z = done (λ later. rw (le-ltb 0 left z))

  pub going_end : length ps ≤ place.processor → ShareLaid start end ps first place (portion job minutes) b c
  going_end l =
      let none = drop_of_length-le ps {i = place.processor} l in
      done (λ later. simp (none, fill-no-processor))

  module _ (l : place.processor < length ps) (minute : 0 < left) where
    some : ltb 0 left ≡ true
    some = lt-ltb 0 left minute

    abbrev number : ℕ
    number = get_or ps place.processor 0

    abbrev others : List ℕ
    others = drop (place.processor + 1) ps

    here : drop place.processor ps ≡ number ∷ others
    here = rw add-one (drop-cons ps place.processor 0 l)

    -- the processor has a number from 1 to 16
    pub going-number : Numbers 16 number
    going-number = All-at (Numbers 16) ps 0 g.numbers place.processor l

    -- there is room for one row more
    pub going-room : 4 * c.count + 4 ≤ length c.buffer
    going-room =
        let q = g.goes_on [] in
        let s : 1 ≤ length (rows_from start end ps place (portion job left ++ [])) =
        rw (some, here) (fill-some start end number others place.at job left []) in
        omega (arith, q.same_length, g.room, laid-room q)

    -- one piece more
    module _ {part : ℕ} (fits : part ≡ min left (end - place.at)) {next : Place} {d : Sheet}
        (h : Laid (piece number place job part ∷ []) [] c d) where
      further : ((later : List Share) → rows_from start end ps place (portion job left ++ later)
          ≡ piece number place job part ∷ rows_from start end ps next (portion job (left - part) ++ later)) →
          Inside start end (length ps) next × (place.processor + 1 ≤ next.processor + (1 - (left - part))) →
          Going start end ps job minutes first b next (left - part) d
      further e i =
          record {
            goes_on = λ later.
                laid_then (rw (e later) at (g.goes_on later)) (laid-frame _ h);
            inside = i.0;
            numbers = g.numbers;
            few = omega (arith, g.few, laid-room h);
            room = g.room;
          }

      -- and goes on with fewer minutes, or on a later processor
      pub going_more : next ≡ behind start end place part →
          Going start end ps job minutes first b next (left - part) d
          × (left - part + (length ps - next.processor) < left + (length ps - place.processor))
      going_more e =
          elim (dec_lt (place.at + left) end) [
            | yes s ↦
                let m : part ≡ left = omega arith in
                let z : left - left ≡ 0 = omega arith in
                let k : next ≡ record { processor = place.processor; at = place.at + left } =
                e ∙ rw (m, lt-ltb (place.at + left) end s) refl in (
                  further
                      (λ later. rw (some, k, m, z, here) (fill-short start end number others place.at job left later s))
                      (rw k (omega (arith, g.inside))),
                  omega (arith, ap (λ (x : Place). x.processor) k),
                )
            | no s ↦
                let m : place.at + part ≡ end = omega (arith, g.inside) in
                let z : left - part ≡ place.at + left - end = omega arith in
                let k : next ≡ record { processor = place.processor + 1; at = start } =
                e ∙ rw (m, le-ltb end end (omega arith)) refl in (
                  further
                      (λ later. rw (some, k, m, z, here)
                      (fill-long start end number others place.at job left later (omega arith)))
                      (rw k (omega (arith, g.inside))),
                  omega (arith, ap (λ (x : Place). x.processor) k),
                )
          ]
