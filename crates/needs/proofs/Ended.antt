-- What filling in comes to, refusal by refusal, and the buffer as it is filled.
use Prim.Native.Nat.{ℕ, suc, ◌+◌, ◌≤◌, ◌<◌}
use mathlib.Core.Path.{◌≡◌, refl, sym, ap, subst, ◌∙◌}
use mathlib.Core.Bool.{Bool, true, false, not}
use mathlib.Core.List.{List, [], ◌∷◌, ◌++◌, map, append_assoc, map-append}
use native.Mathlib.Omega.{arith}
use native.Mathlib.Numerals.{add-one}
use borrow.Author.Tests.{lt-ltb, le-ltb}
use lib.ListN.{length, get_or, set, take, drop, length-map}
use lib.Seq.{set_at, drop-cons, take-suc, length-take-le}
use Rattle.std.specs.Prelude.{cond, Option, None, Some}
use Rattle.std.specs.List.{position, position_from}
use Rattle.std.proofs.lemmas.Iterator.Adapters.{position_from-zero}
use Rattle.order.specs.Refusals.{
  Finding,
  clear,
  holds,
  Verdict,
  accepted,
  refused,
  judge,
  Answer,
  answer,
  refusal,
  answer_by,
  left_by,
  first_after,
  first,
  time_in_range,
}
use Rattle.needs.specs.NeedTable.{Line, counted, unmet, met_twice, longest, every_length, table_rows, need_rows, need_for, needs_of}
use Rattle.needs.specs.Inside.{first_lines, SmallestOf}
use Rattle.needs.specs.SmallestLaws.{smallest-found, smallest-none}

-- a place is a finding, counted from 1
abbrev seen_at : Option ℕ → Finding
seen_at None = clear
seen_at (Some k) = holds (suc k)

first-from : (test : ℕ → Bool) (k : ℕ) (xs : List ℕ) → first_after k test xs ≡ seen_at (position_from test k xs)
unfolding first_after
first-from test k [] = refl
first-from test k (x ∷ xs) = go (test x) (first-from test (k + 1) xs)
  where
    go : (b : Bool) → first_after (k + 1) test xs ≡ seen_at (position_from test (k + 1) xs) →
        cond b (holds (suc k)) (first_after (suc k) test xs) ≡ seen_at (cond b (Some k) (position_from test (k + 1) xs))
    go true e = refl
    go false e = subst (λ (m : ℕ). first_after m test xs ≡ seen_at (position_from test (k + 1) xs)) (add-one k) e

first-seen : (test : ℕ → Bool) (xs : List ℕ) (r : Option ℕ) → r ≡ position test xs → first test xs ≡ seen_at r
first-seen test xs r e = first-from test 0 xs ∙ ap seen_at (sym (e ∙ position_from-zero test xs))

-- the answer and the buffer, by the verdict
abbrev pub Ended : Verdict → ℕ → List ℕ → List ℕ → Answer ℕ → List ℕ → Type 0
Ended v n needs entry told exit = (told ≡ answer_by v n) × (exit ≡ left_by v needs entry)

pub refused-ends : (v : Verdict) (number carried n : ℕ) (needs entry : List ℕ) → v ≡ refused number carried →
    Ended v n needs entry (refusal number carried) entry
refused-ends v number carried n needs entry e = rw e (refl, refl)

-- with the lines that count in a list of their own
module _ (table lines listed : List ℕ) (lent n : ℕ) (e : counted table ≡ first_lines lines n) where
  abbrev Gap : Option ℕ → Type 0
  Gap r = SmallestOf (unmet (first_lines lines n)) r

  abbrev Twice : Option ℕ → Type 0
  Twice r = SmallestOf (met_twice (first_lines lines n)) r

  abbrev Out : Option ℕ → Type 0
  Out r = r ≡ position (λ (x : ℕ). not (time_in_range x)) listed

  gap-found : (r : ℕ) → Gap (Some r) → first (unmet (counted table)) every_length ≡ holds r
  gap-found r s =
      ap (λ (l : List Line). first (unmet l) every_length) e ∙ smallest-found (unmet (first_lines lines n)) r s.1 s.0

  no_gap : Gap None → first (unmet (counted table)) every_length ≡ clear
  no_gap s =
      ap (λ (l : List Line). first (unmet l) every_length) e ∙ smallest-none (unmet (first_lines lines n)) (suc longest) s (omega arith)

  twice_found : (r : ℕ) → Twice (Some r) → first (met_twice (counted table)) every_length ≡ holds r
  twice_found r s =
      ap (λ (l : List Line). first (met_twice l) every_length) e ∙ smallest-found (met_twice (first_lines lines n)) r s.1 s.0

  none-twice : Twice None → first (met_twice (counted table)) every_length ≡ clear
  none-twice s =
      ap (λ (l : List Line). first (met_twice l) every_length) e
      ∙ smallest-none (met_twice (first_lines lines n)) (suc longest) s (omega arith)

  pub gap-refused : (gap : ℕ) → Gap (Some gap) → judge (need_rows table listed lent) ≡ refused 17 gap
  unfolding judge need_rows table_rows
  gap-refused gap s = rw (gap-found gap s)

  module _ (met : Gap None) where
    pub twice-refused : (twice : ℕ) → Twice (Some twice) → judge (need_rows table listed lent) ≡ refused 18 twice
    unfolding judge need_rows table_rows
    twice-refused twice t = rw (no_gap met, twice_found twice t)

    module _ (once : Twice None) where
      pub place-refused : (k : ℕ) → Out (Some k) → judge (need_rows table listed lent) ≡ refused 5 (k + 1)
      unfolding judge need_rows table_rows
      place-refused k f = rw (no_gap met, none-twice once, first-seen _ listed (Some k) f, add-one)

      module _ (good : Out None) where
        pub room-refused : lent < length listed → judge (need_rows table listed lent) ≡ refused 9 0
        unfolding judge need_rows table_rows
        room-refused l =
            rw (no_gap met, none-twice once, first-seen _ listed None good, lt-ltb lent (length listed) l)

        pub all-filled : length listed ≤ lent → judge (need_rows table listed lent) ≡ accepted
        unfolding judge need_rows table_rows
        all-filled l =
            rw (no_gap met, none-twice once, first-seen _ listed None good, le-ltb lent (length listed) l)

-- where all is good: the needs, and what stood beyond them
pub filled-ends : (table lines listed entry exit : List ℕ) (n : ℕ) (v : Verdict) → v ≡ accepted → counted table ≡ first_lines lines n →
    exit ≡ map (need_for (first_lines lines n)) listed ++ drop (length listed) entry →
    Ended v (length listed) (needs_of table listed) entry (answer (length listed)) exit
filled-ends table lines listed entry exit n v a e is =
    let f = need_for (counted table) in
    let same : map (need_for (first_lines lines n)) listed ≡ map f listed = ap (λ (l : List Line). map (need_for l) listed) (sym e) in
    rw a (
      refl,
      is ∙ ap (λ (xs : List ℕ). xs ++ drop (length listed) entry) same
          ∙ ap (λ (k : ℕ). map f listed ++ drop k entry) (sym (length-map listed f)),
    )

-- the buffer with the first k needs
module _ (f : ℕ → ℕ) (listed entry : List ℕ) where
  abbrev pub filled_to : ℕ → List ℕ
  filled_to k = map f (take k listed) ++ drop k entry

  size : (k : ℕ) → k ≤ length listed → length (map f (take k listed)) ≡ k
  size k l = length-map (take k listed) f ∙ length-take-le k listed l

  pub next-filled : (k v : ℕ) (out : List ℕ) → out ≡ filled_to k → k < length listed → length listed ≤ length entry →
      v ≡ f (get_or listed k 0) → set out k v ≡ filled_to (k + 1)
  next-filled k v out e l h is =
      let front = map f (take k listed) in
      ap (λ (xs : List ℕ). set xs k v) (e ∙ ap (λ (xs : List ℕ). front ++ xs) (drop-cons entry k 0 (omega arith)))
      ∙ set_at front (get_or entry k 0) (drop (suc k) entry) v k (size k (omega arith))
      ∙ ap (λ (x : ℕ). front ++ (x ∷ drop (suc k) entry)) is
      ∙ sym (append_assoc front (f (get_or listed k 0) ∷ []) (drop (suc k) entry))
      ∙ ap (λ (xs : List ℕ). xs ++ drop (suc k) entry)
      (sym (map-append f (take k listed) (get_or listed k 0 ∷ [])) ∙ ap (map f) (sym (take-suc listed k 0 l)))
      ∙ ap filled_to (sym (add-one k))
