-- Rows on the line: two are apart exactly if they are clear of each other, and of rows in the order of their starts all are
-- clear exactly if each is clear of the next.
use Rattle.std.specs.Prelude.{ℕ, suc, ◌+◌, ◌-◌, ◌/◌, ◌≤◌, ◌<◌, ◌≡◌, Bool, true, false, List, ◌↔◌, leb, length, get_or}
use Rattle.std.proofs.Common.{sym, ap, ◌∙◌, subst, inl, inr, arith, leb-true, le-leb}
use Rattle.std.proofs.Math.Bool.{or_comm, or-true}
use Rattle.std.proofs.Math.Decide.{ℕ_discrete, dec_lt, dec_le}
use Rattle.std.proofs.lemmas.Bool.{lt-leb}
use Rattle.sums.specs.Lists.{All, Pairwise}
use Rattle.sums.specs.Members.{All-at, All-from}
use Rattle.sums.specs.Pairs.{Pairwise-at, Pairwise-from}
use Rattle.sums.specs.Places.{length-tabulate, get_d_tabulate}
use Rattle.sums.specs.Rearranged.{Rearranged, rearranged-length, rearranged-all, rearranged-two}
use Rattle.spans.specs.Heap.{at, Sorted}
use Rattle.spans.specs.Line.{key_of, start_of, stop_of, Span, Spans, Apart, AllApart, clear, up_to}

pub true-is-not : {A : Type 0} → false ≡ true → A
true-is-not e = let z : ◌≡◌ {A = ℕ} 0 1 = cc in absurd (omega arith)

module _ (numbers : List ℕ) (by : ℕ) where
  abbrev start : ℕ → ℕ
  start = start_of numbers by

  abbrev stop : ℕ → ℕ
  stop = stop_of numbers by

  abbrev Clear : ℕ → ℕ → Type 0
  Clear x y = clear numbers by x y ≡ true

  clear-sym : (x y : ℕ) → clear numbers by x y ≡ clear numbers by y x
  clear-sym x y = or_comm (leb (stop x) (start y)) (leb (stop y) (start x))

  clear_apart : (x y : ℕ) → Clear x y → Apart numbers by x y
  clear_apart x y e same =
      elim (dec_le (stop x) (start y)) [
        | yes h ↦ inl (omega arith)
        | no h ↦
            let f : leb (stop y) (start x) ≡ true = rw (lt-leb (stop x) (start y) (omega arith)) at e in
            inr (omega (arith, leb-true (stop y) (start x) f))
      ]

  apart-clear : (x y : ℕ) → Span numbers by x → Span numbers by y → Apart numbers by x y → Clear x y
  apart-clear x y a b h =
      elim (ℕ_discrete (key_of numbers by x) (key_of numbers by y)) [
        | yes e ↦ elim (h e) [ inl l ↦ first (omega arith) | inr l ↦ second (omega arith) ]
        | no ne ↦ elim (dec_lt (key_of numbers by x) (key_of numbers by y)) [
          | yes l ↦ first (omega (arith, a.short))
          | no l ↦ second (omega (arith, b.short))
        ]
      ]
    where
      first : stop x ≤ start y → Clear x y
      first l = rw (le-leb (stop x) (start y) l)

      second : stop y ≤ start x → Clear x y
      second l = rw (le-leb (stop y) (start x) l) (or-true (leb (stop x) (start y)))

  -- all rows
  module _ (spans : Spans numbers by) where
    abbrev count : ℕ
    count = length numbers / 4

    place : (i : ℕ) → i < count → get_or (up_to count) i 0 ≡ i
    place i l = get_d_tabulate count (λ i. i) 0 i l

    all-spans : All (Span numbers by) (up_to count)
    all-spans =
        All-from (Span numbers by) (up_to count) 0
        (λ i l. let b : i < count = rw length-tabulate at l in subst (Span numbers by) (sym (place i b)) (spans i b))

    all_apart : Pairwise Clear (up_to count) → AllApart numbers by
    all_apart h x y l m =
        clear_apart x y
        (ap (λ (i : ℕ). clear numbers by i y) (sym (place x (omega arith)))
        ∙ ap (λ (k : ℕ). clear numbers by (get_or (up_to count) x 0) k) (sym (place y m))
        ∙ Pairwise-at Clear (up_to count) 0 h x y l (rw length-tabulate m))

    all-clear : AllApart numbers by → Pairwise Clear (up_to count)
    all-clear h =
        Pairwise-from Clear (up_to count) 0
        (λ x y l m. let b : y < count = rw length-tabulate at m in
        ap (λ (i : ℕ). clear numbers by i (get_or (up_to count) y 0)) (place x (omega arith))
        ∙ ap (λ (k : ℕ). clear numbers by x k) (place y b)
        ∙ apart-clear x y (spans x (omega arith)) (spans y b) (h x y l b))

    -- the rows in another order
    module _ (xs : List ℕ) (s : Rearranged xs (up_to count)) where
      pub rows_long : length xs ≡ count
      rows_long = rearranged-length xs (up_to count) s ∙ length-tabulate count (λ i. i)

      pub rows-spans : All (Span numbers by) xs
      rows-spans = rearranged-all (Span numbers by) (up_to count) xs s all-spans

      pub rows_told : (t : Bool) → (t ≡ true) ↔ Pairwise Clear xs → (t ≡ true) ↔ AllApart numbers by
      rows_told t h = (
        λ e. all_apart (rearranged-two (clear numbers by) clear-sym xs (up_to count) s (h.0 e)),
        λ p. h.1 (rearranged-two (clear numbers by) clear-sym (up_to count) xs (λ f. sym (s f)) (all-clear p)),
      )

  -- each starts where the one before has stopped, or later
  abbrev pub Linked : List ℕ → Type 0
  Linked xs = (i : ℕ) → 1 ≤ i → i < length xs → at stop xs (i - 1) ≤ at start xs i

  -- each of the first i stops by the start of the next of them
  abbrev pub FirstLinked : List ℕ → ℕ → Type 0
  FirstLinked xs i = (k : ℕ) → suc k < i → at stop xs k ≤ at start xs (suc k)

  pub linked-one : (xs : List ℕ) → FirstLinked xs 1
  linked-one xs k l = absurd (omega arith)

  pub linked-more : (xs : List ℕ) (i : ℕ) → FirstLinked xs i → 1 ≤ i → at stop xs (i - 1) ≤ at start xs i → FirstLinked xs (i + 1)
  linked-more xs i h l m k b =
      elim (dec_lt (suc k) i) [
        | yes c ↦ h k c
        | no c ↦
            let e : k ≡ i - 1 = omega arith in
            let f : suc k ≡ i = omega arith in
            omega (arith, ap (at stop xs) e, ap (at start xs) f)
      ]

  -- all are linked exactly if as many as there are are
  pub linked-all : (xs : List ℕ) (n : ℕ) → FirstLinked xs n → length xs ≤ n → Linked xs
  linked-all xs n h l i a b =
      let e : suc (i - 1) ≡ i = omega arith in
      omega (arith, h (i - 1) (omega arith), ap (at start xs) e)

  pub all-linked : (xs : List ℕ) (n : ℕ) → Linked xs → n ≤ length xs → FirstLinked xs n
  all-linked xs n h l k b =
      let e : suc k - 1 ≡ k = omega arith in
      omega (arith, h (suc k) (omega arith) (omega arith), ap (at stop xs) e)

  module _ (xs : List ℕ) (spans : All (Span numbers by) xs) (rising : Sorted start xs) where
    pub linked-clear : Linked xs → Pairwise Clear xs
    linked-clear h = Pairwise-from Clear xs 0 (λ i k a b. rw (le-leb (at stop xs i) (at start xs k) (far i k a b)))
      where
        far : (i k : ℕ) → i < k → k < length xs → at stop xs i ≤ at start xs k
        far i k a b =
            let is : suc i - 1 ≡ i = omega arith in
            let next = h (suc i) (omega arith) (omega arith) in
            elim (ℕ_discrete (suc i) k) [
              | yes e ↦ omega (arith, ap (at start xs) e, ap (at stop xs) is, next)
              | no ne ↦ omega (arith, ap (at stop xs) is, next, rising (suc i) k (omega arith) b)
            ]

    pub linked-not : (i : ℕ) → 1 ≤ i → i < length xs → at start xs i < at stop xs (i - 1) → Pairwise Clear xs → ⊥
    linked-not i l m b h =
        let u : at start xs (i - 1) < at stop xs i
        = omega (arith, (All-at (Span numbers by) xs 0 spans i m).forward, rising (i - 1) i (omega arith) m) in
        true-is-not
        (sym (rw (lt-leb (at stop xs (i - 1)) (at start xs i) b, lt-leb (at stop xs i) (at start xs (i - 1)) u))
        ∙ Pairwise-at Clear xs 0 h (i - 1) i (omega arith) m)
