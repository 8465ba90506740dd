-- The smallest length that passes a test is what a row of the table carries; climbing from line to line finds it for 17, and pair
-- after pair of lines for 18.
use Prim.Native.Nat.{ℕ, zero, suc, ◌+◌, ◌≤◌, ◌<◌, min, max}
use Rattle.std.specs.Prelude.{◌≡◌, refl, Bool, true, false, ◌&&◌, ◌||◌, List, Option, None, Some, leb, length}
use Rattle.std.specs.Bool.{then_some}
use Rattle.std.proofs.Common.{sym, ap, ◌∙◌, true≢false, arith, le-leb, eq-eqb, ne_eqb}
use Rattle.std.proofs.Math.Bool.{or-false}
use Rattle.std.proofs.Math.Decide.{dec_le, dec_lt}
use Rattle.std.proofs.lemmas.Bool.{lt-leb}
use Rattle.sums.specs.Lists.{only}
use Rattle.sums.specs.Places.{length-tabulate}
use Rattle.order.specs.Refusals.{clear, holds, first}
use Rattle.order.proofs.RefusalLaws.{first-tabulate, none-tabulate, both_true, true-both}
use Rattle.needs.specs.NeedTable.{Line, line_at, meets, met_by, longest, every_length, unmet, met_twice}
use Rattle.needs.specs.Inside.{first_lines, FirstMeets, Smallest, SmallestOf, smaller}
use Rattle.needs.specs.MeetLaws.{Meets, meets-facts, facts-meet, met-none, met-more, met_at, none-meets}

-- what a row of the table finds
module _ (test : ℕ → Bool) where
  pub smallest-found : (r : ℕ) → Smallest test r → r ≤ longest → first test every_length ≡ holds r
  unfolding every_length
  smallest-found zero s l = absurd (omega (arith, s.from_one))
  smallest-found (suc r) s l =
      first-tabulate test longest suc r l (λ e b. s.before (suc e) (omega arith) (omega arith)) (s.here l)

  pub smallest-none : (r : ℕ) → Smallest test r → longest < r → first test every_length ≡ clear
  unfolding every_length
  smallest-none r s l = none-tabulate test longest suc (λ e b. s.before (suc e) (omega arith) (omega arith))

pub every-length : length every_length ≡ longest
unfolding every_length
every-length = length-tabulate longest suc

-- tests that agree have the same; of either of two tests it is the smaller
pub smallest-same : (f g : ℕ → Bool) (r : ℕ) → ((x : ℕ) → f x ≡ g x) → Smallest f r → Smallest g r
smallest-same f g r e s = record {
  from_one = s.from_one;
  most = s.most;
  before = λ x h l. sym (e x) ∙ s.before x h l;
  here = λ l. sym (e r) ∙ s.here l;
}

either-false : (a b : Bool) → a ≡ false → b ≡ false → (a || b) ≡ false
either-false a b e f = rw (e, f)

left-true : (a b : Bool) → a ≡ true → (a || b) ≡ true
left-true a b e = rw e

right-true : (a b : Bool) → b ≡ true → (a || b) ≡ true
right-true true b e = refl
right-true false b e = e

pub smallest-either : (f g : ℕ → Bool) (a b r : ℕ) → Smallest f a → Smallest g b → r ≡ min a b → Smallest (λ x. f x || g x) r
smallest-either f g a b r s t e = record {
  from_one = omega (arith, s.from_one, t.from_one);
  most = omega (arith, s.most);
  before = λ x h l. either-false (f x) (g x) (s.before x h (omega arith)) (t.before x h (omega arith));
  here = λ l. elim (dec_le a b) [
    | yes w ↦
        let is : r ≡ a = omega arith in
        left-true (f r) (g r) (ap f is ∙ s.here (omega arith))
    | no w ↦
        let is : r ≡ b = omega arith in
        right-true (f r) (g r) (ap g is ∙ t.here (omega arith))
  ];
}

-- the same, where there may be none
pub same-of : (f g : ℕ → Bool) (r : Option ℕ) → ((x : ℕ) → f x ≡ g x) → SmallestOf f r → SmallestOf g r
same-of f g None e s = smallest-same f g (suc longest) e s
same-of f g (Some r) e s = (s.0, smallest-same f g r e s.1)

pub either-of : (f g : ℕ → Bool) (a b : Option ℕ) → SmallestOf f a → SmallestOf g b → SmallestOf (λ x. f x || g x) (smaller a b)
either-of f g None None s t = smallest-either f g (suc longest) (suc longest) (suc longest) s t (omega arith)
either-of f g None (Some y) s t = (t.0, smallest-either f g (suc longest) y y s t.1 (omega (arith, t.0)))
either-of f g (Some x) None s t = (s.0, smallest-either f g x (suc longest) x s.1 t (omega (arith, s.0)))
either-of f g (Some x) (Some y) s t = (omega (arith, s.0), smallest-either f g x y (min x y) s.1 t.1 refl)

-- climbing: every length before x is met
module _ (table : List ℕ) (n : ℕ) where
  pub record Climbed (x : ℕ) : Type 0 where
    pub from_one : 1 ≤ x
    pub most : x ≤ suc longest
    pub met : (y : ℕ) → 1 ≤ y → y < x → unmet (first_lines table n) y ≡ false

  pub start : Climbed 1
  start = record { from_one = omega arith; most = omega arith; met = λ y h l. absurd (omega arith) }

  -- no line meets x: none before place i does, which is behind all lines
  pub at_gap : (x i : ℕ) → Climbed x → ((k : ℕ) → k < i → meets (line_at table k) x ≡ false) → n ≤ i →
      Smallest (unmet (first_lines table n)) x
  at_gap x i c before l = record {
    from_one = c.from_one;
    most = c.most;
    before = c.met;
    here = λ b. eq-eqb (met_by (first_lines table n) x) 0 (none-meets table n x i before l);
  }

  -- a line meets x, and so it meets all up to its end
  module _ (x i : ℕ) (c : Climbed x) (m : FirstMeets table n x i) where
    pub facts : Meets (line_at table i) x
    facts = meets-facts (line_at table i) x m.here

    line-meets : (y : ℕ) → x ≤ y → y ≤ (line_at table i).to → unmet (first_lines table n) y ≡ false
    line-meets y h k =
        let f = facts in
        let met = met_at table n i y m.one_of (facts-meet (line_at table i) y
        (record { from_one = f.from_one; begun = omega (arith, f.begun); not-over = k; to-most = f.to-most })) in
        ne_eqb (met_by (first_lines table n) y) 0 (λ e. omega arith)

    pub climb : Climbed ((line_at table i).to + 1)
    climb = record {
      from_one = omega arith;
      most = omega (arith, facts.to-most);
      met = λ y h k. elim (dec_lt y x) [ yes w ↦ c.met y h w | no w ↦ line-meets y (omega arith) (omega arith) ];
    }

  -- at the top every length is met
  pub at_top : (x : ℕ) → Climbed x → longest < x → Smallest (unmet (first_lines table n)) x
  at_top x c l = record { from_one = c.from_one; most = c.most; before = c.met; here = λ b. absurd (omega arith) }

-- two lines: both meet the later of their beginnings, or they have no length in common
module _ (a b : Line) where
  abbrev both : ℕ → Bool
  both x = meets a x && meets b x

  both_facts : (x : ℕ) → both x ≡ true → Meets a x × Meets b x
  both_facts x e = let h = both_true (meets a x) (meets b x) e in (meets-facts a x h.0, meets-facts b x h.1)

  not-both : (x : ℕ) → (Meets a x × Meets b x → ⊥) → both x ≡ false
  not-both x h = go (both x) refl
    where
      go : (t : Bool) → both x ≡ t → t ≡ false
      go true e = absurd (h (both_facts x e))
      go false e = refl

  pub both-begun : (x : ℕ) → x ≡ max a.from b.from → meets a x ≡ true → meets b x ≡ true → Smallest both x
  both-begun x e f g =
      let p = meets-facts a x f in
      record {
        from_one = omega (arith, p.from_one, p.begun);
        most = omega (arith, p.not-over, p.to-most);
        before = λ y h l. not-both y (λ m. omega (arith, m.0.begun, m.1.begun));
        here = λ l. true-both (meets a x) (meets b x) f g;
      }

  -- where one does not meet it, no length is met by both
  both-apart : (x : ℕ) → x ≡ max a.from b.from → (Meets a x × Meets b x → ⊥) → Smallest both (longest + 1)
  both-apart x e h = record {
    from_one = omega arith;
    most = omega arith;
    before = λ y k l. not-both y (λ m. h (begins y m.0 m.1));
    here = λ l. absurd (omega arith);
  }
    where
      begins : (y : ℕ) → Meets a y → Meets b y → Meets a x × Meets b x
      begins y p q = (
        record { from_one = p.from_one; begun = omega arith; not-over = omega (arith, p.not-over, q.begun, p.begun); to-most = p.to-most },
        record { from_one = q.from_one; begun = omega arith; not-over = omega (arith, q.not-over, p.begun, q.begun); to-most = q.to-most },
      )

  pub first-apart : (x : ℕ) → x ≡ max a.from b.from → meets a x ≡ false → Smallest both (longest + 1)
  first-apart x e f = both-apart x e (λ m. true≢false (sym (facts-meet a x m.0) ∙ f))

  pub second-apart : (x : ℕ) → x ≡ max a.from b.from → meets b x ≡ false → Smallest both (longest + 1)
  second-apart x e f = both-apart x e (λ m. true≢false (sym (facts-meet b x m.1) ∙ f))

  -- the later beginning, where both meet it
  pub both-of : (x : ℕ) (t : Bool) (r : Option ℕ) → x ≡ max a.from b.from → t ≡ both x → r ≡ then_some t x → SmallestOf both r
  both-of x t r e is made = rw made (rw is (go (meets a x) refl (meets b x) refl))
    where
      go : (s : Bool) → meets a x ≡ s → (t : Bool) → meets b x ≡ t → SmallestOf both (then_some (s && t) x)
      go true f true g = let p = meets-facts a x f in (omega (arith, p.not-over, p.to-most), both-begun x e f g)
      go true f false g = second-apart x e g
      go false f t g = first-apart x e f

-- what one more line adds: with none before it, beside one of them, and beside all
pub none_yet : (a b : Bool) (m : ℕ) → m ≡ 0 → a ≡ (a || (b && leb 1 m))
none_yet true b m e = refl
none_yet false true m e = rw e refl
none_yet false false m e = refl

pub one_more : (a b c : Bool) (m m' : ℕ) → m' ≡ m + only c 1 → ((a || (b && leb 1 m)) || (b && c)) ≡ (a || (b && leb 1 m'))
one_more true b c m m' e = refl
one_more false false c m m' e = refl
one_more false true true m m' e = right-true (leb 1 m) true refl ∙ sym (le-leb 1 m' (omega arith))
one_more false true false m m' e = let is : m ≡ m' = omega arith in or-false (leb 1 m) ∙ ap (λ (n : ℕ). leb 1 n) is

pub all-before : (b : Bool) (m m' : ℕ) → m' ≡ m + only b 1 → (leb 2 m || (b && leb 1 m)) ≡ leb 2 m'
all-before false m m' e = let is : m ≡ m' = omega arith in or-false (leb 2 m) ∙ ap (λ (n : ℕ). leb 2 n) is
all-before true m m' e =
    elim (dec_le 1 m) [
      | yes w ↦ right-true (leb 2 m) (leb 1 m) (le-leb 1 m w) ∙ sym (le-leb 2 m' (omega arith))
      | no w ↦ either-false (leb 2 m) (leb 1 m) (lt-leb 2 m (omega arith)) (lt-leb 1 m (omega arith))
          ∙ sym (lt-leb 2 m' (omega arith))
    ]

-- line i + 1 beside the first k lines: a length that the lines before it meet twice, or that it and one of those k meet
module _ (table : List ℕ) (i : ℕ) where
  abbrev pub twice_with : ℕ → ℕ → Bool
  twice_with k x = met_twice (first_lines table i) x || (meets (line_at table i) x && leb 1 (met_by (first_lines table k) x))

  pub with_none : (x : ℕ) → met_twice (first_lines table i) x ≡ twice_with 0 x
  with_none x =
      none_yet (met_twice (first_lines table i) x) (meets (line_at table i) x) (met_by (first_lines table 0) x) (met-none table x)

  pub with-more : (k x : ℕ) →
      (twice_with k x || (meets (line_at table i) x && meets (line_at table k) x)) ≡ twice_with (k + 1) x
  with-more k x =
      one_more (met_twice (first_lines table i) x) (meets (line_at table i) x) (meets (line_at table k) x)
      (met_by (first_lines table k) x) (met_by (first_lines table (k + 1)) x) (met-more table k x)

  pub with_all : (x : ℕ) → twice_with i x ≡ met_twice (first_lines table (i + 1)) x
  with_all x =
      all-before (meets (line_at table i) x) (met_by (first_lines table i) x) (met_by (first_lines table (i + 1)) x) (met-more table i x)

-- no line meets anything twice
pub none-twice : (table : List ℕ) → Smallest (met_twice (first_lines table 0)) (longest + 1)
none-twice table = record {
  from_one = omega arith;
  most = omega arith;
  before = λ x h l. lt-leb 2 (met_by (first_lines table 0) x) (omega (arith, met-none table x));
  here = λ l. absurd (omega arith);
}
