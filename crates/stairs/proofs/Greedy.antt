-- The greedy completion: class by class the least due time that can still be completed.
use Prim.Native.Nat.{ℕ, zero, suc, ◌+◌, ◌-◌, ◌<◌, ◌≤◌}
use mathlib.Core.Path.{◌≡◌, refl, sym, ap, ◌∙◌}
use mathlib.Core.List.{List, [], ◌∷◌, ◌++◌}
use native.Mathlib.Omega.{arith}
use native.Mathlib.Decide.{dec_lt}
use native.Mathlib.Numerals.{add-one}
use lib.ListN.{length, set, replicate, length-append}
use Rattle.profile.specs.Search.{nothing, found}
use Rattle.stairs.specs.Places.{FoundPlaces, places}
use Rattle.sums.specs.Arrays.{pad, set-pad}
use Rattle.stairs.specs.Tables.{comp, first_from, put, cell, Completed, Least}
use Rattle.stairs.specs.CompletionLaws.{
  first-suc,
  first_done,
  outcome,
  fails,
  finds,
  finds-where,
  none_below,
  hit,
}

-- the profile so far, then what is found
abbrev pub glue : List ℕ → FoundPlaces → FoundPlaces
glue [] f = f
glue (x ∷ xs) f = put x (glue xs f)

glue-append : (xs : List ℕ) (d : ℕ) (f : FoundPlaces) → glue (xs ++ (d ∷ [])) f ≡ glue xs (put d f)
glue-append [] d f = refl
glue-append (x ∷ xs) d f = ap (put x) (glue-append xs d f)

glue-some : (xs : List ℕ) → glue xs (found []) ≡ found xs
glue-some [] = refl
glue-some (x ∷ xs) = ap (put x) (glue-some xs)

-- the greedy search under way: classes below i are settled, the last of them at `top`
pub record Greedy (w : ℕ → ℕ → ℕ) (room : ℕ) (target : FoundPlaces) (s i top acc : ℕ) (out : List ℕ) : Type 0 where
  pub pre : List ℕ
  pub m : ℕ
  pub left : i + m ≡ s
  pub long : length pre ≡ i
  pub out-is : out ≡ pad 16 pre
  pub target_is : target ≡ glue pre (first_from w room acc i m (suc top))
  pub can : room < acc + comp w i m (suc top)

module _ {w : ℕ → ℕ → ℕ} {room : ℕ} {target : FoundPlaces} {s i top acc : ℕ} {out : List ℕ}
    (g : Greedy w room target s i top acc out) where
  pub greedy-step : (e : ℕ) → i < s → i < 16 → e ≤ top
      → ((x m : ℕ) → i + suc m ≡ s → x < e → acc + w i x + comp w (suc i) m (suc x) ≤ room)
      → ((m : ℕ) → i + suc m ≡ s → e < top → room < acc + w i e + comp w (suc i) m (suc e))
      → Greedy w room target s (suc i) e (acc + w i e) (set out i e)
  greedy-step e l b t below here = at g.m g.left g.target_is g.can
    where
      at : (m : ℕ) → i + m ≡ s → target ≡ glue g.pre (first_from w room acc i m (suc top)) →
          room < acc + comp w i m (suc top) → Greedy w room target s (suc i) e (acc + w i e) (set out i e)
      at zero q r c = absurd (omega arith)
      at (suc m) q r c =
          let clear = none_below w room acc i m e (λ x h. below x m q h) in
          let can' : room < acc + w i e + comp w (suc i) m (suc e)
          = elim (dec_lt e top) [
            | yes h ↦ here m q h
            | no h ↦
                let same : e ≡ top = omega arith in
                elim (outcome w room (acc + w i e) (suc i) m e) [
                  | finds ds f k ↦ k
                  | fails f k ↦
                      let n : first_from w room acc i (suc m) (suc top) ≡ nothing =
                      rw (← same) (first-suc w room acc i m e ∙ rw (clear, f)) in
                      let y = finds-where w room acc i (suc m) top c in
                      let z : ◌≡◌ {A = ℕ} 0 1 = cc (n, y.1) in
                      omega arith
                ]
          ] in
          record {
            pre = g.pre ++ (e ∷ []);
            m = m;
            left = omega arith;
            long = length-append g.pre (e ∷ []) ∙ omega (arith, g.long);
            out-is = ap (λ (l : List ℕ). set l i e) g.out-is
                ∙ (rw (← g.long) (set-pad 16 g.pre e (omega (arith, g.long))));
            target_is = r ∙ (ap (glue g.pre) (hit w room acc i m e (suc top) clear can' (omega arith))
                ∙ sym (glue-append g.pre e _));
            can = can';
          }

  -- all classes are settled
  pub greedy-end : s ≤ i → (target ≡ found g.pre) × (out ≡ places target) × (length g.pre ≡ s)
  unfolding places comp
  greedy-end l =
      let z : g.m ≡ 0 = omega (arith, g.left) in
      let c : room < acc = let h : room < acc + comp w i 0 (suc top) = rw z at g.can in omega arith in
      let t : target ≡ found g.pre = g.target_is ∙ (rw (z, first_done w room acc i (suc top) c) (glue-some g.pre)) in
      (t, g.out-is ∙ sym (ap places t), omega (arith, g.long, g.left))

pub greedy-start : (w : ℕ → ℕ → ℕ) (room k d : ℕ) → room < w 0 d + comp w 1 k (suc d)
    → Greedy w room (put d (first_from w room (w 0 d) 1 k (suc d))) (suc k) 1 d (w 0 d) (d ∷ replicate 15 0)
unfolding pad
greedy-start w room k d h =
    record { pre = d ∷ []; m = k; left = omega arith; long = refl; out-is = refl; target_is = refl; can = h }

-- the next class, at the least due time that can be completed
pub greedy-least : (t c : List (List ℕ)) (q k : ℕ) → Completed t (suc k) q k c →
    {room : ℕ} {target : FoundPlaces} {i top acc : ℕ} {out : List ℕ}
    → Greedy (cell t) room target (suc k) i top acc out → (e : ℕ) → i ≤ k → k < 16 → top < q
    → Least (λ x. acc + cell t i x + cell c (k - i) x) room top e
    → Greedy (cell t) room target (suc k) (i + 1) e (acc + cell t i e) (set out i e)
greedy-least t c q k a {room} {target} {i} {top} {acc} {out} g e l b h f =
    rw add-one
    (greedy-step g e (omega arith) (omega arith) f.within
    (λ x m p y. omega (arith, f.before x y, is m x p (omega (arith, f.within))))
    (λ m p y. omega (arith, f.here y, is m e p (omega arith))))
  where
    is : (m x : ℕ) → i + suc m ≡ suc k → x < q → cell c (k - i) x ≡ comp (cell t) (suc i) m (suc x)
    is m x p y = let z : k - i ≡ m = omega arith in rw z (a.at (suc i) m x (omega arith) (omega arith) y)

pub greedy-done : {w : ℕ → ℕ → ℕ} {room : ℕ} {target : FoundPlaces} {s i top acc : ℕ} {out : List ℕ} →
    Greedy w room target s i top acc out → s ≤ i → out ≡ places target
greedy-done g l = (greedy-end g l).1
