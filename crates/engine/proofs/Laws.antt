-- One store at a time: what the small loops keep.
use Prim.Native.Nat.{ℕ, zero, suc, min, ◌+◌, ◌-◌, ◌*◌, ◌≤◌, ◌<◌}
use mathlib.Core.Path.{◌≡◌, sym, ap, ◌∙◌}
use mathlib.Core.Logic.{◌≢◌}
use mathlib.Core.List.{List, [], ◌∷◌, ◌++◌}
use lib.ListN.{length, get_or, set, length-set, take, replicate}
use lib.Seq.{get_or-set_same, get_or-set_other}
use native.Mathlib.Decide.{dec_lt, ℕ_discrete}
use native.Mathlib.Omega.{arith}
use borrow.Rule.Slice.PartMut.{put_mid}
use Rattle.std.specs.List.{between, fold}
use Rattle.std.proofs.lemmas.List.{places}
use Rattle.std.proofs.lemmas.List.Edits.{get_or-between, length-between}
use Rattle.engine.specs.View.{Transferred, FirstZero, grid}
use Rattle.amounts.specs.State.{Fill, Barred}
use Rattle.amounts.specs.Below.{Free}
use Rattle.amounts.specs.Flow.{Flow}

-- the two stores of a transfer
pub transferred : (xs : List ℕ) (up down d : ℕ) → up < length xs → down < length xs → up ≢ down → d ≤ get_or xs down 0 →
    Transferred xs (set (set xs up (get_or xs up 0 + d)) down (get_or (set xs up (get_or xs up 0 + d)) down 0 - d)) up down d
transferred xs up down d lu ld ne fit =
    let ys = set xs up (get_or xs up 0 + d) in
    let v = get_or ys down 0 - d in
    let same : get_or ys down 0 ≡ get_or xs down 0 = get_or-set_other xs up down (get_or xs up 0 + d) 0 (λ e. ne (sym e)) in
    record {
      more = get_or-set_other ys down up v 0 ne ∙ get_or-set_same xs up (get_or xs up 0 + d) 0 lu;
      less = omega (arith, get_or-set_same ys down v 0 (simp length-set ld), same);
      other = λ k a b. get_or-set_other ys down k v 0 b ∙ get_or-set_other xs up k (get_or xs up 0 + d) 0 a;
    }

-- a list with ys in place of the k entries from a on
module _ (a k : ℕ) (xs ys : List ℕ) (long : a + k ≤ length xs) (same : length ys ≡ k) where
  pub part-before : (i : ℕ) → i < a → get_or (put_mid a k xs ys) i 0 ≡ get_or xs i 0
  part-before i l = grind (arith, places)

  pub part-inside : (i : ℕ) → i < k → get_or (put_mid a k xs ys) (a + i) 0 ≡ get_or ys i 0
  part-inside i l = grind (arith, places)

  pub part-after : (i : ℕ) → a + k ≤ i → get_or (put_mid a k xs ys) i 0 ≡ get_or xs i 0
  part-after i l = grind (arith, places)

-- a list whose first k entries are v, or those of another list
pub filled-front : (k v : ℕ) (ys zs : List ℕ) → ys ≡ replicate k v → (i : ℕ) → i < k → get_or (ys ++ zs) i 0 ≡ v
filled-front k v ys zs e i l = rw e (grind (arith, places))

pub copied-front : (k : ℕ) (xs ys zs : List ℕ) → k ≤ length xs → ys ≡ take k xs → (i : ℕ) → i < k →
    get_or (ys ++ zs) i 0 ≡ get_or xs i 0
copied-front k xs ys zs long e i l = rw e (grind (arith, places))

-- the least of d and the entries of a list
pub least-start : (d : ℕ) (xs : List ℕ) → fold (λ a x. min a x) d xs ≤ d
least-start d [] = omega arith
least-start d (x ∷ xs) = omega (arith, least-start (min d x) xs)

pub least-under : (d : ℕ) (xs : List ℕ) (k : ℕ) → k < length xs → fold (λ a x. min a x) d xs ≤ get_or xs k 0
least-under d [] k l = absurd (omega arith)
least-under d (x ∷ xs) zero l = omega (arith, least-start (min d x) xs)
least-under d (x ∷ xs) (suc k) l = least-under (min d x) xs k (omega arith)

pub least-greatest : (d : ℕ) (xs : List ℕ) (v : ℕ) → v ≤ d → ((k : ℕ) → k < length xs → v ≤ get_or xs k 0) →
    v ≤ fold (λ a x. min a x) d xs
least-greatest d [] v le f = le
least-greatest d (x ∷ xs) v le f =
    least-greatest (min d x) xs v (omega (arith, f 0 (omega arith))) (λ k l. f (suc k) (omega arith))

-- the first zero of the slacks of a stretch from class c on bounds what is free
module _ (slack : List ℕ) (s m c r : ℕ) (low : c ≤ m) (long : s * m + m ≤ length slack)
    (F : FirstZero (between (s * m + c) (s * m + m) slack) r) where
  entry : (k : ℕ) → c ≤ k → k < m → get_or (between (s * m + c) (s * m + m) slack) (k - c) 0 ≡ grid m slack s k
  entry k lo hi =
      let z : s * m + c + (k - c) ≡ s * m + k = omega arith in
      get_or-between slack (s * m + c) (s * m + m) (k - c) 0 (omega arith) ∙ ap (λ (i : ℕ). get_or slack i 0) z

  pub size : length (between (s * m + c) (s * m + m) slack) ≡ m - c
  size = omega (arith, length-between slack (s * m + c) (s * m + m) long)

  pub free-upto : (e : ℕ) → e ≤ c + r → Free (grid m slack s) c e
  free-upto e le k lo hi = omega (arith, size, F.high, entry k lo (omega (arith, size, F.high)), F.free (k - c) (omega arith))

  pub upto-free : (e : ℕ) → e ≤ m → Free (grid m slack s) c e → e ≤ c + r
  upto-free e em fr =
      elim (dec_lt (c + r) e) [
        | no l ↦ omega arith
        | yes l ↦
            let z : c + r - c ≡ r = omega arith in
            absurd (omega (
              arith,
              fr (c + r) (omega arith) l,
              entry (c + r) (omega arith) (omega arith),
              ap (λ (i : ℕ). get_or (between (s * m + c) (s * m + m) slack) i 0) z,
              F.zero-at (omega (arith, size)),
            ))
      ]

-- one stretch more in which nobody can be displaced
pub barred-more : (o : Flow) (x : Fill) (j u s : ℕ) → s + 1 ≡ u → Barred o x j u →
    ((i : ℕ) → i ≤ o.n → x.w j s < o.cap j s → 0 < x.w i s → Free (x.slack s) (o.class j) (o.class i) → x.h j ≢ suc (x.h i)) →
    Barred o x j s
barred-more o x j u s z B new =
    record {
      none = λ i t li lo hi.
          elim (ℕ_discrete t s) [
            | yes e ↦ rw e (new i li)
            | no e ↦ B.none i t li (omega arith) hi
          ];
    }
