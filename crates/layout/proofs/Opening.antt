-- The open processors found so far: of the first k in their order, those that pass the test.
use Prim.Native.Nat.{ℕ, ◌+◌, ◌-◌, ◌≤◌, ◌<◌, pred}
use mathlib.Core.Path.{◌≡◌, refl, sym, ap, ◌∙◌}
use mathlib.Core.Bool.{Bool, true, false, cond, ◌&&◌}
use mathlib.Core.List.{List, [], ◌∷◌, ◌++◌, append-nil}
use native.Mathlib.Omega.{arith}
use native.Mathlib.Numerals.{add-one}
use lib.Dec.{leb}
use lib.ListN.{length, get_or, take, set, length-set}
use lib.Seq.{take-suc, take-suc-set}
use Rattle.sums.specs.Lists.{keep}
use Rattle.sums.specs.Kept.{keep_append}
use Rattle.layout.specs.Planned.{open_at}

pub record Opening (opens closes : List ℕ) (start end : ℕ) (processors : List ℕ) (k : ℕ) (list : List ℕ) (count : ℕ)
    : Type 0 where
  pub few : count ≤ k
  pub size : length list ≡ 16
  pub are : take count list ≡ keep (open_at opens closes start end) (take k processors)

pub opening-start : (opens closes : List ℕ) (start end : ℕ) (processors list : List ℕ) → length list ≡ 16 →
    Opening opens closes start end processors 0 list 0
unfolding keep
opening-start opens closes start end processors list size = record { few = omega arith; size = size; are = refl }

module _ {opens closes : List ℕ} {start end : ℕ} {processors : List ℕ} {k : ℕ} {list : List ℕ} {count : ℕ}
    (o : Opening opens closes start end processors k list count) where
  abbrev test : ℕ → Bool
  test = open_at opens closes start end

  module _ (l : k < length processors) (some : 1 ≤ get_or processors k 0) where
    abbrev i : ℕ
    i = get_or processors k 0

    one_more : (b : Bool) → test i ≡ b → keep test (take (k + 1) processors) ≡ keep test (take k processors) ++ cond b (i ∷ []) []
    unfolding keep
    one_more b e = rw (add-one, take-suc processors k 0 l, keep_append test (take k processors) (i ∷ []), e) refl

    -- the test as the code makes it
    read : (r b : Bool) → r ≡ (leb (get_or opens (i - 1) 0) start && leb end (get_or closes (i - 1) 0)) → r ≡ b → test i ≡ b
    read r b e f =
        let p : pred i ≡ i - 1 = omega arith in
        rw p (sym e ∙ f)

    pub opening-more : {r : Bool} → k < 16 → r ≡ (leb (get_or opens (i - 1) 0) start && leb end (get_or closes (i - 1) 0)) →
        r ≡ true → Opening opens closes start end processors (k + 1) (set list count i) (count + 1)
    opening-more {r} b e f =
        record {
          few = omega (arith, o.few);
          size = length-set list count i ∙ o.size;
          are =
              rw (one_more true (read r true e f))
              (rw add-one (take-suc-set list count i (omega (arith, o.few, o.size))
              ∙ ap (λ (ys : List ℕ). ys ++ (i ∷ [])) o.are));
        }

    pub opening-other : {r : Bool} → r ≡ (leb (get_or opens (i - 1) 0) start && leb end (get_or closes (i - 1) 0)) →
        r ≡ false → Opening opens closes start end processors (k + 1) list count
    opening-other {r} e f =
        record {
          few = omega (arith, o.few);
          size = o.size;
          are = o.are ∙ sym (append-nil (keep test (take k processors))) ∙ sym (one_more false (read r false e f));
        }
