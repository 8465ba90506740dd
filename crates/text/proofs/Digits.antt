-- A number's digits put into a buffer, the last one first.
use Prim.Native.Nat.{ℕ, suc, ◌+◌, ◌-◌, ◌/◌, ◌%◌, ◌≤◌, ◌<◌}
use mathlib.Core.Bool.{cond}
use mathlib.Core.Path.{◌≡◌, refl, sym, ap, ◌∙◌, subst}
use mathlib.Core.List.{List, [], ◌∷◌, ◌++◌, append_assoc, append-nil}
use native.Mathlib.Decide.{dec_lt}
use native.Mathlib.Omega.{arith}
use borrow.Author.Tests.{lt-ltb, le-ltb}
use Rattle.std.specs.Prelude.{ltb}
use lib.ListN.{length, take, drop, set, length-set}
use lib.Seq.{length-take-le, take-append-le, take-take, drop_at, set_split}
use Rattle.text.specs.Text.{decimal, Put}
use Rattle.text.specs.TextLaws.{decimal_digit, decimal-more, decimal-longer, decimal-some, put-none, put_as}

-- a byte put right before a text
pub put-before : {s : List ℕ} {xs t : List ℕ} {k : ℕ} (at b : ℕ) → Put s (suc at) xs t k → Put s at (b ∷ xs) (set t at b) k
put-before {s} {xs} {t} {k} at b p =
    let behind : suc at + length xs ≡ at + length (b ∷ xs) = omega arith in
    let size : length (take (suc at) s) ≡ suc at = length-take-le (suc at) s (omega (arith, p.fits)) in
    let first : take at t ≡ take at s
    = ap (take at) p.after_is
    ∙ (take-append-le at (take (suc at) s) (xs ++ drop (suc at + length xs) s) (omega (arith, size))
    ∙ take-take at (suc at) s (omega arith)) in
    let rest : drop (suc at) t ≡ xs ++ drop (at + length (b ∷ xs)) s
    = ap (drop (suc at)) p.after_is
    ∙ (drop_at (take (suc at) s) (xs ++ drop (suc at + length xs) s) (suc at) size
    ∙ ap (λ (n : ℕ). xs ++ drop n s) behind) in
    record {
      after_is = set_split t at b (omega (arith, p.fits, p.same_length))
          ∙ (ap (λ (w : List ℕ). w ++ b ∷ drop (suc at) t) first ∙ ap (λ (w : List ℕ). take at s ++ b ∷ w) rest);
      next-is = omega (arith, p.next-is);
      fits = omega (arith, p.fits);
      same_length = length-set t at b ∙ p.same_length;
    }

-- the digits that are still to be put: those of `rest`, until the first place is reached
abbrev pub left : ℕ → ℕ → ℕ → List ℕ
left at place rest = cond (ltb at place) (decimal rest) []

left-some : (at place rest : ℕ) → at < place → left at place rest ≡ decimal rest
left-some at place rest h = rw (lt-ltb at place h) refl

-- the digits behind those stand in the buffer from `place` on
pub record Tail (buffer : List ℕ) (at n behind : ℕ) (after : List ℕ) (place rest : ℕ) : Type 0 where
  pub tail : List ℕ
  pub whole : decimal n ≡ left at place rest ++ tail
  pub place-is : place ≡ at + length (left at place rest)
  pub put : Put buffer place tail after behind

-- no digit yet
pub tail_none : (s : List ℕ) (at n behind : ℕ) → behind ≡ at + length (decimal n) → behind ≤ length s → Tail s at n behind s behind n
tail_none s at n behind e room =
    let all : left at behind n ≡ decimal n = left-some at behind n (omega (arith, decimal-some n)) in
    record {
      tail = [];
      whole = sym (append-nil (left at behind n) ∙ all);
      place-is = e ∙ ap (λ (l : List ℕ). at + length l) (sym all);
      put = put-none s behind room;
    }

-- one digit more
pub tail_more : {s : List ℕ} {at n behind : ℕ} {t : List ℕ} {place rest : ℕ} → at < place → Tail s at n behind t place rest →
    Tail s at n behind (set t (place - 1) (48 + rest % 10)) (place - 1) (rest / 10)
tail_more {s} {at} {n} {behind} {t} {place} {rest} h p =
    let all : left at place rest ≡ decimal rest = left-some at place rest h in
    let size : place ≡ at + length (decimal rest) = p.place-is ∙ ap (λ (l : List ℕ). at + length l) all in
    let e : place ≡ suc (place - 1) = omega arith in
    let put = put-before (place - 1) (48 + rest % 10) (subst (λ (k : ℕ). Put s k p.tail t behind) e p.put) in
    let whole : decimal n ≡ decimal rest ++ p.tail = p.whole ∙ ap (λ (w : List ℕ). w ++ p.tail) all in
    elim (dec_lt rest 10) [
      | yes l ↦
          let one : decimal rest ≡ (48 + rest) ∷ [] = decimal_digit rest l in
          let last : rest ≡ rest % 10 = omega arith in
          let first : place - 1 ≡ at = omega (arith, size, ap length one) in
          let none : left at (place - 1) (rest / 10) ≡ [] = rw (le-ltb at (place - 1) (omega arith)) refl in
          record {
            tail = (48 + rest % 10) ∷ p.tail;
            whole = whole ∙ ap (λ (w : List ℕ). w ++ p.tail) (one ∙ ap (λ (d : ℕ). (48 + d) ∷ []) last)
                ∙ ap (λ (w : List ℕ). w ++ ((48 + rest % 10) ∷ p.tail)) (sym none);
            place-is = rw none (omega arith);
            put = put;
          }
      | no l ↦
          let longer : length (decimal rest) ≡ length (decimal (rest / 10)) + 1 = decimal-longer rest (omega arith) in
          let some : left at (place - 1) (rest / 10) ≡ decimal (rest / 10)
          = left-some at (place - 1) (rest / 10) (omega (arith, decimal-some (rest / 10))) in
          record {
            tail = (48 + rest % 10) ∷ p.tail;
            whole = whole
                ∙ (ap (λ (w : List ℕ). w ++ p.tail) (decimal-more rest (omega arith))
                ∙ (append_assoc (decimal (rest / 10)) ((48 + rest % 10) ∷ []) p.tail
                ∙ ap (λ (w : List ℕ). w ++ ((48 + rest % 10) ∷ p.tail)) (sym some)));
            place-is = rw some (omega arith);
            put = put;
          }
    ]

-- no digit is left
pub tail-all : {s : List ℕ} {at n behind : ℕ} {t : List ℕ} {place rest : ℕ} → place ≤ at → Tail s at n behind t place rest →
    Put s at (decimal n) t behind
tail-all {s} {at} {n} {behind} {t} {place} {rest} h p =
    let none : left at place rest ≡ [] = rw (le-ltb at place h) refl in
    let e : place ≡ at = p.place-is ∙ (ap (λ (l : List ℕ). at + length l) none ∙ omega arith) in
    put_as (sym (p.whole ∙ ap (λ (w : List ℕ). w ++ p.tail) none)) (subst (λ (k : ℕ). Put s k p.tail t behind) e p.put)
