-- Bytes stored one after the other in a buffer: a buffer's front is what was stored, its rest is as it was lent.
use Prim.Native.Nat.{ℕ, ◌+◌, ◌≤◌}
use mathlib.Core.Path.{◌≡◌, sym, ap, ◌∙◌}
use mathlib.Core.List.{List, ◌++◌, append_assoc}
use native.Mathlib.Omega.{arith}
use lib.ListN.{length, take, drop, length-append, length-drop, take-append-drop}
use lib.Seq.{take_at, drop-append-add, drop-drop, length-take-le}

-- the first n bytes of the buffer are p, the others those of s
pub record Front (s : List ℕ) (n : ℕ) (p buffer : List ℕ) : Type 0 where
  pub is : buffer ≡ p ++ drop n s
  pub size : length p ≡ n
  pub inside : n ≤ length s

pub front-start : (s : List ℕ) (n : ℕ) → n ≤ length s → Front s n (take n s) s
front-start s n h = record { is = sym (take-append-drop n s); size = length-take-le n s h; inside = h }

pub front_at : (s : List ℕ) (n m : ℕ) (p buffer : List ℕ) → Front s n p buffer → n ≡ m → Front s m p buffer
front_at s n m p buffer f e = rw (sym e) f

pub front_length : (s : List ℕ) (n : ℕ) (p buffer : List ℕ) → Front s n p buffer → length buffer ≡ length s
front_length s n p buffer f = ap length f.is ∙ simp (length-append, length-drop, f.size) (omega (arith, f.inside))

-- what is stored behind the front makes it longer
pub front-more : (s : List ℕ) (n : ℕ) (p buffer : List ℕ) → Front s n p buffer → (k : ℕ) (new after : List ℕ) → length new ≡ k →
    n + k ≤ length s → after ≡ take n buffer ++ (new ++ drop (n + k) buffer) → Front s (n + k) (p ++ new) after
front-more s n p buffer f k new after e h is =
    record {
      is = is ∙ rw f.is (rw (take_at p (drop n s) n f.size, dropped)
          (sym (append_assoc p new (drop (n + k) s))));
      size = length-append p new ∙ rw (f.size, e);
      inside = h;
    }
  where
    dropped : drop (n + k) (p ++ drop n s) ≡ drop (n + k) s
    dropped = ap (λ (m : ℕ). drop (m + k) (p ++ drop n s)) (sym f.size) ∙ drop-append-add p (drop n s) k ∙ drop-drop k n s

-- four stores one after the other are one: two of four bytes, and two of w bytes, the last of them at p
pub four-put : (s : List ℕ) (a w p end : ℕ) (b₁ b₂ b₃ b₄ o₁ o₂ o₃ o₄ : List ℕ) → a + 8 + w ≡ p → p + w ≡ end → end ≤ length s →
    length b₁ ≡ 4 → length b₂ ≡ 4 → length b₃ ≡ w → length b₄ ≡ w →
    o₁ ≡ take a s ++ (b₁ ++ drop (a + 4) s) → o₂ ≡ take (a + 4) o₁ ++ (b₂ ++ drop (a + 4 + 4) o₁) →
    o₃ ≡ take (a + 8) o₂ ++ (b₃ ++ drop (a + 8 + w) o₂) → o₄ ≡ take p o₃ ++ (b₄ ++ drop (p + w) o₃) →
    o₄ ≡ take a s ++ ((b₁ ++ (b₂ ++ (b₃ ++ b₄))) ++ drop end s)
four-put s a w p end b₁ b₂ b₃ b₄ o₁ o₂ o₃ o₄ at_p at-end h l₁ l₂ l₃ l₄ e₁ e₂ e₃ e₄ =
    let f₁ = front-more s a _ s (front-start s a (omega arith)) 4 b₁ o₁ l₁ (omega arith) e₁ in
    let f₂ = front_at s _ (a + 8) _ o₂ (front-more s _ _ o₁ f₁ 4 b₂ o₂ l₂ (omega arith) e₂) (omega arith) in
    let f₃ = front_at s _ p _ o₃ (front-more s _ _ o₂ f₂ w b₃ o₃ l₃ (omega arith) e₃) at_p in
    let f₄ = front_at s _ end _ o₄ (front-more s _ _ o₃ f₃ w b₄ o₄ l₄ (omega arith) e₄) at-end in
    f₄.is ∙ simp append_assoc
