-- Numbers stored one after the other in a lent answer.
use Prim.Native.Nat.{◌≤◌}
use mathlib.Core.Path.{◌≡◌, ap, ◌∙◌}
use mathlib.Core.List.{List, [], ◌∷◌, ◌++◌}
use lib.ListN.{length, set, take, drop}
use lib.Seq.{sets-eq, drop-drop}

module _ {A : Type 0} where
  pub one-stored : (s : List A) (a x : A) → x ≡ a → 1 ≤ length s → set s 0 x ≡ a ∷ drop 1 s
  one-stored s a x e h = rw e (sets-eq (a ∷ []) s 0 h)

  pub two-stored : (s : List A) (a b x y : A) → x ≡ a → y ≡ b → 2 ≤ length s → set (set s 0 x) 1 y ≡ a ∷ b ∷ drop 2 s
  two-stored s a b x y e f h = rw (e, f) (sets-eq (a ∷ b ∷ []) s 0 h)

  pub three-stored : (s : List A) (a b c x y z : A) → x ≡ a → y ≡ b → z ≡ c → 3 ≤ length s →
      set (set (set s 0 x) 1 y) 2 z ≡ a ∷ b ∷ c ∷ drop 3 s
  three-stored s a b c x y z e f g h = rw (e, f, g) (sets-eq (a ∷ b ∷ c ∷ []) s 0 h)

  -- three numbers at the front, then sixteen behind them
  pub nineteen-stored : (s xs out after : List A) (a b c x y z : A) → x ≡ a → y ≡ b → z ≡ c → out ≡ x ∷ y ∷ z ∷ drop 3 s →
      after ≡ take 3 out ++ (xs ++ drop 19 out) → after ≡ a ∷ b ∷ c ∷ (xs ++ drop 19 s)
  nineteen-stored s xs out after a b c x y z e₁ e₂ e₃ e f =
      f ∙ rw (e, e₁, e₂, e₃) (ap (λ (ys : List A). a ∷ b ∷ c ∷ (xs ++ ys)) (drop-drop 16 3 s))
