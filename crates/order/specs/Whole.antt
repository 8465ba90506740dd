-- Laws of the whole numbers: their order is total, and adding the same number to both sides keeps it and tells it.
use Rattle.std.specs.Prelude.{ℕ, zero, suc, ◌+◌, ◌-◌, ◌≤◌, ◌<◌, ◌≡◌, refl, Bool, true, false, ◌⊎◌, ◌↔◌, T, leb, ltb, ℤ, pos, negsuc, neg_ℤ, ◌+ℤ◌, ◌-ℤ◌, ◌≤ℤ◌, ◌<ℤ◌}
use Rattle.std.proofs.Common.{sym, ap, ◌∙◌, subst, subst₂, inl, inr, arith, ltb-true, lt-ltb, le-ltb, leb-true, le-leb}
use Rattle.std.proofs.Math.Decide.{dec_le, dec_lt}
use Rattle.std.proofs.Math.IntN.{sub_ℕ, +ℤ_assoc, +ℤ_comm, +ℤ-neg_ℤ_cancel}
use Rattle.std.specs.Int.Signed.{lt_z, lt_z_no, <ℤ-≤ℤ_trans, clash_ℤ}
use Rattle.order.specs.Deadline.{cut}

-- a test passed is a fact, a fact is a test passed
passed : (t : Bool) → T t → t ≡ true
passed true x = refl
passed false x = absurd x

pub lt_z-true : (a b : ℤ) → lt_z a b ≡ true → a <ℤ b
lt_z-true a b e = record { lt = rw e tt }

pub true-lt_z : (a b : ℤ) → a <ℤ b → lt_z a b ≡ true
true-lt_z a b h = passed (lt_z a b) h.lt

pub lt_z-false : (a b : ℤ) → lt_z a b ≡ false → b ≤ℤ a
lt_z-false a b e = lt_z_no (rw e tt)

pub false-lt_z : (a b : ℤ) → b ≤ℤ a → lt_z a b ≡ false
false-lt_z a b h = go (lt_z a b) refl
  where
    go : (t : Bool) → lt_z a b ≡ t → t ≡ false
    go true e = clash_ℤ (lt_z-true a b e) h
    go false e = refl

-- of two numbers one is at most the other, or the other is less
pub le-or-lt : (a b : ℤ) → (a ≤ℤ b) ⊎ (b <ℤ a)
le-or-lt a b = go (lt_z b a) refl
  where
    go : (t : Bool) → lt_z b a ≡ t → (a ≤ℤ b) ⊎ (b <ℤ a)
    go true e = inr (lt_z-true b a e)
    go false e = inl (lt_z-false b a e)

-- between naturals the order is theirs
pub pos-le : (a b : ℕ) → (pos a ≤ℤ pos b) ↔ (a ≤ b)
pos-le a b = (λ h. leb-true a b (passed (leb a b) h.le), λ h. record { le = rw (le-leb a b h) tt })

pub pos-lt : (a b : ℕ) → (pos a <ℤ pos b) ↔ (a < b)
pos-lt a b = (λ h. ltb-true a b (passed (ltb a b) h.lt), λ h. record { lt = rw (lt-ltb a b h) tt })

-- a - b of naturals
pub subℕ-pos : (a b : ℕ) → b ≤ a → sub_ℕ a b ≡ pos (a - b)
subℕ-pos a b h = rw (le-ltb a b h)

pub subℕ-neg : (a b : ℕ) → a < b → sub_ℕ a b ≡ negsuc (b - suc a)
subℕ-neg a b h = rw (lt-ltb a b h)

pub pos-minus : (a b : ℕ) → b ≤ a → pos a -ℤ pos b ≡ pos (a - b)
pos-minus a zero h = ap pos (omega arith)
pos-minus a (suc b) h = subℕ-pos a (suc b) h

-- a difference cut off at 0 is the naturals' own
pub cut-minus : (a b : ℕ) → cut (pos a -ℤ pos b) ≡ a - b
cut-minus a b =
    elim (dec_le b a) [
      | yes h ↦ ap cut (pos-minus a b h)
      | no h ↦ below b (omega arith)
    ]
  where
    below : (b : ℕ) → a < b → cut (pos a -ℤ pos b) ≡ a - b
    below zero h = absurd (omega arith)
    below (suc b) h = ap cut (subℕ-neg a (suc b) h) ∙ omega arith

-- where a number cut off at 0 is not 0, nothing was cut off
pub pos-cut : (z : ℤ) → 1 ≤ cut z → pos (cut z) ≡ z
pos-cut (pos n) h = refl
pos-cut (negsuc n) h = absurd (omega arith)

-- from 1 on, the order is that of the number cut off at 0
pub le-cut : (z : ℤ) (n : ℕ) → 1 ≤ n → (pos n ≤ℤ z) ↔ (n ≤ cut z)
le-cut (pos k) n h = pos-le n k
le-cut (negsuc k) n h = (λ l. absurd l.le, λ l. absurd (omega arith))

pub lt-cut : (z : ℤ) (n : ℕ) → 1 ≤ n → (z <ℤ pos n) ↔ (cut z < n)
lt-cut (pos k) n h = pos-lt k n
lt-cut (negsuc k) n h = (λ l. h, λ l. record { lt = tt })

-- a number is at most another exactly if a natural added to it gives the other
pub le-add : (a : ℤ) (n : ℕ) → a ≤ℤ (a +ℤ pos n)
le-add (pos a) n = (pos-le a (a + n)).1 (omega arith)
le-add (negsuc a) n =
    elim (dec_lt n (suc a)) [
      | yes h ↦ rw (subℕ-neg n (suc a) h) (record { le = rw (le-leb (suc a - suc n) a (omega arith)) tt })
      | no h ↦ rw (subℕ-pos n (suc a) (omega arith)) (record { le = tt })
    ]

pub le-gap : (a b : ℤ) → a ≤ℤ b → (n : ℕ) × (a +ℤ pos n ≡ b)
le-gap (pos a) (pos b) h = (b - a, ap pos (omega (arith, (pos-le a b).0 h)))
le-gap (pos a) (negsuc b) h = absurd h.le
le-gap (negsuc a) (pos b) h =
    (b + suc a, subℕ-pos (b + suc a) (suc a) (omega arith) ∙ ap pos (omega arith))
le-gap (negsuc a) (negsuc b) h =
    let l : b ≤ a = leb-true b a (passed (leb b a) h.le) in
    (a - b, subℕ-neg (a - b) (suc a) (omega arith) ∙ ap negsuc (omega arith))

pub ≤ℤ-trans : (a b c : ℤ) → a ≤ℤ b → b ≤ℤ c → a ≤ℤ c
≤ℤ-trans a b c h k = elim (le-or-lt a c) [ inl l ↦ l | inr l ↦ clash_ℤ (<ℤ-≤ℤ_trans l h) k ]

pub <ℤ-≤ℤ : (a b : ℤ) → a <ℤ b → a ≤ℤ b
<ℤ-≤ℤ (pos a) (pos b) h = (pos-le a b).1 (omega (arith, (pos-lt a b).0 h))
<ℤ-≤ℤ (pos a) (negsuc b) h = absurd h.lt
<ℤ-≤ℤ (negsuc a) (pos b) h = record { le = tt }
<ℤ-≤ℤ (negsuc a) (negsuc b) h =
    record { le = rw (le-leb b a (omega (arith, ltb-true b a (passed (ltb b a) h.lt)))) tt }

pub ≤ℤ-<ℤ-trans : (a b c : ℤ) → a ≤ℤ b → b <ℤ c → a <ℤ c
≤ℤ-<ℤ-trans a b c h k = elim (le-or-lt c a) [ inr l ↦ l | inl l ↦ clash_ℤ k (≤ℤ-trans c a b l h) ]

-- (a + b) + c is (a + c) + b
pub add-swap : (a b c : ℤ) → (a +ℤ b) +ℤ c ≡ (a +ℤ c) +ℤ b
add-swap a b c = +ℤ_assoc a b c ∙ (ap (λ (z : ℤ). a +ℤ z) (+ℤ_comm b c) ∙ sym (+ℤ_assoc a c b))

-- adding the same number keeps the order, and tells it
pub add-le : (a b c : ℤ) → a ≤ℤ b → (a +ℤ c) ≤ℤ (b +ℤ c)
add-le a b c h =
    let g = le-gap a b h in
    subst (λ (z : ℤ). (a +ℤ c) ≤ℤ z) (add-swap a c (pos g.0) ∙ ap (λ (z : ℤ). z +ℤ c) g.1) (le-add (a +ℤ c) g.0)

pub add-le-of : (a b c : ℤ) → (a +ℤ c) ≤ℤ (b +ℤ c) → a ≤ℤ b
add-le-of a b c h =
    subst₂ (λ (x y : ℤ). x ≤ℤ y) (+ℤ-neg_ℤ_cancel a c) (+ℤ-neg_ℤ_cancel b c) (add-le (a +ℤ c) (b +ℤ c) (neg_ℤ c) h)

pub add-lt : (a b c : ℤ) → a <ℤ b → (a +ℤ c) <ℤ (b +ℤ c)
add-lt a b c h = elim (le-or-lt (b +ℤ c) (a +ℤ c)) [ inr l ↦ l | inl l ↦ clash_ℤ h (add-le-of b a c l) ]

pub add-lt-of : (a b c : ℤ) → (a +ℤ c) <ℤ (b +ℤ c) → a <ℤ b
add-lt-of a b c h = elim (le-or-lt b a) [ inr l ↦ l | inl l ↦ clash_ℤ h (add-le b a c l) ]

-- and two numbers are one if the sums are
pub add-cancel : (a b c : ℤ) → a +ℤ c ≡ b +ℤ c → a ≡ b
add-cancel a b c e = sym (+ℤ-neg_ℤ_cancel a c) ∙ (ap (λ (z : ℤ). z -ℤ c) e ∙ +ℤ-neg_ℤ_cancel b c)

-- what is left of a number cut off at 0 after a natural one is taken away
pub cut-less : (z : ℤ) (n : ℕ) → cut z ≡ cut (z +ℤ pos n) - n
cut-less (pos a) n = omega arith
cut-less (negsuc a) n =
    elim (dec_lt n (suc a)) [
      | yes h ↦ rw (subℕ-neg n (suc a) h) (omega arith)
      | no h ↦ rw (subℕ-pos n (suc a) (omega arith)) (omega arith)
    ]

-- one test is another where what they ask is the same
pub lt_z-is-ltb : (x y : ℤ) (a b : ℕ) → (x <ℤ y) ↔ (a < b) → lt_z x y ≡ ltb a b
lt_z-is-ltb x y a b h =
    elim (dec_lt a b) [
      | yes l ↦ true-lt_z x y (h.1 l) ∙ sym (lt-ltb a b l)
      | no l ↦ elim (le-or-lt y x) [
        | inl g ↦ false-lt_z x y g ∙ sym (le-ltb a b (omega arith))
        | inr g ↦ absurd (l (h.0 g))
      ]
    ]
