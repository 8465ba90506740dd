-- Whole numbers beside natural ones. Where document 01 compares an end with a time or with a row's `to`, both at least 1,
-- the end cut off at 0 serves as well.
use Rattle.std.specs.Prelude.{ℕ, zero, suc, ◌*◌, ◌≤◌, ◌<◌, ◌≡◌, refl, ℤ, pos, negsuc, neg_ℤ, ◌*ℤ◌, ◌≤ℤ◌, ◌<ℤ◌}
use Rattle.std.proofs.Common.{arith, leb→le, le→leb, ltb→lt, lt→ltb}
use Rattle.order.specs.Deadline.{cut}

-- the order of natural numbers is that of whole ones
pub pos-≤ : {a b : ℕ} → pos a ≤ℤ pos b → a ≤ b
pos-≤ {a} {b} h = leb→le a b h.le

pub ≤-pos : {a b : ℕ} → a ≤ b → pos a ≤ℤ pos b
≤-pos {a} {b} h = record { le = le→leb a b h }

pub pos-< : {a b : ℕ} → pos a <ℤ pos b → a < b
pos-< {a} {b} h = ltb→lt a b h.lt

pub <-pos : {a b : ℕ} → a < b → pos a <ℤ pos b
<-pos {a} {b} h = record { lt = lt→ltb a b h }

-- a number with a natural one below it is what is left of it after the cut
pub above-pos : (n : ℕ) (z : ℤ) → pos n ≤ℤ z → z ≡ pos (cut z)
above-pos n (pos k) h = refl
above-pos n (negsuc k) h = absurd h.le

pub cut-≤ : (y z : ℤ) → y ≤ℤ z → cut y ≤ cut z
cut-≤ (pos a) (pos b) h = pos-≤ h
cut-≤ (pos a) (negsuc b) h = absurd h.le
cut-≤ (negsuc a) z h = omega arith

-- a natural number below z is below z cut off
pub <-cut : (n : ℕ) (z : ℤ) → pos n <ℤ z → n < cut z
<-cut n (pos k) h = pos-< h
<-cut n (negsuc k) h = absurd h.lt

-- from 1 on, a number at most z cut off is at most z
pub ≤-of-cut : (n : ℕ) (z : ℤ) → 1 ≤ n → n ≤ cut z → pos n ≤ℤ z
≤-of-cut n (pos k) l h = ≤-pos h
≤-of-cut n (negsuc k) l h = absurd (omega arith)

-- and one at most p times z is at most p times z cut off
pub ≤-mul-cut : (n p : ℕ) (z : ℤ) → 1 ≤ n → pos n ≤ℤ (pos p *ℤ z) → n ≤ p * cut z
≤-mul-cut n p (pos k) l h = pos-≤ h
≤-mul-cut n p (negsuc k) l h = none (p * suc k) h
  where
    none : (m : ℕ) → pos n ≤ℤ neg_ℤ (pos m) → n ≤ p * 0
    none zero h = absurd (omega (arith, pos-≤ h))
    none (suc m) h = absurd h.le

-- and the other way round
pub mul-cut-≤ : (n p : ℕ) (z : ℤ) → 1 ≤ n → n ≤ p * cut z → pos n ≤ℤ (pos p *ℤ z)
mul-cut-≤ n p (pos k) l h = ≤-pos h
mul-cut-≤ n p (negsuc k) l h = absurd (omega arith)
