-- A reason from numbers: what the tests of the code say of its kind.
use Rattle.std.specs.Prelude.{Option, None, Some}
use Prim.Native.Nat.{ℕ, ◌+◌, ◌<◌}
use mathlib.Core.Path.{◌≡◌, refl, sym, ap, ◌∙◌}
use mathlib.Core.Bool.{true, false}
use mathlib.Core.List.{List}
use native.Mathlib.Omega.{arith}
use borrow.Author.Tests.{ltb-true, ne_eqb}
use lib.Dec.{T, eqb}
use lib.IntN.{ℤ, pos, negsuc, nat_abs}
use lib.ListN.{get_or}
use lib.Signed.{mag, lt_z, non_neg}
use mir.Syntax.{w32}
use mir.Val.{to_z, of_z, Fits, SFits}
use mir.ValLaws.{to_z-of_z}
use Rattle.sums.specs.Lists.{tabulate}
use Rattle.profile.specs.Standing.{same_z}
use Rattle.reason.specs.declared.Reason.TheVariants.{Job, Stairs}
use Rattle.reason.specs.declared.Why.{Why}
use Rattle.highboyrobin.specs.Calls.{tightness_from, why_from}
use Rattle.reason.specs.declared.Reason.{Reason}

-- a number as the machine reads it back
module _ (z : ℤ) (f : SFits w32 z) where
  abbrev pub read_back : ℤ
  read_back = to_z w32 (of_z w32 z)

  whole : (y : ℤ) → mag y < 2147483648 → lt_z y (pos 0) ≡ false → T (non_neg y) × Fits w32 (nat_abs y)
  whole (pos n) h e = (tt, record { fits = omega arith })
  whole (negsuc n) h e = let w : ◌≡◌ {A = ℕ} 0 1 = cc in absurd (omega arith)

  -- one that is not negative is cast
  pub casts : lt_z (to_z w32 (of_z w32 z)) (pos 0) ≡ false → T (non_neg (to_z w32 (of_z w32 z))) × Fits w32
      (nat_abs (to_z w32 (of_z w32 z)))
  casts e = rw (to_z-of_z w32 z f) (whole z f.sfits (rw (to_z-of_z w32 z f) at e))

  natural : (y : ℤ) → lt_z y (pos 0) ≡ false → y ≡ pos (nat_abs y)
  natural (pos n) e = refl
  natural (negsuc n) e = let w : ◌≡◌ {A = ℕ} 0 1 = cc in absurd (omega arith)

  pub is-natural : lt_z (to_z w32 (of_z w32 z)) (pos 0) ≡ false → z ≡ pos (nat_abs (to_z w32 (of_z w32 z)))
  is-natural e = natural z (rw (to_z-of_z w32 z f) at e) ∙ ap (λ (y : ℤ). pos (nat_abs y)) (sym (to_z-of_z w32 z f))

  pub is_negative : lt_z (to_z w32 (of_z w32 z)) (pos 0) ≡ true → lt_z z (pos 0) ≡ true
  is_negative e = rw (to_z-of_z w32 z f) at e

  -- its pattern is that of a small number exactly if it is that number
  pub is-small : (n : ℕ) → n < 2147483648 → of_z w32 z ≡ n → z ≡ pos n
  is-small n h e = sym (to_z-of_z w32 z f) ∙ (ap (to_z w32) e ∙ to_z-of_z w32 (pos n) (record { sfits = h }))

  pub not-small : (n : ℕ) → ¬ (of_z w32 z ≡ n) → same_z z (pos n) ≡ false
  not-small n h = at z refl
    where
      at : (y : ℤ) → z ≡ y → same_z y (pos n) ≡ false
      at (pos m) e = ne_eqb m n (λ q. h (ap (of_z w32) (e ∙ ap pos q)))
      at (negsuc m) e = refl

module _ (kind : ℤ) where
  pub negative-which : (which time : ℤ) → lt_z which (pos 0) ≡ true → None ≡ tightness_from kind which time
  negative-which (pos n) time e = absurd (omega (arith, ltb-true n 0 e))
  negative-which (negsuc n) time e = refl

  pub negative-time : (which time : ℤ) (n : ℕ) → which ≡ pos n → lt_z time (pos 0) ≡ true → None ≡ tightness_from kind which time
  negative-time which (pos m) n w e = absurd (omega (arith, ltb-true m 0 e))
  negative-time which (negsuc m) n w e = rw w refl

  module _ (which time : ℤ) (n m : ℕ) (w : which ≡ pos n) (t : time ≡ pos m) where
    pub job-kind : kind ≡ pos 1 → Some (Job n m) ≡ tightness_from kind which time
    job-kind k = rw (w, t, k) refl

    pub no_kind : same_z kind (pos 1) ≡ false → same_z kind (pos 2) ≡ false → None ≡ tightness_from kind which time
    no_kind k l = rw (w, t, k, l) refl

    pub stairs-time : kind ≡ pos 2 → same_z time (pos 0) ≡ false → None ≡ tightness_from kind which time
    stairs-time k l =
        let z : eqb m 0 ≡ false = ap (λ (y : ℤ). same_z y (pos 0)) (sym t) ∙ l in
        rw (w, t, k, z) refl

    pub stairs-kind : kind ≡ pos 2 → time ≡ pos 0 → Some (Stairs n) ≡ tightness_from kind which time
    stairs-kind k l = rw (w, k, l) refl

-- the reason of nineteen numbers, from its parts
pub why-is : (numbers : List ℤ) (a b c : ℤ) (t : Option Reason) (dues : List ℤ) → a ≡ get_or numbers 0 (pos 0) → b ≡ get_or numbers 1 (pos 0) →
    c ≡ get_or numbers 2 (pos 0) → t ≡ tightness_from a b c → dues ≡ tabulate 16 (λ i. get_or numbers (3 + i) (pos 0)) →
    ◌≡◌ {A = Why} (record { reason = t; dues = dues }) (why_from numbers)
unfolding why_from
why-is numbers a b c t dues p q r e f =
    let same : t ≡ tightness_from (get_or numbers 0 (pos 0)) (get_or numbers 1 (pos 0)) (get_or numbers 2 (pos 0)) = e ∙ rw
    (p, q, r) refl in
    cc (same, f)
