-- The reason that a line is tried with is the one that it reads back to, if its line is this one; else there is none.
use Prim.Native.Nat.{ℕ, ◌≤◌}
use mathlib.Core.Path.{◌≡◌, refl, sym, ap, ◌∙◌, subst}
use mathlib.Core.Bool.{Bool, true, false}
use mathlib.Core.List.{List}
use mathlib.Core.Logic.{◌↔◌}
use native.Mathlib.Omega.{arith}
use lib.Dec.{eqb}
use lib.IntN.{ℤ}
use lib.ListN.{length}
use Rattle.std.specs.Prelude.{nat_eq}
use Rattle.std.specs.Cmp.Lexicographic.{told_text}
use lib.Pointwise.{pointwise}
use mathlib.Core.Bool.{true≢false}
use Rattle.order.specs.Order.{Order}
use Rattle.order.specs.Refusals.{Accepted}
use Rattle.profile.specs.Reason.{Reason, over_end, stairs, Stands}
use Rattle.profile.specs.Search.{Found, nothing, found}
use Rattle.reason.specs.Told.{why_of}
use Rattle.reason.specs.declared.Why.{Why}
use Rattle.sentence.specs.Handed.{handed}
use Rattle.sentence.specs.HandedLaws.{Fitting, handed-own}
use Rattle.sentence.specs.Line.{line_of, composed, read_back}
use Rattle.sentence.specs.LineLaws.{line-some, composed-line, composed-stands, stands-short, reads-to, reads_none}
use Rattle.sentence.specs.ScanLaws.{Short, candidate-found}
use Rattle.sentence.specs.Scanning.{candidate}

-- what is composed is this line, and not empty
abbrev pub HasLine : Order → ℤ → Why → List ℕ → Type 0
HasLine o bound why line = (composed o bound (handed o why) ≡ line) × (1 ≤ length line)

-- the bytes are compared
pub compared : (o : Order) (bound : ℤ) (why : Why) (line text : List ℕ) (b : Bool) → b ≡ pointwise nat_eq text line →
    text ≡ composed o bound (handed o why) → ¬ (length text ≡ 0) → (b ≡ true) ↔ HasLine o bound why line
compared o bound why line text true e is some =
    let same = told_text text line true e in
    (λ _. (sym is ∙ same, omega (arith, some, ap length same)), λ _. refl)
compared o bound why line text false e is some =
    (λ t. absurd (true≢false (sym t)), λ h. absurd (told_text text line false e (is ∙ h.0)))

short-fits : (r : Reason) → Short r → Fitting r
short-fits (over_end j) h = tt
short-fits (stairs dues) h = h.0

module _ (o : Order) (ok : Accepted o) (bound : ℤ) (line : List ℕ) (w : Why) (tried : w ≡ candidate o line) where
  -- a reason that stands and has this line is tried
  tried-is : (r : Reason) → Stands o bound r → line ≡ line_of o bound r → w ≡ why_of o (found r)
  tried-is r s e = tried ∙ (ap (candidate o) e ∙ candidate-found o bound r (stands-short o ok bound r s))

  pub read_is : HasLine o bound w line → w ≡ why_of o (read_back o bound line)
  unfolding composed
  read_is h = at (handed o w) refl
    where
      at : (f : Found Reason) → handed o w ≡ f → w ≡ why_of o (read_back o bound line)
      at nothing e = absurd (omega (arith, ap length (sym h.0 ∙ ap (composed o bound) e), h.1))
      at (found r) e =
          let c : composed o bound (found r) ≡ line = sym (ap (composed o bound) e) ∙ h.0 in
          let s = composed-stands o bound r (omega (arith, ap length c, h.1)) in
          let is : line ≡ line_of o bound r = sym c ∙ composed-line o bound r s in
          tried-is r s is ∙ ap (why_of o) (sym ((reads-to o ok bound line r).1 (s, is)))

  pub read-not : ¬ HasLine o bound w line → why_of o nothing ≡ why_of o (read_back o bound line)
  read-not h =
      ap (why_of o) (sym ((reads_none o ok bound line).1 (λ r s e.
      h (
        ap (composed o bound) (ap (handed o) (tried-is r s e) ∙ handed-own o r (short-fits r (stands-short o ok bound r s)))
            ∙ (composed-line o bound r s ∙ sym e),
        omega (arith, line-some o bound r, ap length e),
      ))))

-- at a bound as the machine reads it back
pub has-at : (o : Order) (read bound : ℤ) (why : Why) (line : List ℕ) (b : Bool) → read ≡ bound →
    (b ≡ true) ↔ HasLine o read why line → (b ≡ true) ↔ HasLine o bound why line
has-at o read bound why line b e h = subst (λ (z : ℤ). (b ≡ true) ↔ HasLine o z why line) e h
