-- What hbr_sentence and hbr_parse say: a line is composed for exactly the numbers that hbr_reason answers for a reason that stands, it is
-- a fact about every plan, and hbr_parse answers the same numbers for it, for another line none.
use Rattle.std.specs.Prelude.{None, Some}
use Rattle.std.specs.Prelude.{ℕ, ◌≤◌, ◌≡◌, Bool, true, false, cond, ◌&&◌, List, ◌++◌, ◌↔◌, eqb, ℤ, pos, negsuc, take, drop}
use Rattle.std.proofs.Math.Path.{refl, ap}
use Rattle.std.proofs.Common.{sym, ◌∙◌, subst, arith, eqb-true, take_at}
use Rattle.std.proofs.Math.ListN.{length, get_or}
use Rattle.sums.specs.Lists.{tabulate}
use Rattle.order.specs.Order.{Order}
use Rattle.order.specs.Refusals.{accepted, judge, Accepted}
use Rattle.order.proofs.RefusalLaws.{both_true}
use Rattle.order_file.specs.File.{order_in}
use Rattle.plan.specs.Plan.{Row, RightInParts}
use Rattle.planner.specs.NoPlan.{stands-no-plan}
use Rattle.profile.specs.Reason.{Reason, over_end, stairs, Stands}
use Rattle.profile.specs.Search.{Found, nothing, found}
use Rattle.profile.specs.Standing.{same_z}
use Rattle.reason.specs.Told.{why_of}
use Rattle.reason.specs.declared.Reason.{Reason as CodeReason}
use Rattle.reason.specs.declared.Reason.TheVariants.{Job, Stairs}
use Rattle.reason.specs.declared.Why.{Why}
use Rattle.sentence.specs.Handed.{handed}
use Rattle.sentence.specs.HandedLaws.{Fitting, handed-own, handed-told}
use Rattle.sentence.specs.Line.{line_of, composed, read_back}
use Rattle.sentence.specs.LineLaws.{composed-line, composed-stands, reads-to}
use Rattle.highboyrobin.specs.Calls.{reason_numbers, tightness_from, why_from, line_from, parse_call, parse_answer}
use Rattle.highboyrobin.specs.CallLaws.{numbers-count}
use Rattle.highboyrobin.specs.Places.{take_places}
use Rattle.highboyrobin.specs.Inside.{kind_of, which_of, time_of}

-- numbers of a kind are those of the reason that they tell
from-kind : (kind : ℤ) (n m : ℕ) (r : CodeReason) → tightness_from kind (pos n) (pos m) ≡ Some r →
    (pos (kind_of (Some r)) ≡ kind) × (which_of (Some r) ≡ n) × (time_of (Some r) ≡ m)
from-kind kind n m r e = at (same_z kind (pos 1)) refl (same_z kind (pos 2) && eqb m 0) refl e
  where
    is : (k : ℕ) → same_z kind (pos k) ≡ true → pos k ≡ kind
    is k h = read kind h
      where
        read : (z : ℤ) → same_z z (pos k) ≡ true → pos k ≡ z
        read (pos j) h = ap pos (sym (eqb-true j k h))
        read (negsuc j) h = let w : ◌≡◌ {A = ℕ} 0 1 = cc in absurd (omega arith)

    at : (a : Bool) → same_z kind (pos 1) ≡ a → (b : Bool) → (same_z kind (pos 2) && eqb m 0) ≡ b →
        cond a (Some (Job n m)) (cond b (Some (Stairs n)) None) ≡ Some r →
        (pos (kind_of (Some r)) ≡ kind) × (which_of (Some r) ≡ n) × (time_of (Some r) ≡ m)
    at true f b g h =
        let same : Job n m ≡ r = cc in
        subst (λ (x : CodeReason). (pos (kind_of (Some x)) ≡ kind) × (which_of (Some x) ≡ n) × (time_of (Some x) ≡ m)) same
        (is 1 f, refl, refl)
    at false f true g h =
        let same : Stairs n ≡ r = cc in
        let both = both_true (same_z kind (pos 2)) (eqb m 0) g in
        subst (λ (x : CodeReason). (pos (kind_of (Some x)) ≡ kind) × (which_of (Some x) ≡ n) × (time_of (Some x) ≡ m)) same
        (is 2 both.0, refl, sym (eqb-true m 0 both.1))
    at false f false g h = let w : ◌≡◌ {A = ℕ} 0 1 = cc in absurd (omega arith)

from-numbers : (kind which time : ℤ) (r : CodeReason) → tightness_from kind which time ≡ Some r →
    (pos (kind_of (Some r)) ≡ kind) × (pos (which_of (Some r)) ≡ which) × (pos (time_of (Some r)) ≡ time)
from-numbers kind (pos n) (pos m) r e = let h = from-kind kind n m r e in (h.0, ap pos h.1, ap pos h.2)
from-numbers kind (pos n) (negsuc m) r e = let w : ◌≡◌ {A = ℕ} 0 1 = cc in absurd (omega arith)
from-numbers kind (negsuc n) time r e = let w : ◌≡◌ {A = ℕ} 0 1 = cc in absurd (omega arith)

module _ (o : Order) (numbers : List ℤ) (enough : 19 ≤ length numbers) where
  nineteen : take 19 numbers ≡ tabulate 19 (λ i. get_or numbers i (pos 0))
  nineteen = take_places 19 numbers (pos 0) enough

  told : (r : Reason) → handed o (why_from numbers) ≡ found r → take 19 numbers ≡ reason_numbers o (found r)
  unfolding why_from
  told r e =
      let w : why_from numbers ≡ why_of o (found r) = handed-told o (why_from numbers) r refl e in
      nineteen ∙ (at r w)
    where
      at : (r : Reason) → why_from numbers ≡ why_of o (found r) → tabulate 19 (λ i. get_or numbers i (pos 0)) ≡ reason_numbers o (found r)
      at (over_end j) w =
          let h = from-numbers (get_or numbers 0 (pos 0)) (get_or numbers 1 (pos 0)) (get_or numbers 2 (pos 0)) _
          (ap (λ (x : Why). x.reason) w) in
          cc (h.0, h.1, h.2, ap (λ (x : Why). x.dues) w)
      at (stairs dues) w =
          let h = from-numbers (get_or numbers 0 (pos 0)) (get_or numbers 1 (pos 0)) (get_or numbers 2 (pos 0)) _
          (ap (λ (x : Why). x.reason) w) in
          cc (h.0, h.1, h.2, ap (λ (x : Why). x.dues) w)

  -- the numbers of a reason, read as one, are what the planner tells of it
  own : (r : Reason) → why_from (reason_numbers o (found r)) ≡ why_of o (found r)
  unfolding why_from
  own (over_end j) = refl
  own (stairs dues) = refl

  -- only the first nineteen are looked at
  first-ones : why_from (tabulate 19 (λ i. get_or numbers i (pos 0))) ≡ why_from numbers
  unfolding why_from
  first-ones = refl

  -- numbers tell a reason exactly if they are those that hbr_reason answers for it
  pub numbers-tell : (r : Reason) → Fitting r → (handed o (why_from numbers) ≡ found r) ↔ (take 19 numbers ≡ reason_numbers o (found r))
  numbers-tell r few = (
    told r,
    λ e. ap (handed o) (sym first-ones ∙ (ap why_from (sym nineteen ∙ e) ∙ own r)) ∙ handed-own o r few,
  )

-- where a line is composed, its reason stands, and nobody's plan is right, in whatever equal parts of a minute
module _ (f : List ℕ) (bound : ℤ) (numbers : List ℤ) (ok : Accepted (order_in f)) (some : 1 ≤ length (line_from f bound numbers)) where
  abbrev o : Order
  o = order_in f

  pub sentence-stands : (r : Reason) × (handed o (why_from numbers) ≡ found r) × Stands o bound r ×
      (line_from f bound numbers ≡ line_of o bound r)
  unfolding composed
  sentence-stands = at (handed o (why_from numbers)) refl
    where
      at : (g : Found Reason) → handed o (why_from numbers) ≡ g →
          (r : Reason) × (handed o (why_from numbers) ≡ found r) × Stands o bound r × (line_from f bound numbers ≡ line_of o bound r)
      at nothing e = absurd (omega (arith, some, ap length (ap (composed o bound) e)))
      at (found r) e =
          let c = ap (composed o bound) e in
          let s = composed-stands o bound r (omega (arith, some, ap length c)) in
          (r, e, s, c ∙ composed-line o bound r s)

  pub sentence-no-plan : (p : ℕ) → 1 ≤ p → (rows : List Row) → ¬ RightInParts p o bound rows
  sentence-no-plan = let s = sentence-stands in stands-no-plan o ok bound s.0 s.2

  -- hbr_parse answers the numbers that were handed in
  pub sentence-parsed : 19 ≤ length numbers → (answer : List ℤ) → judge (parse_call f bound (length answer)) ≡ accepted →
      take 19 (parse_answer f bound (line_from f bound numbers) answer) ≡ take 19 numbers
  sentence-parsed enough answer e =
      let s = sentence-stands in
      let back : read_back o bound (line_from f bound numbers) ≡ found s.0
      = (reads-to o ok bound (line_from f bound numbers) s.0).1 (s.2, s.3) in
      let is : parse_answer f bound (line_from f bound numbers) answer ≡ reason_numbers o (found s.0) ++ drop 19 answer
      = rw (e, back) (ap (λ (n : ℕ). reason_numbers o (found s.0) ++ drop n answer) (numbers-count o (found s.0))) in
      ap (take 19) is
      ∙ (take_at (reason_numbers o (found s.0)) (drop 19 answer) 19 (numbers-count o (found s.0))
      ∙ sym (told o numbers enough s.0 s.1))
