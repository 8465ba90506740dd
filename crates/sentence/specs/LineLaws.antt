-- Document 02, §1: "Each line composed for a reason reads back to that reason alone at a given order and bound, any other line to none",
-- and "anything else composes to an empty line".
use Rattle.std.specs.Prelude.{ℕ, ◌≤◌, ◌≡◌, Bool, ◌↔◌, ℤ, pos}
use Rattle.std.proofs.Math.Path.{refl, sym}
use Rattle.std.proofs.Common.{ap, ◌∙◌, arith, eqb-true, eq-eqb, length-append}
use Rattle.std.proofs.Math.Bool.{true, false, cond}
use mathlib.Core.List.{List, []}
use Rattle.std.proofs.Math.Dec.{eqb}
use Rattle.std.proofs.Math.ListN.{length}
use Rattle.sums.specs.Members.{All-map}
use Rattle.sums.specs.Places.{take-tabulate}
use Rattle.sums.specs.Same.{Tells, same_list, list_tells}
use Rattle.order.specs.Order.{Order}
use Rattle.order.proofs.ClassLaws.{classes-few}
use Rattle.order.proofs.EndLaws.{mag-range}
use Rattle.order.specs.Refusals.{Accepted}
use Rattle.order.proofs.RefusalLaws.{accepted-iff}
use Rattle.profile.proofs.MinutesLaws.{dues-range}
use Rattle.profile.specs.Reason.{Reason, over_end, stairs, Stands, owed_of, on_hand_of}
use Rattle.profile.specs.Search.{Found, nothing, found}
use Rattle.profile.proofs.SearchLaws.{found-passes, nothing-passes}
use Rattle.profile.specs.Standing.{reasons_at, is_standing}
use Rattle.profile.proofs.StandingLaws.{reasons-are, standing-is}
use Rattle.reason.specs.Told.{why_of, why_told}
use Rattle.sentence.specs.Line.{subject_of, sums_text, line_of, composed, read_back}
use Rattle.sentence.specs.Scanning.{candidate}
use Rattle.sentence.specs.ScanLaws.{Short, candidate-found}

-- bytes are told apart
pub bytes-tell : Tells (same_list eqb)
bytes-tell = list_tells eqb (λ x y. (eqb-true x y, eq-eqb x y))

-- a line has some byte
pub line-some : (o : Order) (bound : ℤ) (r : Reason) → 1 ≤ length (line_of o bound r)
unfolding line_of
line-some o bound r =
    omega (arith, length-append (subject_of o bound r) (sums_text (owed_of o bound r) (on_hand_of o bound r)))

-- what is composed: nothing where there is no reason, the line of a reason that stands, and nothing of another
pub composed-nothing : (o : Order) (bound : ℤ) → composed o bound nothing ≡ []
unfolding composed
composed-nothing o bound = refl

module _ (o : Order) (bound : ℤ) (r : Reason) where
  pub composed-line : Stands o bound r → composed o bound (found r) ≡ line_of o bound r
  unfolding composed
  composed-line h = rw ((standing-is o bound r).1 h)

  pub composed-none : ¬ Stands o bound r → composed o bound (found r) ≡ []
  unfolding composed
  composed-none h = at (is_standing o bound r) refl
    where
      at : (b : Bool) → is_standing o bound r ≡ b → cond b (line_of o bound r) [] ≡ []
      at true e = absurd (h ((standing-is o bound r).0 e))
      at false e = refl

  -- where some line is composed, the reason stands
  pub composed-stands : 1 ≤ length (composed o bound (found r)) → Stands o bound r
  unfolding composed
  composed-stands h = at (is_standing o bound r) refl h
    where
      at : (b : Bool) → is_standing o bound r ≡ b → 1 ≤ length (cond b (line_of o bound r) []) → Stands o bound r
      at true e l = (standing-is o bound r).0 e
      at false e l = absurd (omega arith)

-- a reason that stands, of an accepted order
module _ (o : Order) (ok : Accepted o) (bound : ℤ) where
  -- its numbers are short
  pub stands-short : (r : Reason) → Stands o bound r → Short r
  stands-short (over_end j) h = omega (arith, h.0.1, ((accepted-iff o).0 ok).few-jobs)
  stands-short (stairs dues) h =
      let p = h.1.profile in
      let a = (accepted-iff o).0 ok in (
        omega (arith, p.of-classes, classes-few o, a.few-processors),
        All-map _ _ dues (λ (d : ℤ) r. omega (arith, mag-range 999999 1000000 d r)) (dues-range o a bound dues p),
      )

  -- "no line may be taken for another reason"
  pub line-one : (r s : Reason) → Stands o bound r → Stands o bound s → line_of o bound r ≡ line_of o bound s → r ≡ s
  line-one r s h k e =
      let a = stands-short r h in
      let b = stands-short s k in
      let same : found r ≡ found s
      = sym (told r a) ∙ (ap why_told (sym (candidate-found o bound r a) ∙ (ap (candidate o) e ∙ candidate-found o bound s b)) ∙ told s b) in
      cc
    where
      told : (r : Reason) → Short r → why_told (why_of o (found r)) ≡ found r
      told (over_end j) a = refl
      told (stairs dues) a = ap (λ (ds : List ℤ). found (stairs ds)) (take-tabulate dues 16 (pos 0) a.0)

  -- a line reads back to a reason exactly if the reason stands and the line is its line
  pub reads-to : (line : List ℕ) (r : Reason) → (read_back o bound line ≡ found r) ↔ (Stands o bound r × (line ≡ line_of o bound r))
  unfolding read_back
  reads-to line r = (read, back (read_back o bound line) refl)
    where
      read : read_back o bound line ≡ found r → Stands o bound r × (line ≡ line_of o bound r)
      read e =
          let p = found-passes (λ (s : Reason). same_list eqb (line_of o bound s) line) (reasons_at o bound) r e in
          ((reasons-are o bound r).0 p.0, sym ((bytes-tell (line_of o bound r) line).0 p.1))

      back : (f : Found Reason) → read_back o bound line ≡ f → Stands o bound r × (line ≡ line_of o bound r) → read_back o bound line ≡ found r
      back nothing e h =
          let z = nothing-passes (λ (s : Reason). same_list eqb (line_of o bound s) line) (reasons_at o bound) e r
          ((reasons-are o bound r).1 h.0) in
          let w : ◌≡◌ {A = ℕ} 0 1 = cc (z, (bytes-tell (line_of o bound r) line).1 (sym h.1)) in
          absurd (omega arith)
      back (found s) e h =
          let p = found-passes (λ (s : Reason). same_list eqb (line_of o bound s) line) (reasons_at o bound) s e in
          let k = (bytes-tell (line_of o bound s) line).0 p.1 in
          e ∙ ap found (line-one s r ((reasons-are o bound s).0 p.0) h.0 (k ∙ h.1))

  -- "any other line to none"
  pub reads_none : (line : List ℕ) →
      (read_back o bound line ≡ nothing) ↔ ((r : Reason) → Stands o bound r → ¬ (line ≡ line_of o bound r))
  reads_none line = (
    λ e r h k. let z : ◌≡◌ {A = ℕ} 0 1 = cc (e, (reads-to line r).1 (h, k)) in omega arith,
    back (read_back o bound line) refl,
  )
    where
      back : (f : Found Reason) → read_back o bound line ≡ f → ((r : Reason) → Stands o bound r → ¬ (line ≡ line_of o bound r)) →
          read_back o bound line ≡ nothing
      back nothing e h = e
      back (found r) e h = let k = (reads-to line r).0 e in absurd (h r k.0 k.1)

  -- the empty line is no reason's
  pub empty-none : read_back o bound [] ≡ nothing
  empty-none = (reads_none []).1 (λ r h e. omega (arith, line-some o bound r, ap length e))

  -- "Each line composed for a reason reads back to that reason alone"
  pub composed-reads : (r : Reason) → Stands o bound r → read_back o bound (composed o bound (found r)) ≡ found r
  composed-reads r h = (reads-to (composed o bound (found r)) r).1 (h, composed-line o bound r h)
