-- The reason as numbers: they are few, and those of the code's reason are those of document 01's.
use Rattle.std.specs.Prelude.{Option, None, Some}
use Prim.Native.Nat.{ℕ, ◌<◌}
use mathlib.Core.Path.{◌≡◌, refl, sym, ◌∙◌, subst}
use mathlib.Core.Bool.{true, false}
use mathlib.Core.List.{List, [], ◌∷◌, ◌++◌}
use native.Mathlib.Omega.{arith}
use lib.IntN.{ℤ}
use Rattle.sums.specs.Members.{All-nth}
use Rattle.order.specs.Order.{Order, no_job}
use Rattle.order.specs.Refusals.{limits, accepted, refused, judge, order_rows, bound_row, bound_in_range, Accepted}
use Rattle.order.proofs.RefusalLaws.{accepted-iff, judge-accepted-append}
use Rattle.profile.specs.Reason.{Reason, over_end, stairs, Stands}
use Rattle.profile.proofs.StandingLaws.{reason-stands}
use Rattle.sentence.specs.Line.{read_back}
use Rattle.sentence.specs.LineLaws.{reads-to}
use Rattle.profile.proofs.ReasonLaws.{reason-found}
use Rattle.profile.specs.Search.{Found, nothing, found, reason_of}
use Rattle.order.proofs.ClassLaws.{classes-few}
use Rattle.reason.specs.Told.{why_of}
use Rattle.reason.specs.declared.Reason.TheVariants.{Job, Stairs}
use Rattle.reason.specs.declared.Why.{Why}
use Rattle.highboyrobin.specs.Calls.{reason_numbers}
use Rattle.highboyrobin.specs.Inside.{kind_of, which_of, time_of, why_numbers}
use Rattle.reason.specs.declared.Reason.{Reason as CodeReason}

pub numbers-are : (o : Order) (r : Found Reason) → why_numbers (why_of o r) ≡ reason_numbers o r
numbers-are o nothing = refl
numbers-are o (found (over_end j)) = refl
numbers-are o (found (stairs dues)) = refl

pub kind-small : (t : Option CodeReason) → kind_of t < 2147483648
kind-small None = omega arith
kind-small (Some (Job j t)) = omega arith
kind-small (Some (Stairs k)) = omega arith

-- row 8 decides after an accepted order
module _ (o : Order) (bound : ℤ) (a : Accepted o) where
  pub bound-refused : bound_in_range bound ≡ false → judge (order_rows limits o ++ (bound_row bound ∷ [])) ≡ refused 8 0
  unfolding judge
  bound-refused e = judge-accepted-append (order_rows limits o) (bound_row bound ∷ []) a ∙ rw e

  pub bound-accepted : bound_in_range bound ≡ true → judge (order_rows limits o ++ (bound_row bound ∷ [])) ≡ accepted
  unfolding judge
  bound-accepted e = judge-accepted-append (order_rows limits o) (bound_row bound ∷ []) a ∙ rw e

-- each number of a reason that stands is below 2^31
module _ (o : Order) (bound : ℤ) (a : Accepted o) where
  abbrev Small : Why → Type 0
  Small w = (which_of w.reason < 2147483648) × (time_of w.reason < 2147483648)

  small : (f : Found Reason) → ((r : Reason) → f ≡ found r → Stands o bound r) → Small (why_of o f)
  small nothing s = (omega arith, omega arith)
  small (found (over_end j)) s =
      let h = (accepted-iff o).0 a in
      let b = (s (over_end j) refl).0 in (
        omega (arith, b, h.few-jobs),
        omega (arith, All-nth _ o.jobs no_job h.times j b.0 b.1),
      )
  small (found (stairs dues)) s =
      let h = (accepted-iff o).0 a in
      let p = (s (stairs dues) refl).1.profile.of-classes in
      (omega (arith, p, classes-few o, h.few-processors), omega arith)

  pub reason-small : (w : Why) → w ≡ why_of o (reason_of o bound) →
      (which_of w.reason < 2147483648) × (time_of w.reason < 2147483648)
  reason-small w e =
      subst Small (sym e)
      (small (reason_of o bound) (λ r f. reason-stands o bound r ((reason-found o bound r).0 f)))

  pub read_small : (line : List ℕ) (w : Why) → w ≡ why_of o (read_back o bound line) →
      (which_of w.reason < 2147483648) × (time_of w.reason < 2147483648)
  read_small line w e = subst Small (sym e) (small (read_back o bound line) (λ r f. ((reads-to o a bound line r).0 f).0))

-- the reason of the order that was read is that of the file's
pub why-moved : (o o' : Order) (read bound : ℤ) (w : Why) → o ≡ o' → read ≡ bound → w ≡ why_of o (reason_of o read) →
    w ≡ why_of o' (reason_of o' bound)
why-moved o o' read bound w e f h =
    subst (λ (z : ℤ). w ≡ why_of o' (reason_of o' z)) f (subst (λ (x : Order). w ≡ why_of x (reason_of x read)) e h)
