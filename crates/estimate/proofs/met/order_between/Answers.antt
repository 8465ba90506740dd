use Rattle.std.proofs.Common.{rules, ◌≡◌, None, Ok, Err, sym, subst}
use mathlib.Core.Path.{refl}
use mir.Syntax.{w32}
use mir.ValLaws.{to_z-of_z}
use Rattle.estimate.specs.Told.{estimate_of}
use Rattle.estimate.proofs.Answers.{Handed, along-below, below-along, from-along, estimate-good, met-refused, met-below, met-above, met_at}
use Rattle.estimate.proofs.met.order_between.Goals as goal
use Rattle.estimate.proofs.met.order_between.Goals.{
  then-number-least_after-via-then-number-least_after,
  then-number-least_after-via-else-number-least_after+then-least_after-number,
}

pub returns-in_err-accept_estimate : goal.returns-in_err-accept_estimate
returns-in_err-accept_estimate c =
    let t = c.args.estimate in
    let e = c.in_err-accept_estimate in
    let is : c.from_residual.result ≡ Err e.field-0.0 = search rules in
    let t = subst (Handed t _ c.accept_estimate.ensures c.args.number _ refl) (sym is)
    (met-refused t _ c.accept_estimate.ensures c.args.number _ refl _ e.was) in
    record { result_value = t.0; order_value = t.1 }

pub returns-then-number-least_after : goal.returns-then-number-least_after
returns-then-number-least_after c =
    let t = c.args.estimate in
    let is = c.in_ok-accept_estimate.was in
    let ok = estimate-good t _ c.accept_estimate.ensures is in
    let number = c.args.number in
    let back = to_z-of_z w32 number c.ranges.number in
    let r : Handed t _ c.accept_estimate.ensures number _ back (Ok None)
    = elim c.then-number-least_after.branch [
      | then-number-least_after-via-then-number-least_after w ↦
          met-below t _ c.accept_estimate.ensures number _ back is
          (below-along (estimate_of t) ok _ _ _ c.least_after.ensures w.if-number-least_after.true)
      | then-number-least_after-via-else-number-least_after+then-least_after-number w ↦
          met-above t _ c.accept_estimate.ensures number _ back is _ c.path_length-last.ensures.0
          (along-below (estimate_of t) ok _ _ _ w.least_after-else-number-least_after.ensures w.if-least_after-number.true)
    ] in
    record { result_value = r.0; order_value = r.1 }

pub returns : goal.returns
returns c =
    let t = c.args.estimate in
    let is = c.in_ok-accept_estimate.was in
    let ok = estimate-good t _ c.accept_estimate.ensures is in
    let number = c.args.number in
    let back = to_z-of_z w32 number c.ranges.number in
    let r = c.first_reached.ensures in
    let t = met_at t _ c.accept_estimate.ensures number _ back is _ _ c.path_length-last.ensures.0 r.0
    (from-along (estimate_of t) ok _ _ _ c.least_after.ensures
    c.if-number-least_after.false) r.1 r.2 _ c.order_after.ensures in
    record { result_value = t.0; order_value = t.1 }
