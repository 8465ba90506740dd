use borrow.Author.Rules.{rules}
use native.Mathlib.Nat.{mul-le-mul}
use native.Mathlib.Omega.{arith}
use mathlib.Core.Path.{◌≡◌, refl, ap, ◌∙◌}
use borrow.Author.Tests.{not-true, not-false}
use lib.ListN.{length, replicate}
use mir.Syntax.{w32}
use mir.ValLaws.{to_z-of_z}
use Rattle.order.specs.Lead.{reach_at, last_due}
use Rattle.order.specs.Refusals.{bound_in_range}
use Rattle.table.specs.HeldLaws.{beside-once}
use Rattle.timed.proofs.TimedMade.{
  amounts-sized,
  amounts-long,
  none_made,
  plan-given,
  plan-few,
  plan-made,
  cut_of,
  amounts-of,
  run_of,
}
use Rattle.timed.proofs.making.make_timed.Goals as goal

pub reach_of-requires : goal.reach_of-requires
reach_of-requires c =
    ap bound_in_range (to_z-of_z w32 c.args.bound c.ranges.bound) ∙ c.requires.1.timed.bound-good

pub ends_at-until-requires : goal.ends_at-until-requires
ends_at-until-requires c =
    let m = c.requires.1.timed.tabled in
    (m.few-jobs, beside-once c.requires.0 c.args.t m)

pub fill_amounts-requires : goal.fill_amounts-requires
fill_amounts-requires c =
    let e = c.reach_of.ensures.0 ∙ ap (reach_at last_due) (to_z-of_z w32 c.args.bound c.ranges.bound) in
    let hd = c.ends_at-until.ensures in
    let sized = amounts-sized c.requires.1 e hd in
    let long = amounts-long c.requires.1 e hd (omega arith)
    (omega arith) (omega arith)
    (omega arith) (omega arith)
    (replicate 6272 0) refl in record {
      sized = sized;
      lent = record {
        long = long;
        l-cap = mul-le-mul {n₂ = 48} {m₂ = 128} sized.few-jobs sized.few-stretches;
        l-room = mul-le-mul {n₂ = 128} {m₂ = 17} sized.few-stretches (omega (arith, sized.few-classes));
        l-slack = mul-le-mul {n₂ = 128} {m₂ = 17} sized.few-stretches (omega (arith, sized.few-classes));
      };
    }

pub returns-then-not-fill_amounts : goal.returns-then-not-fill_amounts
returns-then-not-fill_amounts c =
    let e = c.reach_of.ensures.0 ∙ ap (reach_at last_due) (to_z-of_z w32 c.args.bound c.ranges.bound) in
    let w = c.fill_amounts in
    λ o m. (refl, none_made m e c.ends_at-until.ensures (cut_of _ _ _ w.result w.ensures.answer (not-true _ c.if-not-fill_amounts.true-raw)))

pub lay_plan-requires : goal.lay_plan-requires
lay_plan-requires c =
    let long : length c.fill_amounts.new.w ≡ 6272 = search rules in
    let e = c.reach_of.ensures.0 ∙ ap (reach_at last_due) (to_z-of_z w32 c.args.bound c.ranges.bound) in
    let w = c.fill_amounts in
    let t = plan-given c.requires.1 e c.ends_at-until.ensures w.new.w
    (amounts-of _ _ _ w.result w.ensures.answer (not-false _ c.if-not-fill_amounts.false-raw))
    (omega arith) (omega arith) (omega arith) long in
    record { m_bound = t.0; w_in_bounds = t.1 }

pub overflow_cast-result : goal.overflow_cast-result
overflow_cast-result c =
    let e = c.reach_of.ensures.0 ∙ ap (reach_at last_due) (to_z-of_z w32 c.args.bound c.ranges.bound) in
    let w = c.fill_amounts in
    omega (
      arith,
      plan-few c.requires.1 e c.ends_at-until.ensures w.new.w
          (amounts-of _ _ _ w.result w.ensures.answer (not-false _ c.if-not-fill_amounts.false-raw)) _ c.lay_plan.ensures.0,
    )

pub returns : goal.returns
returns c =
    let e = c.reach_of.ensures.0 ∙ ap (reach_at last_due) (to_z-of_z w32 c.args.bound c.ranges.bound) in
    let w = c.fill_amounts in
    let done = not-false _ c.if-not-fill_amounts.false-raw in
    let F = amounts-of _ _ _ w.result w.ensures.answer done in
    let l = c.lay_plan.ensures in
    λ o m. (
      plan-made m e c.ends_at-until.ensures w.new.w F (run_of _ _ _ w.result w.ensures.run_of done) _ _ _ l.0 l.1,
      plan-few m e c.ends_at-until.ensures w.new.w F _ l.0,
    )
