use borrow.Author.Rules.{rules}
use mathlib.Core.Path.{◌≡◌, refl, ap, ◌∙◌}
use native.Mathlib.Nat.{mul-le-mul}
use native.Mathlib.Omega.{arith}
use lib.ListN.{length, replicate, get_or-replicate}
use mir.Syntax.{w32}
use mir.ValLaws.{to_z-of_z}
use Rattle.table.specs.HeldLaws.{beside-once}
use Rattle.order.specs.Lead.{reach_at, last_due}
use Rattle.planner.proofs.PlanMade.{amounts-fit, plan-given, plan-made, plan-few}
use Rattle.planner.proofs.making.make_plan.Goals as goal

pub ends_at-deadlines-requires : goal.ends_at-deadlines-requires
ends_at-deadlines-requires c =
    (c.requires.1.tabled.few-jobs, beside-once c.requires.0 c.args.t c.requires.1.tabled)

pub fill_amounts-requires : goal.fill_amounts-requires
fill_amounts-requires c =
    let e = c.reach_of-reach.ensures.0 ∙ ap (reach_at last_due) (to_z-of_z w32 c.args.bound c.ranges.bound) in
    let fit = amounts-fit c.requires.1 e c.ends_at-deadlines.ensures c.minutes_at-marks.ensures (replicate 48 0) (replicate 16 0) (replicate 16 c.reach_of-reach.result) (λ j l. get_or-replicate 48 j 0 0 l)
    (λ i l. get_or-replicate 16 i 0 0 l) (λ i l. get_or-replicate 16 i c.reach_of-reach.result 0 l)
    (omega arith) refl (omega arith) refl refl (replicate 2352 0) refl in
    let sized = fit.0.0 in record {
      sized = sized;
      lent = record {
        long = fit.1;
        l-cap = mul-le-mul {n₂ = 48} {m₂ = 48} sized.few-jobs fit.0.1;
        l-room = mul-le-mul {n₂ = 48} {m₂ = 17} fit.0.1 (omega (arith, sized.few-classes));
        l-slack = mul-le-mul {n₂ = 48} {m₂ = 17} fit.0.1 (omega (arith, sized.few-classes));
      };
    }

pub lay_plan-requires : goal.lay_plan-requires
lay_plan-requires c =
    let long : length c.fill_amounts.new.w ≡ 2352 = search rules in
    let w = c.fill_amounts in
    let e = c.reach_of-reach.ensures.0 ∙ ap (reach_at last_due) (to_z-of_z w32 c.args.bound c.ranges.bound) in
    let marked : length c.minutes_at-marks.result ≡ 48 = (omega arith) in
    let t = plan-given c.requires.1 e c.ends_at-deadlines.ensures c.minutes_at-marks.ensures (replicate 48 0) (replicate 16 0) (replicate 16 c.reach_of-reach.result) (λ j l. get_or-replicate 48 j 0 0 l)
    (λ i l. get_or-replicate 16 i 0 0 l) (λ i l. get_or-replicate 16 i c.reach_of-reach.result 0 l)
    w.new.w w.result w.ensures.answer marked refl refl long in
    record { m_bound = t.0; w_in_bounds = t.1 }

pub returns : goal.returns
returns c =
    let l = c.lay_plan.ensures in
    let w = c.fill_amounts in
    let e = c.reach_of-reach.ensures.0 ∙ ap (reach_at last_due) (to_z-of_z w32 c.args.bound c.ranges.bound) in
    let hd = c.ends_at-deadlines.ensures in
    let hm = c.minutes_at-marks.ensures in (
      λ o m. plan-made m e hd hm (replicate 48 0) (replicate 16 0) (replicate 16 c.reach_of-reach.result) (λ j l. get_or-replicate 48 j 0 0 l)
          (λ i l. get_or-replicate 16 i 0 0 l) (λ i l. get_or-replicate 16 i c.reach_of-reach.result 0 l)
          w.new.w w.result w.ensures.answer w.ensures.run_of _ _ _ l.0 l.1,
      plan-few c.requires.1 e hd hm (replicate 48 0) (replicate 16 0) (replicate 16 c.reach_of-reach.result) (λ j l. get_or-replicate 48 j 0 0 l)
          (λ i l. get_or-replicate 16 i 0 0 l) (λ i l. get_or-replicate 16 i c.reach_of-reach.result 0 l)
          w.new.w _ l.0,
    )
