use native.Mathlib.Omega.{arith}
use Prim.Native.Nat.{suc}
use mathlib.Core.Path.{ap, ◌∙◌}
use mir.Syntax.{w32}
use mir.ValLaws.{to_z-of_z}
use Rattle.order.specs.Lead.{lead}
use Rattle.order.specs.Refusals.{bound_in_range}
use Rattle.order.proofs.RefusalLaws.{accepted-iff}
use Rattle.table.specs.Making.{fine_of}
use Rattle.timed.specs.Leads.{most_bound}
use Rattle.timed.proofs.Gathering.{changes-found}
use Rattle.timed.proofs.moments.changes_of.Goals as goal

pub put_minutes-requires : goal.put_minutes-requires
put_minutes-requires c =
    let T = c.requires.1 in
    let g = c.requires.1.tabled in (
      g.few-jobs,
      omega arith,
      omega (arith, g.few-jobs),
      omega (arith, g.few-jobs),
      λ i l. T.in-range.readies (suc i) (omega arith, omega (arith, g.jobs)),
    )

pub below_most-requires : goal.below_most-requires
below_most-requires c =
    ap bound_in_range (to_z-of_z w32 c.args.bound c.ranges.bound) ∙ c.requires.1.bound-good

pub put_ends-requires : goal.put_ends-requires
put_ends-requires c =
    let T = c.requires.1 in
    let g = c.requires.1.tabled in
    let fine = fine_of _ _ g ((accepted-iff _).0 T.accepted) in (
      g.few-jobs,
      omega (arith, g.few-jobs),
      omega (arith, g.few-jobs),
      c.below_most.ensures.1,
      λ i l. fine.leads i l,
    )

pub overflow_mul-t : goal.overflow_mul-t
overflow_mul-t c =
    omega (arith, c.requires.1.tabled.few-jobs)

pub put_windows-requires : goal.put_windows-requires
put_windows-requires c =
    let T = c.requires.1 in
    let g = c.requires.1.tabled in (
      g.few-processors,
      omega (arith, g.few-jobs),
      omega (arith, g.few-jobs, g.few-processors),
      (λ i l. T.in-range.openings (suc i) (omega arith, omega (arith, g.processors))),
      λ i l. T.in-range.closings (suc i) (omega arith, omega (arith, g.processors)),
    )

pub overflow_mul-t-2 : goal.overflow_mul-t-2
overflow_mul-t-2 c =
    omega (arith, c.requires.1.tabled.few-jobs)

pub overflow_mul-t-3 : goal.overflow_mul-t-3
overflow_mul-t-3 c =
    omega (arith, c.requires.1.tabled.few-processors)

pub overflow_add-t : goal.overflow_add-t
overflow_add-t c =
    let g = c.requires.1.tabled in
    omega (arith, g.few-jobs, g.few-processors)

pub put_distinct-count-requires : goal.put_distinct-count-requires
put_distinct-count-requires c =
    let g = c.requires.1.tabled in
    (omega (arith, g.few-jobs, g.few-processors), omega (arith, g.few-jobs, g.few-processors), omega (arith, g.few-jobs, g.few-processors), omega (arith, g.few-jobs, g.few-processors))

pub returns : goal.returns
returns c =
    let shift = c.below_most in
    let e = shift.ensures.0 ∙ ap (lead most_bound) (to_z-of_z w32 c.args.bound c.ranges.bound) in
    let d = c.put_distinct-count in
    λ o T. changes-found o c.args.t c.args.bound c.args.times T _ _ _ _ shift.result e
    c.put_minutes.ensures c.put_ends.ensures c.put_windows.ensures d.result _ _ d.ensures.0 d.ensures.1
    T.tabled.few-jobs T.tabled.few-processors _ c.to_minutes.ensures
