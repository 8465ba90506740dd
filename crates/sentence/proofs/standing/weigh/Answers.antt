use mathlib.Core.Path.{◌≡◌, sym, ap, ◌∙◌}
use mathlib.Core.Bool.{true≢false}
use lib.IntN.{ℤ}
use mir.Syntax.{w32}
use mir.ValLaws.{to_z-of_z}
use native.Mathlib.Omega.{arith}
use Rattle.std.proofs.Common.{rules}
use Rattle.order.specs.Lead.{reach_at, last_due}
use Rattle.order.proofs.RefusalLaws.{accepted-iff}
use Rattle.order.specs.Table.{order_of}
use Rattle.table.specs.Making.{fine_of}
use Rattle.sentence.specs.WeighLaws.{stands-fits}
use Rattle.sentence.proofs.Standings.{some-late, reached, weighed}
use Rattle.sentence.proofs.standing.weigh.Goals.{then-t-dues-via-then-t-dues, then-t-dues-via-else-t-dues+then-not-steps_fit}
use Rattle.sentence.proofs.standing.weigh.Goals as goal

pub first_late-requires : goal.first_late-requires
first_late-requires c = fine_of (order_of c.args.order) c.args.t c.requires.2 ((accepted-iff _).0 c.requires.0)

pub returns-then-is_some : goal.returns-then-is_some
returns-then-is_some c =
    let o = order_of c.args.order in
    let a = (accepted-iff o).0 c.requires.0 in
    let e : c.reach_of-reach.result ≡ reach_at last_due c.args.bound
    = c.reach_of-reach.ensures.0 ∙ ap (λ (z : ℤ). reach_at last_due z) (to_z-of_z w32 c.args.bound c.ranges.bound) in
    let late = c.first_late in
    some-late o a c.args.t c.requires.2 c.args.bound _ e late.result late.ensures (search rules) _

pub returns-then-t-dues : goal.returns-then-t-dues
returns-then-t-dues c =
    elim c.then-t-dues.branch [
      | then-t-dues-via-then-t-dues w ↦ λ h.
          omega (
            arith,
            (stands-fits (order_of c.args.order) c.args.bound c.args.dues.now h).1,
            c.requires.2.classed,
            w.if-t-dues.true,
          )
      | then-t-dues-via-else-t-dues+then-not-steps_fit w ↦ λ h.
          true≢false (sym (w.steps_fit.ensures.1 (stands-fits (order_of c.args.order) c.args.bound c.args.dues.now h).0)
          ∙ w.if-not-steps_fit.true)
    ]

pub sums_of-sums-requires : goal.sums_of-sums-requires
sums_of-sums-requires c =
    let o = order_of c.args.order in
    let a = (accepted-iff o).0 c.requires.0 in
    let e : c.reach_of-reach.result ≡ reach_at last_due c.args.bound
    = c.reach_of-reach.ensures.0 ∙ ap (λ (z : ℤ). reach_at last_due z) (to_z-of_z w32 c.args.bound c.ranges.bound) in
    let late = c.first_late in (
      fine_of o c.args.t c.requires.2 a,
      c.reach_of-reach.ensures.1,
      c.requires.3,
      reached o a c.args.t c.requires.2 c.args.bound _ e late.result late.ensures
          (search rules)
          c.args.dues.now c.requires.3 (c.steps_fit.ensures.0 c.if-not-steps_fit.false),
    )

pub returns : goal.returns
returns c =
    let o = order_of c.args.order in
    let a = (accepted-iff o).0 c.requires.0 in
    let e : c.reach_of-reach.result ≡ reach_at last_due c.args.bound
    = c.reach_of-reach.ensures.0 ∙ ap (λ (z : ℤ). reach_at last_due z) (to_z-of_z w32 c.args.bound c.ranges.bound) in
    let late = c.first_late in
    let q = c.sums_of-sums.ensures in
    rw c.then_some.ensures
    (weighed o a c.args.t c.requires.2 c.args.bound _ e late.result late.ensures
    (search rules)
    c.args.dues.now c.requires.3 (c.steps_fit.ensures.0 c.if-not-steps_fit.false) (omega (arith, c.if-t-dues.false))
    c.sums_of-sums.result q.0 q.1 q.2)
