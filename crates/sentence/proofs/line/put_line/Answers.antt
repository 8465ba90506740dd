use Rattle.std.specs.Prelude.{Some}
use mathlib.Core.Path.{sym, ap, ◌∙◌}
use lib.IntN.{ℤ}
use mir.Syntax.{w32}
use mir.ValLaws.{to_z-of_z}
use Rattle.order.specs.Refusals.{bound_in_range}
use Rattle.order.specs.Table.{order_of}
use Rattle.text.specs.TextLaws.{put-none, put_as}
use Rattle.sentence.specs.Line.{composed}
use Rattle.reason.specs.declared.Reason.TheVariants.{Stairs}
use Rattle.sentence.specs.Handed.{handed_by}
use Rattle.sentence.specs.Inside.{job_composed}
use Rattle.sentence.proofs.Dues.{zeros-told}
use Rattle.sentence.proofs.Handings.{met-none, job-beside, job-handed, stairs-told}
use native.Mathlib.Omega.{arith}
use Rattle.sentence.proofs.line.put_line.Goals as goal

pub returns-in_default : goal.returns-in_default
returns-in_default c = (
  put_as (sym (met-none (order_of c.args.order) c.args.bound c.args.why c.in_default.is))
      (put-none c.args.out.now 0 (omega arith)),
  omega arith,
)

pub returns-then-not-all_zero : goal.returns-then-not-all_zero
returns-then-not-all_zero c =
    let z = c.all_zero in (
      put_as (sym (job-beside (order_of c.args.order) c.args.bound c.args.why c.in-Some.reason c.in-Some.is z.result c.in-Job.job
          c.in-Job.time
          c.in-Job.is (z.ensures ∙ zeros-told _) c.if-not-all_zero.true)) (put-none c.args.out.now 0 (omega arith)),
      omega arith,
    )

pub job_line-requires : goal.job_line-requires
job_line-requires c =
    (c.requires.0, ap bound_in_range (to_z-of_z w32 c.args.bound c.ranges.bound) ∙ c.requires.1, omega arith)

pub counted_line-requires : goal.counted_line-requires
counted_line-requires c =
    (c.requires.0, ap bound_in_range (to_z-of_z w32 c.args.bound c.ranges.bound) ∙ c.requires.1, omega arith)

pub returns-else-not-all_zero : goal.returns-else-not-all_zero
returns-else-not-all_zero c =
    let z = c.all_zero in
    let q = c.job_line.ensures in
    let o = order_of c.args.order in (
      put_as (ap (λ (b : ℤ). job_composed o b c.in-Job.job c.in-Job.time) (to_z-of_z w32 c.args.bound c.ranges.bound)
          ∙ job-handed o c.args.bound c.args.why c.in-Some.reason c.in-Some.is z.result c.in-Job.job c.in-Job.time c.in-Job.is
          (z.ensures ∙ zeros-told _) c.if-not-all_zero.false) q.0,
      omega (arith, q.1),
    )

pub returns-in-Stairs : goal.returns-in-Stairs
returns-in-Stairs c =
    let q = c.counted_line.ensures in
    let o = order_of c.args.order in (
      put_as (ap (λ (b : ℤ). composed o b (handed_by o (Some (Stairs c.in-Stairs.count)) c.args.why.dues))
          (to_z-of_z w32 c.args.bound c.ranges.bound)
          ∙ stairs-told o c.args.bound c.args.why c.in-Some.reason c.in-Some.is c.in-Stairs.count c.in-Stairs.is) q.0,
      q.1,
    )
