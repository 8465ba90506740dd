use mathlib.Core.Path.{sym, ap, ◌∙◌}
use Prim.Native.Nat.{◌≤◌}
use Rattle.order.proofs.StructLaws.{few-jobs}
use Rattle.order.specs.Order.{Job}
use Rattle.order.specs.Table.{order_of}
use Rattle.order.specs.Machine.{machine-back}
use Rattle.text.specs.TextLaws.{put-none, put_as, put_both}
use Rattle.sentence.specs.Line.{job_text, sums_text}
use Rattle.sentence.proofs.Jobs.{
  job-none,
  job-other,
  job-line,
  job-at,
  job-number,
  number-job,
  end-asked,
  time-fits,
  time-is,
  end-small,
  end_is,
  in-time,
  over-end,
}
use native.Mathlib.Omega.{arith}
use Rattle.sentence.proofs.line.job_line.Goals.{then-job-eq0-via-then-job-eq0, then-job-eq0-via-else-job-eq0+then-order-job}
use Rattle.sentence.proofs.line.job_line.Goals as goal

pub returns-then-job-eq0 : goal.returns-then-job-eq0
returns-then-job-eq0 c = (
  put_as (sym (job-none (order_of c.args.order) c.args.bound c.args.job c.args.time (λ h.
      let n = job-number c.args.order c.args.job h.0 in
      elim c.then-job-eq0.branch [
        | then-job-eq0-via-then-job-eq0 w ↦ n.0 w.if-job-eq0.true
        | then-job-eq0-via-else-job-eq0+then-order-job w ↦ omega (arith, n.1, w.if-order-job.true)
      ]))) (put-none c.args.out.now 0 (omega arith)),
  omega arith,
)

pub bounds-order-i : goal.bounds-order-i
bounds-order-i c = omega (
  arith,
  few-jobs c.args.order
      c.requires.0,
  c.if-job-eq0.false,
  c.if-order-job.false,
)

pub returns-then-order-i : goal.returns-then-order-i
returns-then-order-i c =
    let few : c.args.job ≤ c.args.order.jobs = omega (arith, c.if-order-job.false) in (
      put_as (sym (job-other (order_of c.args.order) c.args.bound c.args.job c.args.time
          (λ h. c.if-order-i.true (sym (h ∙ ap (λ (job : Job). job.time) (job-at c.args.order c.args.job
          c.if-job-eq0.false few))))))
          (put-none c.args.out.now 0 (omega arith)),
      omega arith,
    )

pub bounds-order-i-2 : goal.bounds-order-i-2
bounds-order-i-2 c = omega (
  arith,
  few-jobs c.args.order
      c.requires.0,
  c.if-job-eq0.false,
  c.if-order-job.false,
)

pub end_of-end-requires : goal.end_of-end-requires
end_of-end-requires c =
    end-asked c.args.order c.requires.0 c.args.bound c.ranges.bound.sfits c.requires.1 c.args.job
    c.if-job-eq0.false
    (omega (arith, c.if-order-job.false)) c.end_of-arg-1.given

pub overflow_cast-time : goal.overflow_cast-time
overflow_cast-time c =
    time-fits c.args.order c.requires.0 c.args.bound c.ranges.bound.sfits c.requires.1 c.args.job
    c.if-job-eq0.false
    (omega (arith, c.if-order-job.false)) c.end_of-arg-1.given c.args.time
    c.if-order-i.false

pub returns-then-time-end : goal.returns-then-time-end
returns-then-time-end c = (
  put_as (sym (job-none (order_of c.args.order) c.args.bound c.args.job c.args.time (λ h.
      in-time c.args.order c.requires.0 c.args.bound c.ranges.bound.sfits c.requires.1 c.args.job
      c.if-job-eq0.false
      (omega (arith, c.if-order-job.false)) c.end_of-arg-1.given
      c.args.time c.if-order-i.false _ c.end_of-end.ensures
      c.if-time-end.true h.1))) (put-none c.args.out.now 0 (omega arith)),
  omega arith,
)

pub returns : goal.returns
returns c =
    let some = c.if-job-eq0.false in
    let few : c.args.job ≤ c.args.order.jobs = omega (
      arith,
      c.if-order-job.false,
    ) in
    let end = c.end_of-end.result in
    let is = c.end_of-end.ensures in
    let small = c.end_of-arg-1.given in
    let same = c.if-order-i.false in
    let p = c.requires in
    let back = machine-back end
    (end-small c.args.order p.0 c.args.bound c.ranges.bound.sfits p.1 c.args.job some few small
    c.args.time same end is) in
    let p1 = put_as (ap (job_text c.args.job c.args.time) back)
    c.put_job-behind.ensures.0 in
    let p2 = put_as (ap (sums_text c.args.time) back) c.put_sums.ensures.0 in (
      put_as (job-line (order_of c.args.order) c.args.bound c.args.job c.args.time end
          (number-job c.args.order c.args.job some few)
          (time-is c.args.order p.0 c.args.bound c.ranges.bound.sfits p.1 c.args.job some few small
          c.args.time same)
          (end_is c.args.order p.0 c.args.bound c.ranges.bound.sfits p.1 c.args.job some few small
          c.args.time same end is)
          (over-end c.args.order p.0 c.args.bound c.ranges.bound.sfits p.1 c.args.job some few small
          c.args.time same
          end is c.if-time-end.false))
          (put_both p1 p2),
      omega arith,
    )
