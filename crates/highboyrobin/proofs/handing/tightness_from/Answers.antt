use Rattle.highboyrobin.proofs.Handed.{
  casts,
  is-natural,
  is_negative,
  is-small,
  not-small,
  negative-which,
  negative-time,
  job-kind,
  no_kind,
  stairs-time,
  stairs-kind,
}
use native.Mathlib.Omega.{arith}
use Rattle.highboyrobin.proofs.handing.tightness_from.Goals as goal

pub returns-then-which-lt0 : goal.returns-then-which-lt0
returns-then-which-lt0 c =
    negative-which c.args.kind c.args.which c.args.time (is_negative c.args.which c.ranges.which
    c.if-which-lt0.true)

pub returns-then-time-lt0 : goal.returns-then-time-lt0
returns-then-time-lt0 c =
    negative-time c.args.kind c.args.which c.args.time _ (is-natural c.args.which c.ranges.which
    c.if-which-lt0.false)
    (is_negative c.args.time c.ranges.time c.if-time-lt0.true)

pub overflow_cast-result : goal.overflow_cast-result
overflow_cast-result c =
    casts c.args.which c.ranges.which c.if-which-lt0.false

pub overflow_cast-result-then-kind-eq1 : goal.overflow_cast-result-then-kind-eq1
overflow_cast-result-then-kind-eq1 c =
    casts c.args.time c.ranges.time c.if-time-lt0.false

pub returns-then-kind-eq1 : goal.returns-then-kind-eq1
returns-then-kind-eq1 c =
    job-kind c.args.kind c.args.which c.args.time _ _ (is-natural c.args.which c.ranges.which
    c.if-which-lt0.false)
    (is-natural c.args.time c.ranges.time c.if-time-lt0.false)
    (is-small c.args.kind c.ranges.kind 1 (omega arith) c.if-kind-eq1.true)

pub returns-then-kind-ne2 : goal.returns-then-kind-ne2
returns-then-kind-ne2 c =
    no_kind c.args.kind c.args.which c.args.time _ _ (is-natural c.args.which c.ranges.which
    c.if-which-lt0.false)
    (is-natural c.args.time c.ranges.time c.if-time-lt0.false)
    (not-small c.args.kind c.ranges.kind 1 c.if-kind-eq1.false)
    (not-small c.args.kind c.ranges.kind 2 c.if-kind-ne2.true)

pub returns-then-time-ne0 : goal.returns-then-time-ne0
returns-then-time-ne0 c =
    stairs-time c.args.kind c.args.which c.args.time _ _ (is-natural c.args.which c.ranges.which
    c.if-which-lt0.false)
    (is-natural c.args.time c.ranges.time c.if-time-lt0.false)
    (is-small c.args.kind c.ranges.kind 2 (omega arith) c.if-kind-ne2.false)
    (not-small c.args.time c.ranges.time 0 c.if-time-ne0.true)

pub overflow_cast-result-2 : goal.overflow_cast-result-2
overflow_cast-result-2 c =
    casts c.args.which c.ranges.which
    c.if-which-lt0.false

pub returns : goal.returns
returns c =
    stairs-kind c.args.kind c.args.which c.args.time _ _ (is-natural c.args.which c.ranges.which
    c.if-which-lt0.false)
    (is-natural c.args.time c.ranges.time c.if-time-lt0.false)
    (is-small c.args.kind c.ranges.kind 2 (omega arith) c.if-kind-ne2.false)
    (is-small c.args.time c.ranges.time 0 (omega arith) c.if-time-ne0.false)
