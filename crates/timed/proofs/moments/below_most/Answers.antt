use native.Mathlib.Omega.{arith}
use Rattle.timed.specs.LeadLaws.{shift-most}
use Rattle.timed.proofs.Shifts.{shift_fits, shift-casts, shift-read}
use Rattle.timed.proofs.moments.below_most.Goals as goal

pub overflow_sub-result : goal.overflow_sub-result
overflow_sub-result c = shift_fits _ c.ranges.bound c.requires

pub overflow_cast-result : goal.overflow_cast-result
overflow_cast-result c = shift-casts _ c.ranges.bound c.requires

pub returns : goal.returns
returns c =
    let e = shift-read c.args.bound c.ranges.bound c.requires in
    (e, omega (arith, e, shift-most c.args.bound c.requires))
