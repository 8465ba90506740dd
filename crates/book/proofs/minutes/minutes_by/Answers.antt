-- `minutes_by`: the invariant is that the minutes are those of the first j jobs.
use mathlib.Core.Path.{◌≡◌, refl}
use Rattle.order.proofs.StructLaws.{few-jobs, time-in-range-at, maker-in-range-at}
use Rattle.book.proofs.Counting.{minutes-read, one-job-more, all-minutes}
use native.Mathlib.Omega.{arith}
use Rattle.book.proofs.minutes.minutes_by.Goals as goal

pub loop-j-init : goal.loop-j-init
loop-j-init c = (few-jobs c.args.order c.requires, refl)

pub place_of-requires : goal.place_of-requires
place_of-requires c =
    maker-in-range-at c.args.order c.requires c.loop-j.j (omega arith)

pub overflow_add-minutes : goal.overflow_add-minutes
overflow_add-minutes c =
    let l = c.loop-j in
    omega (
      arith,
      minutes-read c.args.order c.requires l.j (omega arith) _ l.invariant.1 _ c.place_of.ensures.1,
      time-in-range-at c.args.order c.requires l.j (omega arith),
    )

pub loop-j-preserved : goal.loop-j-preserved
loop-j-preserved c =
    let l = c.loop-j in
    let e = c.place_of.ensures in
    (l.invariant.0, one-job-more c.args.order l.j _ _ _ l.invariant.1 e.1 e.0 refl)

pub returns : goal.returns
returns c =
    let l = c.loop-j in
    let e : c.args.order.jobs ≡ l.j = omega arith in
    all-minutes c.args.order c.requires l.j _ e l.invariant.1
