use native.Mathlib.Omega.{arith}
use native.Mathlib.Numerals.{add-one}
use Rattle.allot.proofs.Idle.{idle-read}
use Rattle.allot.proofs.Carrying.{idle-small, given, answered, carried}
use Rattle.allot.proofs.filling.fill_amounts.Goals as goal

pub idle_minutes-requires : goal.idle_minutes-requires
idle_minutes-requires c =
    let z = c.requires.sized in
    let small = idle-small c.args.t c.args.q c.args.marks.now c.args.ready.now c.args.until.now c.args.opens.now c.args.closes.now z _ _
    c.put_caps.ensures c.put_rooms.ensures in (
      omega arith,
      omega (arith, z.few-classes),
      z.few-stretches,
      rw add-one (omega (arith, c.requires.lent.l-room, c.put_rooms.auto)),
      rw add-one (omega (arith, small)),
    )

pub solve-requires-clause-given : goal.solve-requires-clause-given
solve-requires-clause-given c =
    given c.args.t c.args.q c.args.marks.now c.args.ready.now c.args.until.now c.args.opens.now c.args.closes.now c.requires.sized _ _
    c.put_caps.ensures c.put_rooms.ensures _ _ _ _ c.by_number-times.ensures c.by_number-classes.ensures
    (idle-read c.args.t.s c.put_rooms.ensures c.put_times.ensures c.idle_minutes.ensures) c.put_classes.ensures _ (add-one _)

pub returns : goal.returns
returns c =
    let z = c.requires.sized in
    let times = c.put_times in
    let classes = c.put_classes in
    let caps = c.put_caps in
    let rooms = c.put_rooms in
    let idle = idle-read c.args.t.s rooms.ensures times.ensures c.idle_minutes.ensures in
    let by-time = c.by_number-times.ensures in
    let by-class = c.by_number-classes.ensures in
    let solve = c.solve in record {
      answer = answered c.args.t c.args.q c.args.marks.now c.args.ready.now c.args.until.now c.args.opens.now c.args.closes.now z _ _ caps.ensures
          rooms.ensures _ _ _ _ by-time by-class idle classes.ensures _ (add-one _) solve.new.w solve.result solve.ensures.answer;
      run_of = carried c.args.t c.args.q c.args.marks.now c.args.ready.now c.args.until.now c.args.opens.now c.args.closes.now z _ _ caps.ensures
          rooms.ensures _ _ _ _ by-time by-class idle classes.ensures _ (add-one _) solve.new.w solve.result solve.ensures.run_of;
    }
