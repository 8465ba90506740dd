use Rattle.std.proofs.Common.{◌+◌, ◌∙◌, refl, sym, add-one, get_or, take, arith}
use Rattle.engine.specs.View.{row-end}
use Rattle.allot.proofs.Rooms.{open-kinds, open-counts, room-is}
use Rattle.allot.proofs.Shares.{next_start}
use Rattle.allot.proofs.Writing.{place-size, row-next, rows_as, rows_part}
use Rattle.allot.proofs.tables.put_rooms.Goals as goal

pub count_kinds-counts-requires : goal.count_kinds-counts-requires
count_kinds-counts-requires c =
    let p = c.requires.m_bound in
    let l = c.loop-s in
    let t = c.args.t.now in
    let r = c.open_processors-kept.result in
    let e = c.open_processors-kept.ensures in (
      omega (arith, e.0, p.0),
      open-kinds (take t.m t.by_memory) t.kinds c.args.opens.now c.args.closes.now l.start _ r.count
          r.list e.1 t.s p.1 p.4,
    )

pub put_rooms_row-requires : goal.put_rooms_row-requires
put_rooms_row-requires c =
    let p = c.requires.m_bound in
    let l = c.loop-s in
    let t = c.args.t.now in
    let r = c.open_processors-kept.result in
    let e = c.open_processors-kept.ensures in
    let size = place-size l.room l.s (t.s + 1) (omega (arith, row-end l.s (t.s + 1) c.args.q c.loop-s-test.true, p.9, l.auto.room)) in (
      omega (arith, size, p.1),
      open-counts (take t.m t.by_memory) t.kinds c.args.opens.now c.args.closes.now l.start _ r.count
          r.list e.1 c.count_kinds-counts.result c.count_kinds-counts.ensures _ (omega (arith, size, p.1))
          (omega (arith, e.0, p.0)),
      omega (arith, c.requires.small l.s c.loop-s-test.true),
    )

pub loop-s-preserved : goal.loop-s-preserved
loop-s-preserved c =
    let p = c.requires.m_bound in
    let l = c.loop-s in
    let t = c.args.t.now in
    let r = c.open_processors-kept.result in
    let e = c.open_processors-kept.ensures in
    let row = c.put_rooms_row in
    let size = place-size l.room l.s (t.s + 1) (omega (arith, row-end l.s (t.s + 1) c.args.q c.loop-s-test.true, p.9, l.auto.room)) in (
      sym (next_start c.args.marks.now l.s),
      rows_as (add-one t.s)
          (rows_part l.room l.s (t.s + 1) (omega (arith, row-end l.s (t.s + 1) c.args.q c.loop-s-test.true, p.9, l.auto.room)) row.auto.row
          (record {
            at = λ k b.
                row.ensures.at k b
                ∙ room-is (take t.m t.by_memory) t.kinds c.args.opens.now c.args.closes.now l.start (get_or c.args.marks.now l.s 0)
                r.count r.list e.1 c.count_kinds-counts.result c.count_kinds-counts.ensures k (omega (arith, size, p.1))
                c.args.marks.now l.s l.invariant.0 refl;
          })
          (rows_as (sym (add-one t.s)) l.invariant.1)
          (omega (arith, row-next l.s (t.s + 1)))),
    )
