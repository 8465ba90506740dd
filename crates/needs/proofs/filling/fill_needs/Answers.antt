use Rattle.std.proofs.Common.{sym, ◌∙◌, length}
use Rattle.needs.proofs.Ended.{
  gap-refused,
  twice-refused,
  place-refused,
  room-refused,
  all-filled,
  refused-ends,
  filled-ends,
}
use Rattle.needs.proofs.filling.fill_needs.Goals as goal

pub returns-in-Some : goal.returns-in-Some
returns-in-Some c =
    let s = c.args in
    let t = refused-ends _ 17 _ _ _ _
    (gap-refused s.table.now c.lines_of-lines.result s.lengths.now (length s.needs.now) c.line_count-n.result
    (c.line_count-n.ensures.0 ∙ sym c.lines_of-lines.ensures) _ c.in-Some.ensures) in
    record { result_value = t.0; needs_after = t.1 }

pub returns-in-Some-first_twice : goal.returns-in-Some-first_twice
returns-in-Some-first_twice c =
    let s = c.args in
    let t = refused-ends _ 18 _ _ _ _
    (twice-refused s.table.now c.lines_of-lines.result s.lengths.now (length s.needs.now) c.line_count-n.result
    (c.line_count-n.ensures.0 ∙ sym c.lines_of-lines.ensures) c.in_default.ensures _ c.in-Some-first_twice.ensures) in
    record { result_value = t.0; needs_after = t.1 }

pub returns-in-Some-first_out : goal.returns-in-Some-first_out
returns-in-Some-first_out c =
    let s = c.args in
    let t = refused-ends _ 5 _ _ _ _
    (place-refused s.table.now c.lines_of-lines.result s.lengths.now (length s.needs.now) c.line_count-n.result
    (c.line_count-n.ensures.0 ∙ sym c.lines_of-lines.ensures) c.in_default.ensures c.in_default-first_twice.ensures _
    c.in-Some-first_out.ensures) in
    record { result_value = t.0; needs_after = t.1 }

pub returns-then-needs-lengths : goal.returns-then-needs-lengths
returns-then-needs-lengths c =
    let s = c.args in
    let t = refused-ends _ 9 0 _ _ _
    (room-refused s.table.now c.lines_of-lines.result s.lengths.now (length s.needs.now) c.line_count-n.result
    (c.line_count-n.ensures.0 ∙ sym c.lines_of-lines.ensures) c.in_default.ensures c.in_default-first_twice.ensures
    c.in_default-first_out.ensures c.if-needs-lengths.true) in
    record { result_value = t.0; needs_after = t.1 }

pub returns : goal.returns
returns c =
    let s = c.args in
    let n = c.line_count-n.result in
    let e = c.line_count-n.ensures.0 ∙ sym c.lines_of-lines.ensures in
    let t = filled-ends s.table.now c.lines_of-lines.result s.lengths.now s.needs.now _ n _
    (all-filled s.table.now c.lines_of-lines.result s.lengths.now (length s.needs.now) n e c.in_default.ensures
    c.in_default-first_twice.ensures c.in_default-first_out.ensures c.if-needs-lengths.false) e c.put_needs.ensures in
    record { result_value = t.0; needs_after = t.1 }
