-- The loop's invariant: the rows of the first s stretches are written, joined, and the next one begins at mark s.
use Rattle.std.proofs.Common.{replicate, take}
use Rattle.wrap.specs.Flows.{amount_in}
use Rattle.layout.specs.Sheet.{sheet, standing}
use Rattle.layout.specs.Planned.{lent_frame, rows_in}
use Rattle.layout.proofs.Framing.{Framing}
use Rattle.layout.proofs.stretches.lay_plan.Given as goal

abbrev pub invariant-loop-s : goal.invariant-loop-s
invariant-loop-s l =
    Framing
    (rows_in (take l.fn.t.m l.fn.t.by_memory) (take l.fn.t.n l.fn.t.by_need) (lent_frame l.q l.marks l.opens l.closes) (amount_in l.q l.w))
    (lent_frame l.q l.marks l.opens l.closes) (sheet 0 (replicate 16 0) l.initial.rows) l.start l.s (standing l.written l.rows)
