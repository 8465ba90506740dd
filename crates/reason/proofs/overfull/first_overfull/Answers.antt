use Prim.Native.Nat.{◌*◌}
use mathlib.Core.Path.{ap, ◌∙◌}
use native.Mathlib.Omega.{arith}
use Rattle.stairs.specs.Tables.{cell, room_of, staircase_of}
use Rattle.stairs.specs.CompletionLaws.{overfull-cong}
use Rattle.reason.specs.Asked.{weight, procs_to, first_of}
use Rattle.reason.specs.WeightLaws.{small-table}
use Rattle.reason.proofs.overfull.first_overfull.Goals as goal

pub find-requires : goal.find-requires
find-requires c =
    (c.requires.fine.classed, c.requires.fine.dues, c.requires.fine.some-due, small-table _ _ c.requires.fine c.table.ensures)

pub returns : goal.returns
unfolding first_of
returns c =
    c.find.ensures
    ∙ ap staircase_of (overfull-cong (cell c.table.result) (weight c.args.o)
    (room_of c.rooms_at.result) (λ k. procs_to c.args.o k * c.args.reach) c.args.o.s c.args.o.q
    (λ x d h l. (c.table.ensures x (omega (arith, c.requires.fine.classed))).at d
    (omega (arith, c.requires.fine.dues)))
    (λ k h. c.rooms_at.ensures.at k (omega (arith, c.requires.fine.classed))))
