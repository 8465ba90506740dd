use Rattle.std.proofs.Common.{◌*◌, ◌≤◌, take}
use Rattle.text.specs.Text.{Put}
use Rattle.sentence.specs.Line.{classes_from}
use Rattle.sentence.proofs.line.put_classes.Given as goal

abbrev pub invariant-loop-i : goal.invariant-loop-i
invariant-loop-i l = (l.next ≤ 35 * l.i) × Put l.initial.out 0 (classes_from l.memories 0 (take l.i l.dues)) l.out l.next
