use Rattle.std.proofs.Common.{◌+◌, ◌*◌, ◌≤◌, take}
use Rattle.text.specs.Text.{Put}
use Rattle.lines.specs.Lines.{signed_numbers}
use Rattle.lines.proofs.answers.put_dues.Given as goal

abbrev pub invariant-loop-due : goal.invariant-loop-due
invariant-loop-due l =
    (l.next ≤ l.at + 12 * l.due-index) × Put l.initial.out l.at (signed_numbers (take l.due-index l.due-items)) l.out l.next
