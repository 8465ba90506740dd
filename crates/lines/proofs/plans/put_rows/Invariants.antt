use Prim.Native.Nat.{◌+◌, ◌*◌, ◌≤◌}
use Rattle.sums.specs.Lists.{tabulate}
use Rattle.plan.specs.Check.{row_at}
use Rattle.text.specs.Text.{Put}
use Rattle.lines.specs.Lines.{piece_lines}
use Rattle.lines.proofs.plans.put_rows.Given as goal

abbrev pub invariant-loop-i : goal.invariant-loop-i
invariant-loop-i l = (l.next ≤ l.at + 50 * l.i) × Put l.initial.out l.at (piece_lines (tabulate l.i (row_at l.rows))) l.out l.next
