use Rattle.std.proofs.Common.{arith}
use Rattle.sentence.proofs.Scans.{below-told, above-told, digit-told}
use Rattle.sentence.proofs.scan.step.Goals.{in_default-via-then-b-lt48, in_default-via-else-b-lt48+else-b-lt58}
use Rattle.sentence.proofs.scan.step.Goals as goal

pub returns-in-48-to-57 : goal.returns-in-48-to-57
returns-in-48-to-57 c = digit-told _ _ _ _ (omega arith) (omega arith) c.from.ensures c.with_digit.ensures

pub returns-in_default : goal.returns-in_default
returns-in_default c =
    elim c.in_default.branch [
      | in_default-via-then-b-lt48 w ↦ below-told _ _ _ (omega arith) c.other_byte.ensures
      | in_default-via-else-b-lt48+else-b-lt58 w ↦ above-told _ _ _ (omega arith) c.other_byte.ensures
    ]
