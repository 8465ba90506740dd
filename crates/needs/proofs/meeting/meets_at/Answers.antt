use Rattle.std.proofs.Common.{arith}
use Rattle.needs.specs.MeetLaws.{meets-is}
use Rattle.needs.proofs.meeting.meets_at.Goals as goal

pub returns-then-to-le-LONGEST : goal.returns-then-to-le-LONGEST
returns-then-to-le-LONGEST c = grind (arith, meets-is)

pub returns-else-to-le-LONGEST : goal.returns-else-to-le-LONGEST
returns-else-to-le-LONGEST c = grind (arith, meets-is)
